-- The text of a bundle with a wrong layout: two balls meet in a gate, and two of its outputs have changed places. It is
-- `examples/plain_no.txt`.
use Rattle.std.specs.Prelude.{ℕ, List, ◌++◌, codes}

-- the bytes of the text
unfoldable pub plain_no_text : List ℕ
plain_no_text =
    codes "circuit\ninput p\ninput q\ninteract p q -> a b c d\noutput a\noutput b\noutput c\noutput d\nend\n"
    ++ codes "layout 8 8 3\nin p 2 2\nin q 5 5\nout a 5 2\nout b 5 5\nout c 2 2\nout d 2 5\nend\n"
    ++ codes "certificate 2\nmodule 0 0 8 8\ncut p\ncut q\nuse 0\nstop 1 p 3 3\nstop 1 q 4 4\nend\n"
