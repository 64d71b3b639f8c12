-- The text of a bundle: two balls meet in a gate, in the middle of four modules, and a third one takes three steps on
-- its own. Stops show when they begin, and when the third arrives. It is `examples/timed_modules.txt`.
use Rattle.std.specs.Prelude.{ℕ, List, ◌++◌, codes}

-- the bytes of the text
unfoldable pub timed_modules_text : List ℕ
timed_modules_text =
    codes
    "circuit\ninput p\ninput q\ninput r\ninteract p q -> a b c d\ndelay 3 r -> s\noutput a\noutput b\noutput c\noutput d\noutput s\nend\n"
    ++ codes "layout 8 8 3\nin p 2 2\nin q 5 5\nin r 0 4\nout a 5 2\nout b 2 2\nout c 5 5\nout d 2 5\nout s 3 7\nend\n"
    ++ codes "certificate 1\n"
    ++ codes "module 0 0 4 4\ncut p\ncut q\nuse 0\nedge 1 3 3 p\nhalo 1 4 4 q\nstop 0 p 2 2\n"
    ++ codes "module 4 0 4 4\ncut p\ncut q\nuse 0\nhalo 1 3 3 p\nhalo 1 4 4 q\n"
    ++ codes
    "module 0 4 4 4\ncut p\ncut q\ncut r\nuse 0\nuse 1\nhalo 1 3 3 p\nhalo 1 4 4 q\nstop 0 r 0 4\nstop 3 s 3 7\n"
    ++ codes "module 4 4 4 4\ncut p\ncut q\nuse 0\nedge 1 4 4 q\nhalo 1 3 3 p\nstop 0 q 5 5\nend\n"
