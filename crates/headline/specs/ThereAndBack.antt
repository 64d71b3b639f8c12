-- The text of a bundle without steps: a switch, and its inverse gate, which the one module keeps. It is
-- `examples/there_and_back.txt`.
use Rattle.std.specs.Prelude.{ℕ, List, ◌++◌, codes}

-- the bytes of the text
unfoldable pub there_and_back_text : List ℕ
there_and_back_text =
    codes "circuit\ninput c\ninput x\nswitch c x -> d y z\nunswitch d y z -> e w\noutput e\noutput w\nend\n"
    ++ codes "layout 2 2 0\nin c 0 0\nin x 1 0\nout e 0 0\nout w 1 0\nend\n"
    ++ codes "certificate 1\nmodule 0 0 2 2\ncut c\ncut x\nuse 0\nuse 1\nkeep 1\nend\n"
