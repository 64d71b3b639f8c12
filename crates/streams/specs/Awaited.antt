-- The reader inside an `Prompting`.
use Rattle.streams.specs.declared.prompting.Prompting.{Prompting}

-- the reader that is wrapped
abbrev pub input_of : {R W : Type 0} → Prompting R W → R
input_of awaited = awaited.input
