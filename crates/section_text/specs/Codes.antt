-- The codes of refusals, and of tests that a line fails.
use Rattle.std.specs.Prelude.{ℕ, Bool, Option, Some, None, if◌then◌else◌}
use Rattle.section_text.specs.declared.code.RefusalCode.{RefusalCode}
use Rattle.section_text.specs.declared.code.RefusalCode.TheVariants.{ConsumedTwice, DefinedTwice, MisplacedBox, NoForm}
use Rattle.section_text.specs.declared.code.RefusalCode.TheVariants.{NoPlace, NotLocal, OutOfOrder, PastLimit}
use Rattle.section_text.specs.declared.code.RefusalCode.TheVariants.{SomethingMissing, TakenCell, TextCut, UnknownName}

-- the number of a code
abbrev pub code_number : RefusalCode → ℕ
code_number NoForm = 1
code_number PastLimit = 2
code_number UnknownName = 3
code_number DefinedTwice = 4
code_number ConsumedTwice = 5
code_number OutOfOrder = 6
code_number TakenCell = 7
code_number MisplacedBox = 8
code_number NotLocal = 9
code_number NoPlace = 10
code_number SomethingMissing = 11
code_number TextCut = 12

-- the first code, if any
abbrev pub or_else : Option RefusalCode → Option RefusalCode → Option RefusalCode
or_else None other = other
or_else (Some code) other = Some code

-- the code of a test that fails
abbrev pub code_if : Bool → RefusalCode → Option RefusalCode
code_if fails code = if fails then Some code else None
