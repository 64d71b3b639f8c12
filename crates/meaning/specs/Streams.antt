-- A yes as outputs, readers and writers show it: the fourth line of an output, and what a reader had to give.
use Rattle.std.specs.Prelude.{◌≡◌, ◌<◌, ◌==◌, ℕ, List, ◌++◌, Option, Some, length, slice_get, codes}
use Rattle.std.specs.List.{slice_split}

-- the fourth line of an output says yes, and a line feed ends it
abbrev pub FourthLineSaysYes : List ℕ → Type 0
FourthLineSaysYes output = let parts = slice_split (λ b. b == 10) output in
    (slice_get parts 3 ≡ Some (codes "verdict yes")) × (4 < length parts)

-- P holds of what there is to read, if that is known
abbrev pub HoldsOfKnownInput : (List ℕ → Type 0) → Option (List ℕ) → Type 0
HoldsOfKnownInput P left = (text : List ℕ) → left ≡ Some text → P text

-- A writer's bytes are known, before and after. If the output says yes, P holds of what there was to read, if known.
abbrev pub YesMeans : (List ℕ → Type 0) → Option (List ℕ) → Option (List ℕ) → Option (List ℕ) → Type 0
YesMeans P left written_bytes written_bytes' = (before output : List ℕ) → written_bytes ≡ Some before →
    written_bytes' ≡ Some (before ++ output) → FourthLineSaysYes output → HoldsOfKnownInput P left
