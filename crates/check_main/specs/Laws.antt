-- Laws of the words.
use Rattle.std.specs.Prelude.{◌≡◌, ◌≤◌, ℕ, List, [], ◌∷◌, codes}
use Rattle.std.specs.Fmt.{decimal}
use Rattle.clap.specs.Walk.{Text}
use Rattle.command_line.specs.CommandLine.{workers_asked}
use Rattle.check_main.specs.Program.{AsksForCheck}

-- the word `check` alone is accepted, and asks for `check`
abbrev pub CheckWordAsksForCheck : Type 0
CheckWordAsksForCheck = AsksForCheck (codes "check" ∷ [])

-- the words `check --workers N`, with the number in decimal digits
abbrev pub words_with_workers : ℕ → List Text
words_with_workers n = codes "check" ∷ codes "--workers" ∷ decimal n ∷ []

-- for each number from 1 to 64, these words are accepted, and ask for `check` with this number of workers
abbrev pub EachWorkerCountIsAccepted : Type 0
EachWorkerCountIsAccepted = (n : ℕ) → 1 ≤ n → n ≤ 64 →
    AsksForCheck (words_with_workers n) × (workers_asked (words_with_workers n) ≡ n)
