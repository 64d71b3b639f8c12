use Rattle.lanes.proofs.Imports.{IsNumberUnmarked, List, arith, bit-zero, by_lt_or_le, cell_at, common_steps, get_or, ℕ}
use Rattle.lanes.proofs.Imports.{◌%◌, ◌/◌, ◌≡◌}
use Rattle.lemmas.proofs.Common.{replicate, get_or-replicate, get_or_past, length-replicate}
use Rattle.lanes.proofs.live.LiveMarks.new.Goals as goal

abbrev zeros : ℕ → List ℕ
zeros n = replicate n 0

zero_word : (n k : ℕ) → get_or (zeros n) k 0 ≡ 0
zero_word n k = grind (arith, common_steps, by_lt_or_le, get_or-replicate, length-replicate, get_or_past)

unmarked : (n : ℕ) (marks : List ℕ) (u : ℕ) → marks ≡ zeros n → IsNumberUnmarked marks u
unfolding cell_at
unmarked n marks u e = rw (e, zero_word n (u / 64)) (bit-zero (u % 64))

pub returns-clause-no_cell_marked : goal.returns-clause-no_cell_marked
returns-clause-no_cell_marked c u = grind (arith, common_steps, unmarked)
