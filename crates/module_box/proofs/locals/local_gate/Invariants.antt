use Rattle.module_box.proofs.Imports.{get_or, length, ℕ, ◌<◌, ◌≡◌}
use Rattle.module_box.proofs.locals.local_gate.Given as goal

abbrev pub invariant-loop-place : goal.invariant-loop-place
invariant-loop-place l = record {
  four : length l.ins ≡ 4;
  within : (k : ℕ) → k < l.place → get_or l.ins k 0 < length l.known;
  same : (k : ℕ) → k < l.place → get_or l.known (get_or l.ins k 0) 0 ≡ get_or l.wire-items k 0;
}
