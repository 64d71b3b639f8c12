use Rattle.lanes.proofs.Imports.{IsBlockHeldAndEmpty, Odd, cell_at, true, ℕ, ◌<◌, ◌≡◌}
use Rattle.lanes.proofs.frozen.FrozenBlocks.are_blocks_empty.Given as goal

-- the blocks so far are empty
abbrev pub invariant-loop-u : goal.invariant-loop-u
invariant-loop-u l = (u : ℕ) → u < l.u → cell_at l.self.empty.items u ≡ true →
    IsBlockHeldAndEmpty Odd l.self.marks l.planes u
