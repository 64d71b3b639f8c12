use Rattle.lanes.proofs.Imports.{IsBlockHeld, IsNotRowEndBlock, cell_at, marks_of, true, ℕ, ◌<◌, ◌≡◌}
use Rattle.lanes.proofs.frozen.FrozenBlocks.are_marked_blocks_held.Given as goal

-- the blocks so far are held, and the last ones of the rows have marks
abbrev pub invariant-loop-u : goal.invariant-loop-u
invariant-loop-u l = record {
  held : (u : ℕ) → u < l.u → IsNotRowEndBlock l.partition l.planes.stride u →
      cell_at (marks_of l.partition l.self.marks) u ≡ true → IsBlockHeld l.partition l.self.marks l.planes u;
  last : (u : ℕ) → u < l.u → (IsNotRowEndBlock l.partition l.planes.stride u → ⊥) →
      cell_at (marks_of l.partition l.self.marks) u ≡ true;
}
