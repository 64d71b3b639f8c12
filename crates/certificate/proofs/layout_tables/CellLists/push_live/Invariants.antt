-- The cells of the mirrors so far are in the lists.
use Rattle.certificate.proofs.Imports.{Live, One, replicate, ◌++◌, ◌≡◌}
use Rattle.certificate.proofs.layout_tables.CellLists.push_live.Given as goal

abbrev pub invariant-loop-mirror : goal.invariant-loop-mirror
invariant-loop-mirror l = record {
  starts : l.self.starts ≡ l.fn.self.starts ++ replicate l._mirror One;
  demands : l.self.demands ≡ l.fn.self.demands ++ replicate l._mirror Live;
}
