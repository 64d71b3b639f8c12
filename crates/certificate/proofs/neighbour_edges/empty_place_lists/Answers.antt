-- One empty list more.
use Rattle.certificate.proofs.Imports.{EdgePlace, arith}
use Rattle.lemmas.proofs.Common.{Global, Vec, length_push}
use Rattle.certificate.proofs.HaloLists.{list_pushed}
use Rattle.certificate.proofs.neighbour_edges.empty_place_lists.Goals as goal

pub loop-number-preserved : goal.loop-number-preserved
loop-number-preserved c = rw c.in_ok-push.ensures.items record {
  count = omega (arith, length_push c.loop-number.lists.items c.new.result);
  empty = list_pushed (λ (l : Vec EdgePlace Global). l.items) c.loop-number.lists.items c.new.result
      c.loop-number.invariant.empty c.new.ensures.items;
}
