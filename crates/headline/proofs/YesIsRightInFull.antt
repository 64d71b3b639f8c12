-- A text that is reported with a yes is right in full.
use Rattle.headline.proofs.Imports.{AreGoodCircuitLines, CircuitLine, HasRightStops, IsReportOf, IsRight, List, Option}
use Rattle.headline.proofs.Imports.{Some, Yes, inputs_are_first, sym, ℕ, ◌∙◌, ◌≡◌}
use Rattle.circuit.proofs.Naming.{names_are_own}
use Rattle.headline.specs.Laws.{YesMeansRightInFull}
use Rattle.headline.specs.RightInFull.{HasDistinctNames, IsRightInFull}
use Rattle.headline.proofs.Designs.{one_design}
use Rattle.headline.proofs.PlainTexts.{yes_off_rim}
use Rattle.headline.proofs.Printed.{printed_is_read}
use Rattle.headline.proofs.YesIsPrinted.{yes_is_right}
use Rattle.headline.proofs.YesIsRight.{good_designs, not_refused, one_valuation, yes_has_right_stops}

-- a name is that of one wire
distinct : (circuit : List CircuitLine) → AreGoodCircuitLines circuit → HasDistinctNames circuit
distinct circuit good u w name at at' =
    let same : ◌≡◌ {A = Option ℕ} (Some u) (Some w) =
    sym (names_are_own circuit u name good at) ∙ names_are_own circuit w name good at' in
    cc

-- what is known of a report with a yes is of one design
in_full : (text output : List ℕ) → IsReportOf text output Yes → (right : IsRight text) → HasRightStops text →
    IsRightInFull text
in_full text output says right stops =
    let said = printed_is_read text right.circuit right.layout right.begins in
    let same = one_design text stops.circuit right.circuit stops.layout right.layout stops.says.design said in
    let good = good_designs text output Yes right.circuit right.layout says not_refused said in
    record {
      right = right;
      stops = stops;
      same_circuit = same.0;
      same_layout = same.1;
      one_valuation = λ inputs. let all = right.correct.implements inputs in record {
        values = all.values;
        satisfied = all.satisfied;
        only = λ v fits. one_valuation text output right.circuit right.layout inputs v all.values says said fits
            all.satisfied;
      };
      off_rim = λ touches. yes_off_rim text output says
          (record { circuit = right.circuit; layout = right.layout; says = said; touches = touches });
      good = good;
      distinct_names = distinct right.circuit good.circuit_lines;
      inputs_first = inputs_are_first right.circuit good.circuit_lines;
    }

pub yes_is_right_in_full : YesMeansRightInFull
yes_is_right_in_full text output says =
    in_full text output says (yes_is_right text output says) (yes_has_right_stops text output says)
