use Rattle.headline.proofs.YesIsRight.{fourth_line-tells, one_valuation, yes_has_right_stops}
use Rattle.headline.proofs.FourthLines.{fourth_line_is_line}
use Rattle.headline.proofs.YesIsPrinted.{right_as_read, yes_is_right}
use Rattle.headline.proofs.YesIsRightInFull.{yes_is_right_in_full}
use Rattle.headline.proofs.laws.yes_means_right.Goals as goal

pub returns : goal.returns
returns c =
    record {
      right = yes_is_right;
      as_read = right_as_read;
      stops = yes_has_right_stops;
      in_full = yes_is_right_in_full;
      one_valuation = one_valuation;
      fourth_line_shown = fourth_line-tells;
      line = fourth_line_is_line;
    }
