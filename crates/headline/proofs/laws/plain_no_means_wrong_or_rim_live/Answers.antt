use Rattle.headline.proofs.PlainLines.{plain_lines_decide}
use Rattle.headline.proofs.PlainTexts.{no_is_wrong, plain_is_decided, yes_off_rim}
use Rattle.headline.proofs.laws.plain_no_means_wrong_or_rim_live.Goals as goal

pub returns : goal.returns
returns c =
    record {
      plain_no_is_wrong = no_is_wrong;
      off_rim = yes_off_rim;
      decided = plain_is_decided;
      lines = plain_lines_decide;
    }
