use Rattle.headline.proofs.ReadDesigns.{designs_are_read}
use Rattle.headline.proofs.SmallDesigns.{refused_is_none, small_is_decided}
use Rattle.headline.proofs.WrittenDesigns.{each_has_text, each_is_decided}
use Rattle.headline.proofs.laws.small_designs_are_decided.Goals as goal

pub returns : goal.returns
returns c =
    record {
      decided = small_is_decided;
      refused = refused_is_none;
      text = each_has_text;
      each = each_is_decided;
      read = designs_are_read;
    }
