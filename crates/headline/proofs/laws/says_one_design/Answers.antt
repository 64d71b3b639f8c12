use Rattle.headline.proofs.Designs.{one_certificate, one_design}
use Rattle.headline.proofs.Printed.{begins_with_one, printed_is_read}
use Rattle.headline.proofs.YesIsPrinted.{read_is_printed}
use Rattle.headline.proofs.YesIsRight.{good_designs}
use Rattle.headline.proofs.laws.says_one_design.Goals as goal

pub returns : goal.returns
returns c = record {
  one = one_design;
  certificate = one_certificate;
  unrefused_is_good = good_designs;
  printed = printed_is_read;
  read = read_is_printed;
  begins = begins_with_one;
}
