use Rattle.check_main.proofs.Words.{each_number_asks}
use Rattle.check_main.proofs.laws.each_worker_count_is_accepted.Goals as goal

pub returns : goal.returns
returns c = each_number_asks
