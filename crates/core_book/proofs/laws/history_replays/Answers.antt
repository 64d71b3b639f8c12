use Rattle.core_book.proofs.BookLaws.{stays-replayed}
use Rattle.core_book.proofs.Replays.{closed-by_its_history}
use Rattle.core_book.proofs.laws.history_replays.Goals as goal

pub returns : goal.returns
returns c = record { stays = stays-replayed; closed = closed-by_its_history }
