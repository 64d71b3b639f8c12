use Rattle.lanes.proofs.LiveLemmas.{dead_at}
use Rattle.lanes.proofs.marked_planes.MarkedPlanes.word_of_live_numbers.Goals as goal

pub returns : goal.returns
returns c = λ u e none lt.
    let f = c.args.self.now in dead_at u f.live_marks f.planes lt f.all_dead (c.word.ensures u e none)
