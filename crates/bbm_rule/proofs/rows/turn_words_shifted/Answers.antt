use Rattle.bbm_rule.proofs.ShiftedRuns.{word_shifted}
use Rattle.bbm_rule.proofs.rows.turn_words_shifted.Goals as goal

pub returns-clause-turned : goal.returns-clause-turned
returns-clause-turned c = (word_shifted c.args.i c.args.stride _ _ c.args.main c.args.anti _ _ c.args.words.now
    c.requires.stride_positive c.requires.rows_inside c.requires.no_main_at_stride_1 c.ranges.main.fits
    c.ranges.anti.fits c.word_from_second_cell.ensures
    c.word_from_second_cell-2.ensures c.block_flips-next_main.ensures.flips).0

pub returns-clause-stays : goal.returns-clause-stays
returns-clause-stays c = λ none.
    let same = c.block_flips-next_main.ensures.no_flips_if_zero none in
    (word_shifted c.args.i c.args.stride _ _ c.args.main c.args.anti _ _ c.args.words.now
    c.requires.stride_positive c.requires.rows_inside c.requires.no_main_at_stride_1 c.ranges.main.fits
    c.ranges.anti.fits c.word_from_second_cell.ensures
    c.word_from_second_cell-2.ensures c.block_flips-next_main.ensures.flips).1 same.0 same.1
