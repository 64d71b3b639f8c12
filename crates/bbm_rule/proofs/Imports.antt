-- The names from outside this folder that two or more proofs of this crate use, in one file to import them from.
pub use Rattle.bbm_rule.specs.Bands.{AreUnmarkedRowPairsStable}
pub use Rattle.bbm_rule.specs.Bits.{AreSameBits, HasNoSetBit}
unfoldable pub use Rattle.bbm_rule.specs.Bits.{bit}
pub use Rattle.bbm_rule.specs.Board.{Board, is_inside, live}
pub use Rattle.bbm_rule.specs.GridView.{board}
pub use Rattle.bbm_rule.specs.Marks.{IsNumberUnmarked, MarksOneNumber}
pub use Rattle.bbm_rule.specs.Plane.{State, parity}
unfoldable pub use Rattle.bbm_rule.specs.Plane.{partner, step, turned}
pub use Rattle.bbm_rule.specs.Rows.{AreFlipBitsForTurn, AreSameCells, FillsRowPart, HasDeadMarginInRow, HasWordAt}
pub use Rattle.bbm_rule.specs.Rows.{IsWordPairTurned, SetsCellAtPlace, SetsWordAt, TurnsRowPart, TurnsRows}
pub use Rattle.bbm_rule.specs.Rows.{flip_carried_bits, is_board_cell}
unfoldable pub use Rattle.bbm_rule.specs.Rows.{cell_at, paired_place}
unfoldable pub use Rattle.bbm_rule.specs.Spans.{in_span}
pub use Rattle.bbm_rule.specs.Words.{TurnsCornerWordsBetween}
unfoldable pub use Rattle.bbm_rule.specs.Words.{turned_block_number}
pub use Rattle.lemmas.proofs.Common.{Bool, List, SFits, [], and-false, and_parts, ap, arith, bit_and, bit_at, bit_at-lt}
pub use Rattle.lemmas.proofs.Common.{bit_or, bit_xor, cases_Bool, common_steps, cond-false, cond-true, div-add-mod}
pub use Rattle.lemmas.proofs.Common.{div-mul-add, eqb-true, false, false≢true, get_or, get_or-set_other}
pub use Rattle.lemmas.proofs.Common.{get_or-set_same, inl, inr, ints, le-leb, length, length-set, ltb-true, map}
pub use Rattle.lemmas.proofs.Common.{mod-mul-add, mul-le-mul_right, nat_eq, nat_lt, nat_tests, negsuc, next_neg, not}
pub use Rattle.lemmas.proofs.Common.{not_lt_test, or-false, pos, pred_pos, refl, set, suc, sym, to_z-of_z}
pub use Rattle.lemmas.proofs.Common.{trailing_zeros, true, w32, w64, with_items, with_items_is, zero, ℕ, ℤ, ◌%◌, ◌&&◌}
pub use Rattle.lemmas.proofs.Common.{◌*◌, ◌+ℤ◌, ◌+◌, ◌-ℤ◌, ◌-◌, ◌/◌, ◌<◌, ◌^◌, ◌||◌, ◌∙◌, ◌∷◌, ◌≡◌, ◌≢◌, ◌≤◌, ◌⊎◌}
