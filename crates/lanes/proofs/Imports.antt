-- The names from outside this folder that two or more proofs of this crate use, in one file to import them from.
pub use Rattle.bbm_rule.proofs.BitLemmas.{bit-and, bit-is, bit-xor, bit-zero, by_eq_or_not, by_lt_or_le, xor}
pub use Rattle.bbm_rule.proofs.Imports.{Bool, IsNumberUnmarked, List, ap, arith, bit_and, bit_at, bit_or, bit_xor}
pub use Rattle.bbm_rule.proofs.Imports.{common_steps, div-add-mod, false, false≢true, get_or, get_or-set_other}
pub use Rattle.bbm_rule.proofs.Imports.{get_or-set_same, inl, inr, length, not, refl, set, sym, trailing_zeros, true}
pub use Rattle.bbm_rule.proofs.Imports.{w64, ℕ, ◌%◌, ◌&&◌, ◌*◌, ◌+◌, ◌-◌, ◌/◌, ◌<◌, ◌^◌, ◌||◌, ◌∙◌, ◌≡◌, ◌≢◌, ◌≤◌, ◌⊎◌}
unfoldable pub use Rattle.bbm_rule.proofs.Imports.{bit, cell_at, turned}
pub use Rattle.bbm_rule.proofs.MarkLemmas.{bit_ones}
pub use Rattle.bbm_rule.specs.Words.{AreCornerWordsTurned, AreCornerWordsTurnedAt}
pub use Rattle.lanes.specs.Blocks.{AreCellNumbers, IsNotRowEndBlock, block_at, block_number_count, is_main_diagonal}
pub use Rattle.lanes.specs.Blocks.{marks_of}
pub use Rattle.lanes.specs.Borders.{AreBorderNumbersMarked}
pub use Rattle.lanes.specs.Calm.{AreNumberedCellsDead, AreUnmarkedBlocksStable, ChangesOnlyDiagonals}
pub use Rattle.lanes.specs.Frozen.{AreMarkedBlocksStable, ArePlaneWordsInRange, HasRoomForAllBlockMarks, IsBlockHeld}
pub use Rattle.lanes.specs.Frozen.{IsBlockHeldAndEmpty, KeepsCellsOutsideBlocks}
pub use Rattle.lanes.specs.Held.{HasValueUnderEachAssignment, cell_word_bit}
pub use Rattle.lanes.specs.Lanes.{HasWordsStrideRows}
unfoldable pub use Rattle.lanes.specs.Lanes.{lane, plane_of}
pub use Rattle.lanes.specs.Live.{AreAllUnmarkedCellsDead, AreBlockCellsUnmarked, AreNumberCellsUnmarked, IsDeadCell}
pub use Rattle.lanes.specs.Live.{TakesMarkOfOther}
pub use Rattle.lanes.specs.Sweeps.{IsBlockWordSame, IsBlockWordTurned, IsPassedBlock, TurnsBlocksSatisfying}
pub use Rattle.lanes.specs.Sweeps.{TurnsNumberedBlocksBetween}
pub use Rattle.lanes.specs.Turns.{IsAntiDiagonalStable, IsBlockStable, IsDiagonalStable, IsMainDiagonalStable}
pub use Rattle.lanes.specs.Turns.{IsSameOutsidePart, SwapsPart, TurnsBlock, TurnsPart}
pub use Rattle.lanes.specs.declared.block_marks.BlockMarks.{BlockMarks}
pub use Rattle.lanes.specs.declared.blocks.BlockPlaces.{BlockPlaces}
pub use Rattle.lanes.specs.declared.blocks.Partition.{Partition}
pub use Rattle.lanes.specs.declared.blocks.Partition.TheVariants.{Even, Odd}
pub use Rattle.lanes.specs.declared.live.LiveMarks.{LiveMarks}
pub use Rattle.lanes.specs.declared.planes.Planes.{Planes}
pub use Rattle.lemmas.proofs.Common.{get_or-drop, get_or-take, get_or_read, mod-lt, mul-le-mul_left, not-false}
pub use Rattle.lemmas.proofs.Common.{slice_index, subst}
