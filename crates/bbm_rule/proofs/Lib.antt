pub mod BitLemmas
pub mod Turning
pub mod Lanes
pub mod PairLemmas
pub mod BlockRuns
pub mod ShiftedRuns
pub mod Spans
pub mod Steps
pub mod PlaneLemmas
pub mod BoardLemmas
pub mod Boards
pub mod CellLemmas
pub mod MarkLemmas
mod FilledRuns
mod GapLemmas
pub mod BandLemmas
pub mod GridLemmas
mod Meetings
pub mod Moving
pub mod SameCells
pub mod RingTests
pub mod CellLists
pub mod CellOrder
pub mod RectangleLemmas
pub mod Imports
