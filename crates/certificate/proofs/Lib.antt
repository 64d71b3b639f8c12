pub mod JobLemmas
pub mod KeepLemmas
pub mod LayoutTableLemmas
pub mod TimetableLemmas
pub mod StopLemmas
pub mod TimeLemmas
pub mod SeenLaws
pub mod ArrivalLemmas
pub mod BorderOrder
pub mod FullModules
pub mod HaloLists
pub mod HaloSignals
pub mod HaloTables
pub mod LineSignals
pub mod SortedLines
pub mod JobsSoFar
pub mod StoredSignals
pub mod Migrated
pub mod MeantLines
pub mod Soundness
pub mod Spelling
mod RoundTrip
mod ReadModules
pub mod NearLines
mod PrintedLines
pub mod JobPlaces
pub mod CellRows
pub mod Imports
pub mod LimitLaws
