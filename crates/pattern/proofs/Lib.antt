mod NameSets
pub mod Orders
pub mod Added
pub mod TakenLemmas
pub mod OwnCells
pub mod ReadingLemmas
pub mod Named
pub mod Printed
pub mod InsideLemmas
pub mod StartLemmas
pub mod PlaneRuns
pub mod Spelling
pub mod RoundTrip
pub mod PortLines
pub mod Imports
pub mod LimitLaws
