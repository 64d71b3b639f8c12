pub mod LayoutCells
pub mod JobSignals
pub mod StopParts
pub mod KeptGates
pub mod WholeRuns
pub mod InputRuns
pub mod FirstFaults
pub mod PlainCertificates
pub mod EarliestLines
pub mod Trials
pub mod Examples
pub mod PortNames
mod WrongExamples
pub mod YesMeansCorrect
mod BoxLists
pub mod NumberedSignals
pub mod SomeJobs
pub mod SomeValues
pub mod SomeLeast
pub mod SomeFaults
pub mod SomeVerdict
pub mod ModuleJobs
pub mod Migrated
pub mod Imports
