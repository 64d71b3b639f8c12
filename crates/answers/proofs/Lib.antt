mod AskedLemmas
mod InNames
pub mod KeptLines
pub mod ModuleText
pub mod Bundles
pub mod SectionLines
