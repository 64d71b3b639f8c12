mod ByStatus
pub mod Closings
mod Ends
mod RightStreams
mod SectionBytes
mod Words
pub mod Imports
