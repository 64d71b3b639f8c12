pub mod Awaited
pub mod Device
pub mod Over
pub mod Retrying
