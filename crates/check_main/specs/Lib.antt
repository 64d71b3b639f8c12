pub mod Status
pub mod Stream
pub mod Laws
pub mod Commands
pub mod Program
pub mod Audits
pub mod Preparing
