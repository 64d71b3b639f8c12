pub mod Sums
pub mod Moves
pub mod Ends
pub mod Members
pub mod Filed
pub mod Risen
pub mod Imports
mod Linking
