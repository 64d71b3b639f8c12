pub mod Lists
pub mod Rule
pub mod Seats
pub mod Closings
pub mod Work
pub mod Links
