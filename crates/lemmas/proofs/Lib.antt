pub mod Booleans
pub mod Numbers
pub mod Lists
pub mod Orders
pub mod Common
