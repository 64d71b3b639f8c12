pub mod Implements
pub mod Design
pub mod Printed
pub mod Headline
pub mod Streams
