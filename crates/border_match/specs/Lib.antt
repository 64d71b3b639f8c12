pub mod BorderFaults
pub mod Candidates
pub mod Boards
pub mod Surroundings
pub mod Laws
