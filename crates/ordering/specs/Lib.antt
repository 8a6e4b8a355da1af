pub mod Ordered
pub mod Runs
pub mod Unsorted
pub mod WiderFirst
