pub mod Sorting
pub mod Insertion
pub mod Choices
pub mod MergedRuns
pub mod RunLaws
pub mod Orders
pub mod Gathers
pub mod Unsorteds
pub mod NeverSix
pub mod AsGiven
pub mod Consequences
pub mod WiderPlaces
mod Worked
