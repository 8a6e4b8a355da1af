pub mod Planned
pub mod Printing
pub mod Spelling
pub mod Steps
