pub mod Lines
pub mod Plans
pub mod Readings
pub mod Runs
pub mod Spellings
pub mod Texts
pub mod Wholes
mod Worked
