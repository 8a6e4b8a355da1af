pub mod Chunks
pub mod Counts
pub mod Fills
pub mod Numerals
pub mod Orders
pub mod Pages
pub mod Templates
pub mod Words
pub mod Writings
mod Worked
