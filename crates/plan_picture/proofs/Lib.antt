pub mod Appending
pub mod Drawings
pub mod Scales
pub mod Shares
mod Worked
