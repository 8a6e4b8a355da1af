pub mod Moving
pub mod Reversed
pub mod Rows
pub mod Storing
pub mod Undone
