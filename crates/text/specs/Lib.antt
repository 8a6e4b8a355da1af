pub mod Names
pub mod Numeral
pub mod Printed
pub mod Reading
pub mod Template
pub mod Writing
