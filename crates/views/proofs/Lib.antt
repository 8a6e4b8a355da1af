pub mod Cells
pub mod Shapes
pub mod ViewedCells
mod Worked
