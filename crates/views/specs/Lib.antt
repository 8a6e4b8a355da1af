pub mod Strided
pub mod Shapes
