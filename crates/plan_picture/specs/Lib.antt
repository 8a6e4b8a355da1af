pub mod Fields
pub mod Parts
pub mod Picture
pub mod Scale
pub mod Share
pub mod Slices
pub mod Texts
