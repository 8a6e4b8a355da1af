pub mod Residues
pub mod Elements
pub mod FourWords
pub mod Folds
pub mod Slices
pub mod Generators
pub mod PowerTable
pub mod ElementField
pub mod Embedding
pub mod Enumerated
pub mod ElementWords
pub mod Settled
mod Worked
