pub mod RefusedPairs
mod Worked
