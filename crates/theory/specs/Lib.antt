-- The specifications of the crate.
pub mod Trimmed
pub mod Graph
pub mod Layout
pub mod Theorems
pub mod Levels
