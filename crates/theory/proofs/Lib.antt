-- The proofs of the crate.
pub mod Trim
pub mod Steps
pub mod Trails
pub mod Useful
pub mod Order
pub mod Nodes
pub mod Reading
pub mod Leveled
