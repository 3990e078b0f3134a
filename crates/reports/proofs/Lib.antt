-- The lemmas that several functions share.
pub mod Steps
pub mod Collected
pub mod Joins
pub mod Examples
