pub mod Parts
pub mod PartFacts
pub mod Stages
pub mod Histories
pub mod Wholes
