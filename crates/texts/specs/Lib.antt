-- What the contracts of this crate cite.
pub mod Reading
pub mod Laws
pub mod Outcomes
