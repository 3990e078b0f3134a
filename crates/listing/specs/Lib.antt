-- What the contracts of this crate cite.
pub mod Listings
pub mod Drafts
pub mod Outcomes
pub mod Texts
