-- The lemmas that several functions share.
pub mod Placing
pub mod Adding
pub mod Examples
pub mod Listed
