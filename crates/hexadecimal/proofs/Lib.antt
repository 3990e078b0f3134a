-- The lemmas behind the proofs.
pub mod Pairs
