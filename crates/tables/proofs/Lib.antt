pub mod Opening
pub mod Places
pub mod Widths
