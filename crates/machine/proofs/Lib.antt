pub mod Padding
pub mod Largest
