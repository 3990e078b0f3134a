pub mod Below
pub mod Sections
pub mod Prefixes
pub mod Files
pub mod Outputs
