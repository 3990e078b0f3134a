pub mod Rows
pub mod Faults
pub mod Lists
pub mod Runs
