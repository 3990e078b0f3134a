pub mod Puts
pub mod Ascents
pub mod Histories
pub mod Calls
pub mod Finishing
pub mod Batches
pub mod Wholes
