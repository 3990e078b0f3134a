pub mod ProductionBytes
pub mod Places
pub mod Lookups
pub mod Opening
pub mod MachineRows
pub mod Views
