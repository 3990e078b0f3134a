-- The lemmas that several functions share, and the law.
pub mod Fronts
pub mod Leaves
pub mod Decimals
pub mod Somes
pub mod Lines
pub mod NumbersBack
pub mod RowsBack
pub mod MachinesBack
pub mod Examples
