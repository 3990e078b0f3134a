pub mod Tables
pub mod Facts
