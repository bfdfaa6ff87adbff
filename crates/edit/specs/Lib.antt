pub mod Edited
pub mod Inner
