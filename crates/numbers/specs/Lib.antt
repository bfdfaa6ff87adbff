pub mod Refusals
pub mod Inner
