pub mod Parts
pub mod Numbers
pub mod Inner
