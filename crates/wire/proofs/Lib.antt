pub mod Parts
pub mod Numbers
pub mod Stands
pub mod Fields
pub mod Turns
pub mod Examples
pub mod HandWalks
