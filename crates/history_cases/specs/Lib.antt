pub mod Today
pub mod Histories
pub mod FiveBoxes
pub mod Ordinary
pub mod Bent
