pub mod Survival
pub mod Beyond
