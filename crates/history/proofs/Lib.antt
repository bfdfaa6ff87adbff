pub mod Group
pub mod Fairness
pub mod Follow
pub mod Survival
pub mod Regular
pub mod Beyond
pub mod Reserved
