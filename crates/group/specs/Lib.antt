pub mod Said
pub mod Acts
pub mod Rules
pub mod Survival
pub mod NeverFull
pub mod Inner
