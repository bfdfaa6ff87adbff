pub mod LentParts
pub mod Steps
pub mod Registers
pub mod Marks
pub mod StateBytes
pub mod Rounds
pub mod NewestWrite
