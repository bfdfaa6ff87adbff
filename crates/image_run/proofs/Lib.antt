pub mod NextImages
pub mod RunTurns
pub mod TablesWalked
pub mod Walks
pub mod Wrongs
