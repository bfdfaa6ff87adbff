pub mod Kinds
pub mod Marked
pub mod Beside
