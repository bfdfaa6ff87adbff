pub mod Marked
pub mod Answered
