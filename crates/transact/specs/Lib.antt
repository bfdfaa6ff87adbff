pub mod Replies
pub mod Inner
