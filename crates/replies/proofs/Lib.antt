pub mod Counted
pub mod Steps
pub mod Boxes
pub mod BadReplies
pub mod Told
