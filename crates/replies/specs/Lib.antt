pub mod PlainReplies
pub mod Inner
