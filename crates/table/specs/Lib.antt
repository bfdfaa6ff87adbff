pub mod Headers
pub mod Images
pub mod Parse
pub mod Fresh
pub mod Inner
