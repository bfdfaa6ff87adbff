pub mod Fields
pub mod Bytes
pub mod Read
pub mod Halving
pub mod Inner
