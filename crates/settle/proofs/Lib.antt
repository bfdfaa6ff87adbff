pub mod MarkedRows
pub mod ChecksInTurn
pub mod CheckedInPlace
