pub mod Answers
pub mod Started
pub mod CountWords
pub mod ComparedWords
