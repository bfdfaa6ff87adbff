-- What no promise names: functions below a call speak of it, and laws about them.
pub mod StampParts
pub mod Clashes
pub mod Floor
pub mod CountAnswers
