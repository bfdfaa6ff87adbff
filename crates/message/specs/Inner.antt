-- What no promise names: functions below a call speak of it, and laws about them.
pub mod MessageBytes
pub mod MeantMessages
pub mod Begun
