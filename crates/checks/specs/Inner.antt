-- What no promise names: functions below a call speak of it, and laws about them.
pub mod Lent
pub mod RegisterWrites
pub mod Given
pub mod Passed
