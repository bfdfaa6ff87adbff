-- What no promise names: functions below a call speak of it, and laws about them.
pub mod Limits
pub mod Findings
pub mod Compared
