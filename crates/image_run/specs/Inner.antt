-- What no promise names: functions below a call speak of it, and laws about them.
pub mod WholeRuns
pub mod Walk
