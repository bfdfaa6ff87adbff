-- What no promise names: functions below a call speak of it, and laws about them.
pub mod UsedTables
pub mod Stamps
pub mod State
pub mod Agreed
pub mod Cursors
pub mod Gathered
pub mod Walk
