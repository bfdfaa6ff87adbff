-- What no promise names: functions below a call speak of it, and laws about them.
pub mod ChangedFields
pub mod FieldTests
pub mod Rows
pub mod Places
pub mod Results
pub mod Limits
