-- What no promise names: functions below a call speak of it, and laws about them.
pub mod Models
pub mod Forms
pub mod ChangedHeaders
pub mod HeaderTests
