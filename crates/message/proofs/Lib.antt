pub mod Bodies
pub mod Settled
pub mod KeepingRules
pub mod Starting
pub mod Forms
