pub mod Headers
pub mod Images
pub mod KnownForms
pub mod Found
pub mod FreshCall
