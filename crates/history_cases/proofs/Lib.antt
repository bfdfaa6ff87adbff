pub mod SameTables
pub mod RuleTests
pub mod Computing
pub mod FiveBoxes
pub mod Ordinary
pub mod Bent
