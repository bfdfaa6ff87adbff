pub mod LentTables
pub mod NamedTables
