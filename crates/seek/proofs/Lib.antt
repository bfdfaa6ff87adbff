pub mod HeldRows
pub mod BodiesAlike
pub mod SoughtRows
