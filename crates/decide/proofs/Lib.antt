pub mod SurveySeen
pub mod UncheckedBytes
