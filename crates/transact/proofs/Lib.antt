pub mod ReplySteps
pub mod Serving
pub mod CodesMeant
pub mod Finalised
pub mod Proposals
pub mod NewRows
pub mod Proposed
