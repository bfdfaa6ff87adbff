pub mod ViewsServed
pub mod RegisterRead
pub mod Asked
pub mod AnswerCall
pub mod AnswerWays
pub mod AnswerFull
pub mod AnswerCompared
pub mod Responding
