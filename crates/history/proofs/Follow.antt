-- The history of the boxes, over the rules' own answer, merge and count, followed by the abstract group event by event.
pub mod World
pub mod Boxes
pub mod Answering
pub mod Views
pub mod Gathering
pub mod Gathered
pub mod Follows
pub mod Arrivals
pub mod Coordinators
pub mod Merging
pub mod Following
pub mod Names
