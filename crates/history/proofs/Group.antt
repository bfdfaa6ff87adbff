-- The abstract group: one entry for a stamp in a box in a view, acts at one entry, facts that coordinators made true, and the argument that all of demand 3 rests on.
pub mod Below
pub mod Cells
pub mod Entries
pub mod Invariant
pub mod Kept
pub mod Growth
pub mod Acts
pub mod Facts
pub mod Steps
