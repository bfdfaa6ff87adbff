-- Fair merges: what demand 3 asks of a merge, and that the merge of the rules is one.
pub mod Fair
pub mod OneStamp
pub mod InTurn
pub mod FairMerge
