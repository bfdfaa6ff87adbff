pub mod RowsLaid
pub mod RowsWritten
pub mod WritingRows
pub mod MergedBuffers
pub mod MergeCall
pub mod MergeWays
pub mod MergeSteps
