-- Document 01 as definitions, in its order. Each stands beside the sentence that it renders, which is quoted; where bytes stand is not said here, and `..` in a quote leaves words out.
-- the words of the rest
pub mod Tests
-- 'What the boxes are'
pub mod Groups
-- 'Stamps and bodies'
pub mod Stamps
-- 'The table image: contents first, bodies after'
pub mod Tables
-- 'Numbers returned': the order, then the list row by row
pub mod Numbers
pub mod Circumstances
-- 'Messages to a box': the seven messages and the table after each; then the answer whole, with its reply
pub mod Messages
pub mod Answers
-- 'The check'; then 02's for messages 1
pub mod Check
pub mod DayOrder
-- 'The merge for view v'
pub mod Merge
-- 'The coordinator's count'
pub mod Count
-- words of laws alone
pub mod Inner
