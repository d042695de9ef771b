-- How a book's bytes are written, and how a theorem about one is computed
pub mod Writing
pub mod Computing
pub mod Told
-- The books, and what is quick to say of them
pub mod PaperBook
pub mod PaperValues
pub mod Edges
pub mod WorkedBooks
pub mod WorkedAnswers
pub mod Ties
pub mod DroppedPoints
pub mod GroupBooks
pub mod GroupFigures
