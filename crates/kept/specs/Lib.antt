-- What was kept of a book, and the answer from it
pub mod Kept
pub mod Range
-- and the rows of its report (document 02, R-11)
pub mod KeptReport
