-- The cursor in words, and what the listing's call for C promises
pub mod Cursor
pub mod Called
-- what the pieces of a taken book's listing are, over words
pub mod WordsListed
