-- The moves of a listing, and what a call for a piece of it promises
pub mod Move
pub mod Promises
-- a line behind what stands in a text, and how far the lines of a requirement have come
pub mod Said
pub mod Steps
-- what the pieces of a taken book's listing are
pub mod BookListed
