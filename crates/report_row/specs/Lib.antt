-- What the functions promise
pub mod Promises
-- and what they promise each other
pub mod Dates
pub mod Columns
pub mod Reading
