-- What the call promises, and what its parts ask of each other
pub mod Promises
-- What a possible sheet is, in the request's words
pub mod Possible
-- Our own factors as a sheet
pub mod Ours
-- Worked sheets, by computing
pub mod WorkedSheets
