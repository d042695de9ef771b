-- What the call promises
pub mod Promise
-- What its parts ask of each other
pub mod Drawing
-- What a strip shows, in the request's words
pub mod Shown
