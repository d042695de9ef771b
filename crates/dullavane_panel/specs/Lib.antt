-- What the panel's calls for C promise
pub mod Words
pub mod Called
