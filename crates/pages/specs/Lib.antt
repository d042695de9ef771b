-- What the pages promise
pub mod Amounts
pub mod Promises
pub mod Lines
pub mod Reading
