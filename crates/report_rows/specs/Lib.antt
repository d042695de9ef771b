-- What a row's line promises
pub mod Rows
