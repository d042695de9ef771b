-- What the keys of the program promise
pub mod Commands
