-- What the argument promises
pub mod Version
