-- What the calls keep, and what each answers and leaves
pub mod Tally
pub mod Lent
pub mod Ranges
pub mod Calls
pub mod Promises
pub mod Run
