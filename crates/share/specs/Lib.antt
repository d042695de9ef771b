pub mod Weighing
pub mod Rates
pub mod Keys
pub mod Column
pub mod Digits
pub mod Promises
pub mod Signs
pub mod Exact
