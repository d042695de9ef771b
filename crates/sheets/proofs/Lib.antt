pub mod Promises
pub mod SidesLaws
pub mod Possible
pub mod Ours
