-- What each reader answers and promises, against the format in rules
pub mod Replies
pub mod Contents
pub mod Settings
pub mod Defaults
pub mod Frequency
pub mod Unit
pub mod Requirement
