pub mod Turns
pub mod ReadingLaws
pub mod OneMore
pub mod Arrives
pub mod ReadsStep
pub mod ReadsBook
pub mod ReadsAmong
pub mod ReadFrom
