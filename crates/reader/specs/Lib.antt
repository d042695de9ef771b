-- The record whose turn it is and what taking it promises; the reading, where its next bytes go and what follows once some have come; bytes that arrive
pub mod Turns
pub mod Reading
pub mod Arrives
