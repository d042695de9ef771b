-- What is put where, how records are judged, and what the writer promises
pub mod Put
pub mod Values
pub mod Judged
pub mod Promise
