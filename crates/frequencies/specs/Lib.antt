-- What the parts of a frequency call promise each other, and how they make its promise
pub mod Frequency
