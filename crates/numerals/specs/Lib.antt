-- Words as whole numbers, and what the functions promise
pub mod Numerals
