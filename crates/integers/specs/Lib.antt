-- What the laws of whole numbers speak of. Each file needs only those above it.
-- Integers: pairs of naturals
pub mod Pairs
-- Sizes: bounds
pub mod Bounds
-- Sums and counts over indexes, totals over lists
pub mod Sums
pub mod Totals
-- Lists that a loop writes or adds to
pub mod Fills
-- Division: quotient and remainder, multiples, the nearest whole number
pub mod Division
pub mod Multiples
pub mod Nearest
