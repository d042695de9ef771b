-- What the readers of single numbers promise
pub mod Numbers
