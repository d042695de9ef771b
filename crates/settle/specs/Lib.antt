-- What the printing of a listing promises
pub mod Printed
