-- What the lines promise, and how a line is put together
pub mod Pieces
pub mod Lines
