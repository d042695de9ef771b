-- What the demand speaks of
pub mod Parties
pub mod Balance
pub mod Parts
pub mod TwoForOne
pub mod Drawn
-- What demand 3 says, of the paper's book too, and who breaks it
pub mod Demand3
pub mod PaperCloses
pub mod Adversaries
