-- Keys pressed one after another
pub mod Keys
-- What the keys and a key press promise
pub mod Press
-- what is known past the tests, who a member's page names, and what turning to the page promises
pub mod Past
pub mod Who
pub mod Turned
-- what key presses show of a book
pub mod BookPages
