-- What proofs/BookChain.antt speaks of.
use Rattle.std.specs.Prelude.{List, ℕ}
use Rattle.rules.specs.Quantities.{regions}
use Rattle.rules.specs.Bytes.{listed}
use Rattle.rules.specs.Book.{Requirement, Book}
use Rattle.chain.specs.Chain.{the_settings, region, roster}

-- the book of so many units whose records stand in their parts, with requirements qs
abbrev pub book_of : ℕ → (ℕ → List ℕ) → List Requirement → Book
book_of units part qs =
    record { settings = the_settings part; regions = listed 0 regions (region part); roster = roster part units; requirements = qs }
