-- What proofs/Alike.antt speaks of.
use Rattle.std.specs.Prelude.{◌≡◌, List, ℕ, take}

-- both parts start with the same so many bytes; what follows may differ
pub record Alike (bytes : ℕ) (p q : List ℕ) : Type 0 where
  pub starts : take bytes p ≡ take bytes q
