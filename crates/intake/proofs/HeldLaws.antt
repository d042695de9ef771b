-- Laws of the definition in specs/Held.antt.
use mathlib.Core.Path.{◌≡◌, refl, sym, ◌∙◌, ap}
use mathlib.Core.Bool.{Bool, true, false}
use mathlib.Core.List.{List}
use Prim.Native.Nat.{ℕ, min, ◌≤◌}
use native.Mathlib.Nat.{min-eq_left}
use native.Mathlib.Omega.{arith}
use borrow.Author.Tests.{leb-true, leb-false}
use lib.Dec.{leb}
use lib.ListN.{length, drop, drop_of_length-le}
use Rattle.intake.specs.Held.{from_place}

-- a place past the end may be taken for the end
pub from_within : (start : ℕ) (book : List ℕ) → drop (min start (length book)) book ≡ from_place start book
from_within start book = go (leb start (length book)) refl
  where
    go : (t : Bool) → leb start (length book) ≡ t → drop (min start (length book)) book ≡ from_place start book
    go true e = ap (λ (i : ℕ). drop i book) (min-eq_left (leb-true start (length book) e))
    go false e =
        let past : length book ≤ start = omega (arith, leb-false start (length book) e) in
        drop_of_length-le book {i = min start (length book)} (omega (arith, past)) ∙ sym (drop_of_length-le book past)

-- no two answers are allowed
pub record_at_only : (start : ℕ) (book : List ℕ) {r r' : List ℕ} → r ≡ from_place start book → r' ≡ from_place start book → r ≡ r'
record_at_only start book a b = a ∙ sym b
