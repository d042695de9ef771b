-- Groups that no worked book from bytes has (02, R-5), straight from their units: one of 512, and one whose second unit holds defaults, which 16 refuses.
use Rattle.std.specs.Prelude.{◌≡◌, refl, true, List, [], ◌∷◌, map, ℕ, pos, neg_ℤ}
use Rattle.rules.specs.declared.Kind.TheVariants.{Generation, Load}
use Rattle.rules.specs.Bytes.{listed}
use Rattle.rules.specs.Book.{Unit}
use Rattle.rules.specs.Plants.{Plant, plants}
use Rattle.books.specs.Writing.{flat}
use Rattle.books.specs.PaperBook.{zeros}
use Rattle.books.specs.Computing.{computing}
use Rattle.books.specs.WorkedBooks.{minus, unit, steady}
use Rattle.books.specs.GroupBooks.{grouped}

-- 512 units of group 7 with the lowest trajectory and the highest readings
abbrev largest : ℕ → Unit
largest n = grouped 7 (unit n 0 Generation (neg_ℤ (pos 100_000)) (neg_ℤ (pos 100_000)) zeros (flat true) (flat (pos 100_000)))

abbrev of_512 : List Plant
of_512 = plants (listed 1 512 largest)

-- one plant of 512 units, with the limit of a deviation for each of them
pub a_group_of_512 : (map (λ p. p.units) of_512 ≡ 512 ∷ []) × (map (λ p. p.deviation 74) of_512 ≡ pos 7_680_000_000 ∷ [])
unfolding computing
a_group_of_512 = (refl, refl)

-- the defaults are the primary's
pub primary_defaults :
    map (λ p. p.defaults)
    (plants (grouped 7 (steady 1 0 Load 0 (minus 1 2 3 4 5 6) (flat (pos 0))) ∷ grouped 7 (steady 2 0 Load 0 (minus 6 5 4 3 2 1) (flat (pos 0))) ∷ []))
    ≡ minus 1 2 3 4 5 6 ∷ []
unfolding computing
primary_defaults = refl
