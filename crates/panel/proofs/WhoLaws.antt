-- Laws of who a member's page names: past the last row of the set's regions the residual, else the unit of the member's row.
use mathlib.Core.Path.{◌≡◌}
use mathlib.Core.Bool.{true, false}
use Prim.Native.Nat.{ℕ, ◌<◌}
use native.Mathlib.Omega.{arith}
use lib.Dec.{ltb}
use lib.ListN.{get_or}
use borrow.Author.Tests.{lt-ltb, le-ltb}
use Rattle.rules.specs.Book.{Requirement}
use Rattle.interval.specs.Lent.{Lent}
use Rattle.kept.specs.Kept.{row_standing}
use Rattle.answer.specs.declared.Row.TheVariants.{Unit}
use Rattle.pages.specs.declared.Who.TheVariants as who
use Rattle.panel.specs.declared.Shown.{Shown}
use Rattle.panel.specs.Press.{row_at}
use Rattle.panel.specs.Who.{by_row, NamedAt}

module _ (units : ℕ) (l : Lent) (q : Requirement) (s : Shown) (k : ℕ) where
  pub residual_named : (row : ℕ) → row ≡ row_at units l q s k → row ≡ units → NamedAt units l q s k (record { who = who.Residual; standing = s.residual })
  residual_named row found e =
      let past : ltb (row_at units l q s k) units ≡ false = le-ltb (row_at units l q s k) units (omega (arith, found, e)) in
      record { name = rw past; standing = rw past }

  pub unit_named :
      (row : ℕ) → row ≡ row_at units l q s k → row < units →
      NamedAt units l q s k (by_row (Unit (get_or l.numbers row 0) (row_standing l q.direction row)) s.residual)
  unit_named row found h =
      let there : ltb (row_at units l q s k) units ≡ true = lt-ltb (row_at units l q s k) units (omega (arith, found, h)) in
      record { name = rw there (rw found); standing = rw there (rw found) }
