-- Each number's least is added up, beside what every line has; every amount fits, so that it is its own bits' number.
use Prim.Native.Nat.{ℕ, ◌≤◌}
use native.Mathlib.Omega.{arith}
use lib.IntN.{ℤ}
use lib.ListN.{length}
use mir.Facts.{to_z-of_z}
use borrow.Author.Rules.{sfits_of}
use Rattle.rules.specs.Text.{integer}
use Rattle.listing.specs.declared.Amounts.{Amounts}
use Rattle.lister.proofs.LeastLaws.{unit_least, integer_short}
use Rattle.lister.proofs.least.least_line.Goals as goal
use Rattle.lister.proofs.least.least_line.Goals.{After-least_integer, After-least_integer-2, After-least_integer-3, After-least_integer-4, After-least_integer-5}

record Least (x : ℤ) (r : ℕ) : Type 0 where
  long : r ≤ length (integer x)
  short : r ≤ 21

least : (x : ℤ) {r : ℕ} → r ≤ length (integer x) → Least x r
least x h = record { long = h; short = omega (arith, h, integer_short x) }

-- each amount's place, from the one after it
abbrev P₂ : After-least_integer-2 → After-least_integer
P₂ c = (goal.at.After-least_integer-2 c).After-least_integer

abbrev P₃ : After-least_integer-3 → After-least_integer-2
P₃ c = (goal.at.After-least_integer-3 c).After-least_integer-2

abbrev P₄ : After-least_integer-4 → After-least_integer-3
P₄ c = (goal.at.After-least_integer-4 c).After-least_integer-3

abbrev P₅ : After-least_integer-5 → After-least_integer-4
P₅ c = (goal.at.After-least_integer-5 c).After-least_integer-4

abbrev amounts : After-least_integer → Amounts
amounts c = c.args.amounts

performance_least : (c : After-least_integer) → Least (amounts c).performance c.least_integer.result
performance_least c = least (amounts c).performance (rw (to_z-of_z (sfits_of c.type_inv.amounts.0.1)) at c.least_integer.ensures)

factor_least : (c : After-least_integer-2) → Least (amounts (P₂ c)).factor c.least_integer-2.result
factor_least c = least (amounts (P₂ c)).factor (rw (to_z-of_z (sfits_of c.type_inv.amounts.1.0.1)) at c.least_integer-2.ensures)

payment_least : (c : After-least_integer-3) → Least (amounts (P₂ (P₃ c))).payment c.least_integer-3.result
payment_least c = least (amounts (P₂ (P₃ c))).payment (rw (to_z-of_z (sfits_of c.type_inv.amounts.1.1.0.1)) at c.least_integer-3.ensures)

used_least : (c : After-least_integer-4) → Least (amounts (P₂ (P₃ (P₄ c)))).used c.least_integer-4.result
used_least c = least (amounts (P₂ (P₃ (P₄ c)))).used (rw (to_z-of_z (sfits_of c.type_inv.amounts.1.1.1.0.1)) at c.least_integer-4.ensures)

unused_least : (c : After-least_integer-5) → Least (amounts (P₂ (P₃ (P₄ (P₅ c))))).unused c.least_integer-5.result
unused_least c = least (amounts (P₂ (P₃ (P₄ (P₅ c))))).unused (rw (to_z-of_z (sfits_of (P₅ c).type_inv.amounts.1.1.1.1.0.1)) at c.least_integer-5.ensures)

pub overflow_add-shown : goal.overflow_add-shown
overflow_add-shown c = omega (arith, (performance_least (P₂ (goal.at.overflow_add-shown c).After-least_integer-2)).short, (factor_least (goal.at.overflow_add-shown c).After-least_integer-2).short)

pub overflow_add-cents : goal.overflow_add-cents
overflow_add-cents c = omega (arith, (payment_least (P₄ (goal.at.overflow_add-cents c).After-least_integer-4)).short, (used_least (goal.at.overflow_add-cents c).After-least_integer-4).short)

pub overflow_add-cents-2 : goal.overflow_add-cents-2
overflow_add-cents-2 c = omega (arith, (payment_least (P₄ (P₅ (goal.at.overflow_add-cents-2 c).After-least_integer-5))).short, (used_least (P₅ (goal.at.overflow_add-cents-2 c).After-least_integer-5)).short, (unused_least (goal.at.overflow_add-cents-2 c).After-least_integer-5).short)

pub overflow_add-result : goal.overflow_add-result
overflow_add-result c =
    let shown = P₃ (P₄ (P₅ (goal.at.overflow_add-result c).After-least_integer-5)) in
    omega (arith, (performance_least (P₂ shown)).short, (factor_least shown).short)

pub overflow_add-result-2 : goal.overflow_add-result-2
overflow_add-result-2 c =
    let shown = P₃ (P₄ (P₅ (goal.at.overflow_add-result-2 c).After-least_integer-5)) in
    omega (
      arith,
      (performance_least (P₂ shown)).short,
      (factor_least shown).short,
      (payment_least (P₄ (P₅ (goal.at.overflow_add-result-2 c).After-least_integer-5))).short,
      (used_least (P₅ (goal.at.overflow_add-result-2 c).After-least_integer-5)).short,
      (unused_least (goal.at.overflow_add-result-2 c).After-least_integer-5).short,
    )

pub returns : goal.returns
returns c =
    λ number standing.
    let shown = P₃ (P₄ (P₅ (goal.at.returns c).After-least_integer-5)) in
    omega (
      arith,
      (performance_least (P₂ shown)).long,
      (factor_least shown).long,
      (payment_least (P₄ (P₅ (goal.at.returns c).After-least_integer-5))).long,
      (used_least (P₅ (goal.at.returns c).After-least_integer-5)).long,
      (unused_least (goal.at.returns c).After-least_integer-5).long,
      unit_least number standing (amounts (P₂ shown)),
    )
