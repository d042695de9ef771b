-- A row of another region, or that is passed over, leaves all as it is; else its number is stored.
use mathlib.Core.Path.{sym, ◌∙◌, ap}
use borrow.Author.Rules.{sfits_of}
use lib.IntN.{ℤ}
use lib.ListN.{get_or, set}
use mir.Facts.{to_z-of_z}
use mir.Syntax.{w64}
use Rattle.answer.proofs.UnitsHeld.{in_a_region}
use Rattle.answer.proofs.values.put_row.Goals as goal

pub returns-then-not-in_set : goal.returns-then-not-in_set
returns-then-not-in_set c = let e = sym c.in_set.ensures ∙ c.if-not-in_set.true in record { many = rw e; put = rw e }

pub row_value-requires : goal.row_value-requires
row_value-requires c =
    let home = get_or c.args.homes.now c.args.row 0 in
    let h = c.requires.2 in
    (in_a_region home c.args.set h.home c.requires.0 (sym c.in_set.ensures ∙ c.if-not-in_set.false), h)

pub returns : goal.returns
returns c =
    let e = sym c.in_set.ensures ∙ c.if-not-in_set.false in
    record {
      many = rw e;
      put = rw e (ap (λ (z : ℤ). set c.args.column.now c.args.at z) (to_z-of_z {w = w64} (sfits_of c.row_value.type_inv) ∙ c.row_value.ensures));
    }
