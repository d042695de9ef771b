-- A size of billionths is a signed number of 64 bits, and so is its negative.
use mathlib.Core.Path.{◌≡◌, sym, ◌∙◌}
use Prim.Native.Nat.{ℕ, ◌≤◌}
use native.Mathlib.Omega.{arith}
use borrow.Author.Tests.{eq-eqb, ne_eqb}
use lib.IntN.{pos, neg_ℤ, ◌-ℤ◌, +ℤ_idl}
use mir.Syntax.{w64}
use mir.Val.{SFits, to_z}
use mir.Facts.{to_z-of_z}
use Rattle.integers.proofs.Bounds.{within_natural, within_negation, fits_within}
use Rattle.integers.proofs.Casts.{toZ_small}
use Rattle.rules.specs.ReportRead.{billionths_most}
use Rattle.report_row.proofs.columns_in.with_sign.Goals as goal

small : {n : ℕ} → n ≤ billionths_most → to_z w64 n ≡ pos n
small h = toZ_small w64 (omega arith)

negative_fits : {n : ℕ} → n ≤ billionths_most → SFits w64 (pos 0 -ℤ pos n)
negative_fits {n} h = rw (+ℤ_idl (neg_ℤ (pos n))) (fits_within tt (within_negation (within_natural h)))

pub overflow_sub-result : goal.overflow_sub-result
overflow_sub-result c = rw (small c.requires) (negative_fits c.requires)

pub returns-then-byte_at-eq45 : goal.returns-then-byte_at-eq45
returns-then-byte_at-eq45 c =
    let n = c.args.size in
    let minus = eq-eqb _ 45 (sym c.byte_at.ensures ∙ c.if-byte_at-eq45.true) in
    rw (small c.requires, to_z-of_z (negative_fits c.requires), +ℤ_idl (neg_ℤ (pos n)), minus)

pub returns : goal.returns
returns c =
    rw (small c.requires, ne_eqb _ 45 (λ e. c.if-byte_at-eq45.false (c.byte_at.ensures ∙ e)))
