-- The tests are those of the definition.
use mathlib.Core.Path.{sym, ◌∙◌, ap}
use mathlib.Core.Bool.{true, false, not}
use Prim.Native.Nat.{ℕ, ◌+◌}
use native.Mathlib.Omega.{arith}
use Rattle.reader.proofs.ReadingLaws.{asked_of_many, asked_alone, more_none}
use Rattle.reader.proofs.step.asked.Goals as goal

pub returns-then-not-alone : goal.returns-then-not-alone
returns-then-not-alone c = record { value = c.size-bytes.ensures.value ∙ asked_of_many _ _ (ap not c.if-not-alone.true); upper_bound = omega (arith, c.size-bytes.ensures.upper_bound) }

pub returns-then-is_end : goal.returns-then-is_end
returns-then-is_end c =
    let last = asked_alone _ _ true (ap not c.if-not-alone.false) (sym c.if-is_end.true ∙ c.is_end.ensures) in
    record { value = ap (λ (n : ℕ). n + 1) c.size-bytes.ensures.value ∙ last; upper_bound = omega (arith, c.size-bytes.ensures.upper_bound) }

pub returns : goal.returns
returns c =
    let before_last = asked_alone _ _ false (ap not c.if-not-alone.false) (sym c.if-is_end.false ∙ c.is_end.ensures) in
    record { value = c.size-bytes.ensures.value ∙ more_none _ ∙ before_last; upper_bound = omega (arith, c.size-bytes.ensures.upper_bound) }
