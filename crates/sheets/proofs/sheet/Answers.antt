-- The number of factors first; then by what is found of the members (Promises), and where all are right by the sides.
use Rattle.std.specs.Prelude.{ℕ, Option, None, Some, Result, Ok, Err}
use Rattle.std.proofs.lemmas.Result.{err_from_is_err_and}
use mathlib.Core.Path.{◌≡◌, sym, ◌∙◌, ap, subst}
use native.Mathlib.Omega.{arith}
use lib.ListN.{length}
use borrow.Author.Tests.{lt-leb}
use Rattle.rules.specs.Quantities.{most_members}
use Rattle.rules.specs.Sheet.{sheet_reply}
use Rattle.rules.specs.declared.Refusal.{Refusal}
use Rattle.sheets.specs.Promises.{told_of}
use Rattle.sheets.proofs.Promises.{Found, found}
use Rattle.sheets.proofs.sheet.Goals as goal
use Rattle.sheets.proofs.sheet.Goals.{After-first_wrong, In-None, In-Some}

by_members : (c : After-first_wrong) → let a = c.args in Found a.performances.now a.factors.now c.first_wrong.result
by_members c =
    let a = c.args in
    subst (Found a.performances.now a.factors.now) (sym c.first_wrong.ensures.reply)
    (found a.performances.now a.factors.now c.if-factors-gt-MOST_MEMBERS.false)

-- and by one of its cases
case : (c : After-first_wrong) {j : Result (Option ℕ) Refusal} → c.first_wrong.result ≡ j →
    let a = c.args in Found a.performances.now a.factors.now j
case c e =
    let a = c.args in subst (Found a.performances.now a.factors.now) e (by_members c)

none_wrong : (c : In-None) → let a = c.args in Found a.performances.now a.factors.now (Ok None)
none_wrong c = case (goal.at.In-None c).After-first_wrong (c.in_ok-first_wrong.was ∙ ap Ok c.in-None.is)

one_wrong : (c : In-Some) → let a = c.args in Found a.performances.now a.factors.now (Ok (Some c.in-Some.member))
one_wrong c = case (goal.at.In-Some c).After-first_wrong (c.in_ok-first_wrong.was ∙ ap Ok c.in-Some.is)

pub returns-then-factors-gt-MOST_MEMBERS : goal.returns-then-factors-gt-MOST_MEMBERS
unfolding sheet_reply
returns-then-factors-gt-MOST_MEMBERS c = record { reply = rw (lt-leb (length c.args.factors.now) most_members c.if-factors-gt-MOST_MEMBERS.true) }

pub returns-in_err-first_wrong : goal.returns-in_err-first_wrong
returns-in_err-first_wrong c =
    let p = err_from_is_err_and c.from_residual.result c.from_residual.ensures.1 in
    record { reply = p.1 ∙ ap Err p.2 ∙ ap told_of (sym (case (goal.at.returns-in_err-first_wrong c).After-first_wrong c.in_err-first_wrong.was)) }

pub judge_sides-requires : goal.judge_sides-requires
judge_sides-requires c = (none_wrong (goal.at.judge_sides-requires c).In-None).0

pub overflow_cast-result : goal.overflow_cast-result
overflow_cast-result c =
    record { fits = omega (arith, (one_wrong (goal.at.overflow_cast-result c).In-Some).0) }

pub returns-in-None : goal.returns-in-None
returns-in-None c =
    record { reply = ap Ok c.judge_sides.ensures ∙ ap told_of (sym (none_wrong (goal.at.returns-in-None c).In-None).1) }

pub returns-in-Some : goal.returns-in-Some
returns-in-Some c =
    record { reply = ap told_of (sym (one_wrong (goal.at.returns-in-Some c).In-Some).1) }
