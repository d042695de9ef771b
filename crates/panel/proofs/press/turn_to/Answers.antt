-- The members are counted: another number than the reply's is refused; else the page is the step's, which is there, and it is drawn.
use mathlib.Core.Path.{◌≡◌, sym, ◌∙◌, ap}
use Prim.Native.Nat.{ℕ, ◌+◌}
use native.Mathlib.Omega.{arith}
use Rattle.rules.specs.declared.Page.{Page}
use Rattle.rules.specs.Keys.{step}
use Rattle.interval.specs.Lent.{Lent, lent_member}
use Rattle.answer.specs.Worked.{required}
use Rattle.panel.specs.Press.{Cents, cents, members_of, page_then}
use Rattle.panel.specs.Turned.{told_as}
use Rattle.panel.proofs.KeysLaws.{step_there}
use Rattle.panel.proofs.PastLaws.{homed}
use Rattle.panel.proofs.PressLaws.{another_number, turned}
use Rattle.panel.proofs.press.turn_to.Goals as goal
use Rattle.panel.proofs.press.turn_to.Goals.{After-pressed-then, After-rows_in-members, Else-shown-members, Start}

abbrev S : After-rows_in-members → Start
S c = (goal.at.After-rows_in-members c).Start

abbrev lists : Lent → Start → Lent
lists rest s = lent_member rest s.args.figures.now s.args.numbers.now s.args.homes.now

abbrev columns : Start → Cents
columns s = cents s.args.payments.now s.args.used.now s.args.unused.now

abbrev E : After-pressed-then → Else-shown-members
E c = (goal.at.After-pressed-then c).Else-shown-members

abbrev R : Else-shown-members → After-rows_in-members
R c = (goal.at.Else-shown-members c).After-rows_in-members

-- the reply tells as many members as there are
told_right : (c : Else-shown-members) → let a = (S (R c)).args in a.shown.members ≡ members_of a.tally.units a.homes.now (required a.fields)
told_right c = c.if-shown-members.false ∙ ap (λ (n : ℕ). n + 1) (R c).rows_in-members.ensures.0

then_is : (c : After-pressed-then) → let a = (S (R (E c))).args in c.pressed-then.result ≡ page_then a.page a.key a.book a.shown (required a.fields)
then_is c =
    let a = (S (R (E c))).args in
    c.pressed-then.ensures ∙ ap (λ (n : ℕ). step a.page a.key a.book a.fields.number n) (sym (E c).if-shown-members.false)

pub rows_in-members-requires : goal.rows_in-members-requires
rows_in-members-requires c = homed c.requires.roster

pub overflow_add-members : goal.overflow_add-members
overflow_add-members c = omega (arith, c.rows_in-members.ensures.1, (homed (S (goal.at.overflow_add-members c).After-rows_in-members).requires.roster).few)

pub returns-then-shown-members : goal.returns-then-shown-members
returns-then-shown-members c rest =
    let s = S (goal.at.returns-then-shown-members c).After-rows_in-members in
    let a = s.args in
    another_number a.page a.key a.book a.tally.units (required a.fields) a.shown (lists rest s) (columns s) a.text.now
    (λ e. c.if-shown-members.true (e ∙ sym (ap (λ (n : ℕ). n + 1) c.rows_in-members.ensures.0)))

pub draw-drawn-requires : goal.draw-drawn-requires
draw-drawn-requires c =
    let r = R (E (goal.at.draw-drawn-requires c).After-pressed-then) in
    let a = (S r).args in (
      (S r).requires,
      omega (
        arith,
        ap (λ (q : Page). q.page) c.pressed-then.ensures,
        (step_there a.page a.key a.book a.fields.number (r.rows_in-members.result + 1)).0,
        r.rows_in-members.ensures.1,
      ),
    )

pub returns : goal.returns
returns c rest =
    let s = S (R (E (goal.at.returns c).After-pressed-then)) in
    let a = s.args in
    let l = lists rest s in
    let q = required a.fields in
    rw (c.told.ensures ∙ ap (λ (x : Page). told_as x c.draw-drawn.result) (then_is (goal.at.returns c).After-pressed-then))
    (turned a.page a.key a.book a.tally.units q a.shown l (columns s) a.text.now (told_right (E (goal.at.returns c).After-pressed-then)) s.requires.room
    (rw (then_is (goal.at.returns c).After-pressed-then) at (c.draw-drawn.ensures rest)))
