-- The tests in their order, each settled by the call that made it; past them the record decides, and then the page is turned to.
use mathlib.Core.Path.{◌≡◌, sym, ◌∙◌}
use mathlib.Core.Bool.{true, false, ◌&&◌}
use Prim.Native.Nat.{◌≤◌}
use lib.ListN.{length}
use Rattle.std.proofs.lemmas.Result.{err_from_is_err_and}
use Rattle.rules.specs.Refusals.{Reply, taken, refused, ◌>>=◌}
use Rattle.rules.specs.Book.{Requirement}
use Rattle.rules.specs.RequirementRecord.{requirement_record}
use Rattle.interval.specs.Tally.{in_range, answer_turn}
use Rattle.interval.specs.Lent.{Lent, lent_member}
use Rattle.answer.specs.Asked.{no_lists}
use Rattle.answer.specs.Worked.{required}
use Rattle.answer.proofs.CallLaws.{was_read, not_read}
use Rattle.panel.specs.Press.{Cents, cents, press_long, press_fine, members_told, press_reply}
use Rattle.panel.proofs.PressLaws.{long_means, refuses, past_tests, ready, turns}
use Rattle.panel.proofs.press.press.Goals as goal
use Rattle.panel.proofs.press.press.Goals.{Else-not-answer_turn, Else-not-lengths_enough, Else-not-lent_in_range, In_err-fields, In_ok-fields, Start}

abbrev S : Else-not-answer_turn → Start
S c = (goal.at.Else-not-answer_turn c).Start

abbrev S2 : Else-not-lengths_enough → Start
S2 c = S (goal.at.Else-not-lengths_enough c).Else-not-answer_turn

abbrev S3 : Else-not-lent_in_range → Start
S3 c = S2 (goal.at.Else-not-lent_in_range c).Else-not-lengths_enough

-- with whatever else there is
abbrev lists : Lent → Start → Lent
lists rest s = lent_member rest s.args.figures.now s.args.numbers.now s.args.homes.now

abbrev columns : Start → Cents
columns s = cents s.args.payments.now s.args.used.now s.args.unused.now

in_turn : (c : Else-not-answer_turn) → (in_range (S c).args.tally && answer_turn (S c).args.tally) ≡ true
in_turn c = sym c.answer_turn.ensures ∙ c.if-not-answer_turn.false

long : (c : Else-not-lengths_enough) → let s = S2 c in press_long s.args.tally.units (lists no_lists s) (columns s) (length s.args.text.now) ≡ true
long c = sym c.lengths_enough.ensures ∙ c.if-not-lengths_enough.false

each_long : (c : Else-not-lengths_enough) → let a = (S2 c).args in (50 ≤ length a.figures.now) × (a.tally.units ≤ length a.homes.now)
each_long c =
    let a = (S2 c).args in
    let m = long_means a.tally.units (length a.figures.now) (length a.numbers.now) (length a.homes.now) (length a.payments.now)
    (length a.used.now) (length a.unused.now) (length a.text.now) (long c) in
    (m.0, m.2)

numbers : (c : Else-not-lent_in_range) → let a = (S3 c).args in press_fine a.tally.interval a.tally.units a.figures.now a.homes.now ≡ true
numbers c = sym c.lent_in_range.ensures ∙ c.if-not-lent_in_range.false

read :
    (c : In_ok-fields) → let a = (S3 (goal.at.In_ok-fields c).Else-not-lent_in_range).args in
    requirement_record 0 false a.part.now ≡ taken (required c.in_ok-fields.fields)
read c = was_read _ _ (sym c.in_ok-fields.was ∙ c.read_requirement.ensures.reply)

not_taken :
    (c : In_err-fields) → let a = (S3 (goal.at.In_err-fields c).Else-not-lent_in_range).args in
    requirement_record 0 false a.part.now ≡ refused c.in_err-fields.field-0.0
not_taken c = not_read _ _ (sym c.in_err-fields.was ∙ c.read_requirement.ensures.reply)

-- the reply past the tests, by the record
decided :
    (c : Else-not-lent_in_range) (rest : Lent) {y : Reply Requirement} → let s = S3 c in let a = s.args in
    requirement_record 0 false a.part.now ≡ y →
    press_reply a.tally a.part.now a.shown (lists rest s) (columns s) (length a.text.now) ≡
    (y >>= members_told a.tally.units a.homes.now a.shown)
decided c rest e =
    let s = S3 c in
    let a = s.args in
    past_tests a.tally a.part.now a.shown (lists rest s) (columns s) (length a.text.now) (in_turn (goal.at.Else-not-lent_in_range c).Else-not-answer_turn) (long (goal.at.Else-not-lent_in_range c).Else-not-lengths_enough)
    (numbers c) e

pub returns-then-not-answer_turn : goal.returns-then-not-answer_turn
unfolding press_reply
returns-then-not-answer_turn c rest =
    let a = c.args in
    refuses a.page a.key a.book a.tally a.part.now a.shown (lists rest (goal.at.returns-then-not-answer_turn c).Start) (columns (goal.at.returns-then-not-answer_turn c).Start) a.text.now _
    (rw (sym c.answer_turn.ensures ∙ c.if-not-answer_turn.true))

pub returns-then-not-lengths_enough : goal.returns-then-not-lengths_enough
unfolding press_reply
returns-then-not-lengths_enough c rest =
    let s = S (goal.at.returns-then-not-lengths_enough c).Else-not-answer_turn in
    let a = s.args in
    refuses a.page a.key a.book a.tally a.part.now a.shown (lists rest s) (columns s) a.text.now _
    (rw (in_turn (goal.at.returns-then-not-lengths_enough c).Else-not-answer_turn, sym c.lengths_enough.ensures ∙ c.if-not-lengths_enough.true))

pub lent_in_range-requires : goal.lent_in_range-requires
lent_in_range-requires c = each_long (goal.at.lent_in_range-requires c).Else-not-lengths_enough

pub returns-then-not-lent_in_range : goal.returns-then-not-lent_in_range
unfolding press_reply
returns-then-not-lent_in_range c rest =
    let s = S2 (goal.at.returns-then-not-lent_in_range c).Else-not-lengths_enough in
    let a = s.args in
    refuses a.page a.key a.book a.tally a.part.now a.shown (lists rest s) (columns s) a.text.now _
    (rw (in_turn (goal.at.returns-then-not-lent_in_range c).Else-not-answer_turn, long (goal.at.returns-then-not-lent_in_range c).Else-not-lengths_enough, sym c.lent_in_range.ensures ∙ c.if-not-lent_in_range.true))

pub turn_to-requires : goal.turn_to-requires
turn_to-requires c =
    let s = S3 (goal.at.turn_to-requires c).Else-not-lent_in_range in
    let a = s.args in
    ready a.tally a.part.now a.shown (lists no_lists s) (columns s) (length a.text.now) (in_turn (goal.at.turn_to-requires c).Else-not-answer_turn) (long (goal.at.turn_to-requires c).Else-not-lengths_enough) (numbers (goal.at.turn_to-requires c).Else-not-lent_in_range)
    (read (goal.at.turn_to-requires c).In_ok-fields)

pub returns : goal.returns
returns c rest =
    let s = S3 (goal.at.returns c).Else-not-lent_in_range in
    let a = s.args in
    turns a.page a.key a.book a.tally a.part.now a.shown (lists rest s) (columns s) a.text.now (decided (goal.at.returns c).Else-not-lent_in_range rest (read (goal.at.returns c).In_ok-fields))
    (c.turn_to.ensures rest)

pub returns-in_err-fields : goal.returns-in_err-fields
returns-in_err-fields c rest =
    let s = S3 (goal.at.returns-in_err-fields c).Else-not-lent_in_range in
    let a = s.args in
    let p = err_from_is_err_and c.from_residual.result c.from_residual.ensures.1 in
    rw (p.1, p.2) (refuses a.page a.key a.book a.tally a.part.now a.shown (lists rest s) (columns s) a.text.now _ (decided (goal.at.returns-in_err-fields c).Else-not-lent_in_range rest (not_taken (goal.at.returns-in_err-fields c).In_err-fields)))
