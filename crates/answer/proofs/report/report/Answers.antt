-- The tests in their order; past them the row by its place.
use mathlib.Core.Path.{◌≡◌, sym, ◌∙◌, ap}
use mathlib.Core.Bool.{true, ◌&&◌}
use Prim.Native.Nat.{◌*◌, ◌≤◌}
use native.Mathlib.Omega.{arith}
use lib.ListN.{length}
use borrow.Author.Tests.{le-leb}
use Rattle.rules.specs.Refusals.{Reply, taken, ◌>>=◌}
use Rattle.interval.specs.Tally.{in_range, answer_turn}
use Rattle.interval.specs.Lent.{Lent, of_interval}
use Rattle.kept.specs.KeptReport.{Place, member, residual, place_of, report_long, fine_row, report_reply}
use Rattle.chain.proofs.Places.{member_there, region_there}
use Rattle.answer.specs.Asked.{no_lists}
use Rattle.answer.specs.Report.{lent_report, placed, report_found}
use Rattle.answer.proofs.TestedLaws.{units_few}
use Rattle.answer.proofs.ReportLaws.{report_long_means, place_alone, placed_member, placed_residual, placed_past, member_alone, residual_alone, past_tests}
use Rattle.answer.proofs.report.report.Goals as goal
use Rattle.answer.proofs.report.report.Goals.{After-of_interval, After-place_of, Else-not-answer_turn, Else-not-of_interval, Else-not-report_lists_long, In-Member, In-Residual, Start}

abbrev S : Else-not-answer_turn → Start
S c = (goal.at.Else-not-answer_turn c).Start

abbrev S2 : Else-not-report_lists_long → Start
S2 c = S (goal.at.Else-not-report_lists_long c).Else-not-answer_turn

abbrev S3 : Else-not-of_interval → Start
S3 c = S2 (goal.at.Else-not-of_interval c).Else-not-report_lists_long

-- with whatever else there is
abbrev lists : Lent → Start → Lent
lists rest s = lent_report rest s.args.figures.now s.args.numbers.now s.args.homes.now s.args.rows.now

in_turn : (c : Else-not-answer_turn) → (in_range (S c).args.tally && answer_turn (S c).args.tally) ≡ true
in_turn c = sym c.answer_turn.ensures ∙ c.if-not-answer_turn.false

few : (c : Else-not-answer_turn) → (S c).args.tally.units ≤ 512
few c = units_few (S c).args.tally (in_turn c)

long : (c : Else-not-report_lists_long) → report_long (S2 c).args.tally.units (lists no_lists (S2 c)) ≡ true
long c = sym c.report_lists_long.ensures ∙ c.if-not-report_lists_long.false

each_long :
    (c : Else-not-report_lists_long) → let a = (S2 c).args in
    (50 ≤ length a.figures.now) × (a.tally.units ≤ length a.numbers.now) × (a.tally.units ≤ length a.homes.now)
    × (8 * a.tally.units ≤ length a.rows.now)
each_long c = report_long_means (S2 c).args.tally.units (lists no_lists (S2 c)) (long c)

numbered : (c : After-of_interval) → of_interval (S2 (goal.at.After-of_interval c).Else-not-report_lists_long).args.tally.interval (S2 (goal.at.After-of_interval c).Else-not-report_lists_long).args.figures.now ≡ c.of_interval.result
numbered c = sym (rw (le-leb 50 (length (S2 (goal.at.After-of_interval c).Else-not-report_lists_long).args.figures.now) (each_long (goal.at.After-of_interval c).Else-not-report_lists_long).0) at c.of_interval.ensures)

this_interval : (c : Else-not-of_interval) → of_interval (S3 c).args.tally.interval (S3 c).args.figures.now ≡ true
this_interval c = numbered (goal.at.Else-not-of_interval c).After-of_interval ∙ c.if-not-of_interval.false

-- the place that was found
found :
    (c : After-place_of) (rest : Lent) → let s = S3 (goal.at.After-place_of c).Else-not-of_interval in
    placed (place_of s.args.tally (lists rest s) s.args.row) ≡ c.place_of.result
found c rest =
    let s = S3 (goal.at.After-place_of c).Else-not-of_interval in
    sym (c.place_of.ensures ∙ ap placed (place_alone s.args.tally (lists rest s) s.args.row))

at_member :
    (c : In-Member) (rest : Lent) → let s = S3 (goal.at.In-Member c).Else-not-of_interval in
    place_of s.args.tally (lists rest s) s.args.row ≡ taken (member c.in-Member.at)
at_member c rest = placed_member _ _ (found (goal.at.In-Member c).After-place_of rest ∙ c.in-Member.is)

at_region :
    (c : In-Residual) (rest : Lent) → let s = S3 (goal.at.In-Residual c).Else-not-of_interval in
    place_of s.args.tally (lists rest s) s.args.row ≡ taken (residual c.in-Residual.region)
at_region c rest = placed_residual _ _ (found (goal.at.In-Residual c).After-place_of rest ∙ c.in-Residual.is)

-- the reply, by the place
replied :
    (c : After-place_of) (rest : Lent) {p : Reply Place} → let s = S3 (goal.at.After-place_of c).Else-not-of_interval in
    place_of s.args.tally (lists rest s) s.args.row ≡ p → report_reply s.args.tally s.args.row s.args.version (lists rest s) ≡
    (p >>= fine_row s.args.tally (lists rest s) s.args.version)
replied c rest e =
    let s = S3 (goal.at.After-place_of c).Else-not-of_interval in
    past_tests s.args.tally s.args.row s.args.version (lists rest s) (in_turn (goal.at.After-place_of c).Else-not-answer_turn) (long (goal.at.After-place_of c).Else-not-report_lists_long) (this_interval (goal.at.After-place_of c).Else-not-of_interval) e

pub returns-then-not-answer_turn : goal.returns-then-not-answer_turn
unfolding report_reply
returns-then-not-answer_turn c = λ rest. record { reply = rw (sym c.answer_turn.ensures ∙ c.if-not-answer_turn.true) }

pub report_lists_long-requires : goal.report_lists_long-requires
report_lists_long-requires c = few (goal.at.report_lists_long-requires c).Else-not-answer_turn

pub returns-then-not-report_lists_long : goal.returns-then-not-report_lists_long
unfolding report_reply
returns-then-not-report_lists_long c = λ rest. record { reply = rw (in_turn (goal.at.returns-then-not-report_lists_long c).Else-not-answer_turn, sym c.report_lists_long.ensures ∙ c.if-not-report_lists_long.true) }

pub returns-then-not-of_interval : goal.returns-then-not-of_interval
unfolding report_reply
returns-then-not-of_interval c = λ rest.
    record { reply = rw (in_turn (goal.at.returns-then-not-of_interval c).Else-not-answer_turn, long (goal.at.returns-then-not-of_interval c).Else-not-report_lists_long, numbered (goal.at.returns-then-not-of_interval c).After-of_interval ∙ c.if-not-of_interval.true) }

pub place_of-requires : goal.place_of-requires
place_of-requires c = (few (goal.at.place_of-requires c).Else-not-answer_turn, (each_long (goal.at.place_of-requires c).Else-not-report_lists_long).2)

pub member_row-requires : goal.member_row-requires
member_row-requires c =
    let s = S3 (goal.at.member_row-requires c).Else-not-of_interval in
    let k = each_long (goal.at.member_row-requires c).Else-not-report_lists_long in
    let m = member_there s.args.tally (lists no_lists s) s.args.row c.in-Member.at (at_member (goal.at.member_row-requires c).In-Member no_lists) in (
      omega (arith, m.0, k.1),
      record {
        few = omega (arith, m.0, few (goal.at.member_row-requires c).Else-not-answer_turn);
        figures = k.0;
        homes = omega (arith, m.0, k.2);
        rows = omega (arith, m.0, k.3);
        member = m.1;
      },
    )

pub residual_row-requires : goal.residual_row-requires
residual_row-requires c =
    let s = S3 (goal.at.residual_row-requires c).Else-not-of_interval in
    let k = each_long (goal.at.residual_row-requires c).Else-not-report_lists_long in (
      region_there s.args.tally (lists no_lists s) s.args.row c.in-Residual.region (at_region (goal.at.residual_row-requires c).In-Residual no_lists),
      record { few = few (goal.at.residual_row-requires c).Else-not-answer_turn; figures = k.0; homes = k.2; rows = k.3 },
    )

pub returns-in-Member : goal.returns-in-Member
returns-in-Member c =
    let s = S3 (goal.at.returns-in-Member c).Else-not-of_interval in
    λ rest. record {
      reply =
          c.member_row.ensures
          ∙ ap report_found (member_alone s.args.tally (lists rest s) s.args.version c.in-Member.at
          ∙ sym (replied (goal.at.returns-in-Member c).After-place_of rest (at_member (goal.at.returns-in-Member c).In-Member rest)));
    }

pub returns-in-Residual : goal.returns-in-Residual
returns-in-Residual c =
    let s = S3 (goal.at.returns-in-Residual c).Else-not-of_interval in
    λ rest. record {
      reply =
          c.residual_row.ensures
          ∙ ap report_found (residual_alone s.args.tally (lists rest s) s.args.version c.in-Residual.region
          ∙ sym (replied (goal.at.returns-in-Residual c).After-place_of rest (at_region (goal.at.returns-in-Residual c).In-Residual rest)));
    }

pub returns-in-Past : goal.returns-in-Past
returns-in-Past c =
    let s = S3 (goal.at.returns-in-Past c).Else-not-of_interval in
    λ rest. record {
      reply =
          sym (ap report_found (replied (goal.at.returns-in-Past c).After-place_of rest
          (placed_past s.args.tally (lists rest s) s.args.row (found (goal.at.returns-in-Past c).After-place_of rest ∙ c.in-Past.is))));
    }
