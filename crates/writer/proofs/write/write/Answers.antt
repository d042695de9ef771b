-- Test by test; where all hold the book is laid out.
use Rattle.std.specs.Prelude.{Err}
use mathlib.Core.Path.{◌≡◌, sym, ◌∙◌, ap}
use mathlib.Core.Bool.{true}
use Rattle.std.proofs.lemmas.Result.{err_from_is_err_and}
use native.Mathlib.Omega.{arith}
use lib.ListN.{length}
use Rattle.rules.specs.Given.{Given}
use Rattle.rules.specs.Written.{book_given, long_enough, counts_fine}
use Rattle.writer.specs.Values.{values}
use Rattle.writer.proofs.WholeLaws.{judged_wrong, judged_fine}
use Rattle.writer.proofs.WriteLaws.{written_short, written_many, written_wrong, written_fine, promise_refused, promise_written, Few, counts_few, room_enough, lists_enough}
use Rattle.writer.proofs.write.write.Goals as goal
use Rattle.writer.proofs.write.write.Goals.{After-long_enough, Else-not-counts_fine, Else-not-long_enough, Start}

abbrev given : Start → Given
given s =
    values s.args.settings s.args.region_rows.now s.args.region_qualities.now s.args.frequencies.now s.args.units
    s.args.unit_rows.now s.args.unit_qualities.now s.args.readings.now s.args.requirements s.args.requirement_rows.now

abbrev begun : After-long_enough → Start
begun c = (goal.at.After-long_enough c).Start

is_long : (c : Else-not-long_enough) → let s = begun (goal.at.Else-not-long_enough c).After-long_enough in long_enough (given s) (length s.args.book.now) ≡ true
is_long c = sym c.long_enough.ensures ∙ c.if-not-long_enough.false

is_fine : (c : Else-not-counts_fine) → counts_fine (given (begun (goal.at.Else-not-counts_fine c).After-long_enough)) ≡ true
is_fine c = sym c.counts_fine.ensures ∙ c.if-not-counts_fine.false

is_few : (c : Else-not-counts_fine) → Few (given (begun (goal.at.Else-not-counts_fine c).After-long_enough))
is_few c = counts_few (given (begun (goal.at.Else-not-counts_fine c).After-long_enough)) (is_fine c)

pub returns-then-not-long_enough : goal.returns-then-not-long_enough
returns-then-not-long_enough c =
    let s = begun (goal.at.returns-then-not-long_enough c).After-long_enough in record {
      write_promise = promise_refused (given s) s.args.book.now _ (written_short (given s) _ (sym c.long_enough.ensures ∙ c.if-not-long_enough.true))
          (ap Err c.locate.ensures);
      within_room = tt;
    }

pub returns-then-not-counts_fine : goal.returns-then-not-counts_fine
returns-then-not-counts_fine c =
    let s = begun (goal.at.returns-then-not-counts_fine c).After-long_enough in record { write_promise = promise_refused (given s) s.args.book.now _ (written_many (given s) _ (is_long (goal.at.returns-then-not-counts_fine c).Else-not-long_enough) (sym c.counts_fine.ensures ∙ c.if-not-counts_fine.true)) (ap Err c.locate-then-not-counts_fine.ensures); within_room = tt }

pub judge_book-requires : goal.judge_book-requires
judge_book-requires c =
    let way = goal.at.judge_book-requires c in
    lists_enough (given way.Start) _ (is_long way.Else-not-long_enough) (is_few way.Else-not-counts_fine)

pub returns-in_err-judge_book-clause-write_promise : goal.returns-in_err-judge_book-clause-write_promise
returns-in_err-judge_book-clause-write_promise c =
    let way = goal.at.returns-in_err-judge_book-clause-write_promise c in
    let s = way.Start in
    let p = err_from_is_err_and c.from_residual.result c.from_residual.ensures.1 in
    let wrong = judged_wrong (book_given (given s)) _ (sym c.in_err-judge_book.ensures) in
    promise_refused (given s) s.args.book.now _ (written_wrong (given s) _ _ (is_long way.Else-not-long_enough) (is_fine way.Else-not-counts_fine) wrong)
    (p.1 ∙ ap Err p.2)

pub lay_book-requires : goal.lay_book-requires
lay_book-requires c =
    let s = begun (goal.at.lay_book-requires c).After-long_enough in
    record {
      book_lists = lists_enough (given s) _ (is_long (goal.at.lay_book-requires c).Else-not-long_enough) (is_few (goal.at.lay_book-requires c).Else-not-counts_fine);
      requirements_in_bounds = room_enough (given s) _ (is_long (goal.at.lay_book-requires c).Else-not-long_enough);
    }

pub overflow_cast-result : goal.overflow_cast-result
overflow_cast-result c =
    omega (arith, c.book_size.ensures, (is_few (goal.at.overflow_cast-result c).Else-not-counts_fine).units, (is_few (goal.at.overflow_cast-result c).Else-not-counts_fine).requirements)

pub returns : goal.returns
returns c =
    let s = begun (goal.at.returns c).After-long_enough in
    let book = judged_fine (book_given (given s)) (sym c.in_ok-judge_book.ensures) in record {
      write_promise = promise_written (given s) s.args.book.now _ _ (written_fine (given s) _ book.0 (is_long (goal.at.returns c).Else-not-long_enough) (is_fine (goal.at.returns c).Else-not-counts_fine) book.1) c.book_size.ensures
          c.lay_book.ensures;
      within_room = omega (arith, c.book_size.ensures, room_enough (given s) _ (is_long (goal.at.returns c).Else-not-long_enough));
    }
