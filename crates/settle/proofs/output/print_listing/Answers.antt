-- The moves left fall with each piece; each piece is the next one.
use mathlib.Core.Path.{◌≡◌, refl, sym, ◌∙◌, subst}
use mathlib.Core.Bool.{true≢false}
use mathlib.Core.List.{[]}
use native.Mathlib.Omega.{arith}
use Rattle.interval.specs.Lent.{Lent}
use Rattle.answer.specs.Asked.{no_lists}
use Rattle.answer.specs.Promises.{Columns, columns}
use Rattle.lister.specs.declared.Listed.{Listed}
use Rattle.lister.specs.declared.Listed.TheVariants.{Written, Nothing}
use Rattle.lister.specs.Promises.{ListPromise}
use Rattle.lister.specs.Steps.{lent_listing}
use Rattle.lister.specs.BookListed.{Reached}
use Rattle.lister.proofs.Progress.{PieceWritten, piece_written}
use Rattle.settle.proofs.output.print_listing.Goals as goal
use Rattle.settle.proofs.output.print_listing.Goals.{After-list-listed, At-loop-count, In-Nothing, In-Refused, In-Written, Start}

abbrev turn : After-list-listed → At-loop-count
turn w = (goal.at.After-list-listed w).At-loop-count

abbrev start : At-loop-count → Start
start l = (goal.at.At-loop-count l).Start

abbrev lists : Start → Lent → Lent
lists s rest = let a = s.args in lent_listing rest a.measures.now a.sums.now a.figures.now a.numbers.now a.homes.now a.rows.now

abbrev list_of : In-Written → After-list-listed
list_of x = (goal.at.In-Written x).After-list-listed

abbrev listed_none : In-Nothing → After-list-listed
listed_none x = (goal.at.In-Nothing x).After-list-listed

abbrev listed_not : In-Refused → After-list-listed
listed_not x = (goal.at.In-Refused x).After-list-listed

abbrev before : At-loop-count → Columns
before l = columns l.loop-count.performances l.loop-count.factors l.loop-count.payments l.loop-count.used l.loop-count.unused

abbrev after : After-list-listed → Columns
after w =
    columns w.list-listed.new.performances w.list-listed.new.factors w.list-listed.new.payments
    w.list-listed.new.used w.list-listed.new.unused

-- what the call gave
gave :
    (w : After-list-listed) (rest : Lent) (r : Listed) → w.list-listed.result ≡ r → let l = turn w in let s = start l in
    ListPromise l.loop-count.cursor s.args.tally s.args.bytes.now (lists s rest) (before l) l.loop-count.text r (after w)
    w.list-listed.new.text
gave w rest r e =
    let l = turn w in
    let s = start l in
    subst (λ (x : Listed). ListPromise l.loop-count.cursor s.args.tally s.args.bytes.now (lists s rest) (before l) l.loop-count.text x (after w)
    w.list-listed.new.text) e (w.list-listed.ensures rest)

given_piece : (x : In-Written) → let l = turn (list_of x) in
    PieceWritten (start l).args.tally l.loop-count.cursor x.in-Written.count x.in-Written.next l.loop-count.text
given_piece x = piece_written (gave (list_of x) no_lists (Written x.in-Written.count x.in-Written.next) x.in-Written.is)

pub loop-count-init : goal.loop-count-init
loop-count-init c = record { long = refl; pieces = λ rest. record { said = []; reached = Reached.first } }

pub slice_bounds-print-end : goal.slice_bounds-print-end
slice_bounds-print-end c =
    let w = list_of (goal.at.slice_bounds-print-end c).In-Written in
    omega (arith, (given_piece (goal.at.slice_bounds-print-end c).In-Written).within, w.list-listed.auto.text)

pub returns-then-not-print : goal.returns-then-not-print
returns-then-not-print c = λ e. absurd (true≢false (sym e))

pub loop-count-smaller : goal.loop-count-smaller
loop-count-smaller c = (given_piece (goal.at.loop-count-smaller c).In-Written).falls

pub loop-count-preserved : goal.loop-count-preserved
loop-count-preserved c =
    let w = list_of (goal.at.loop-count-preserved c).In-Written in
    let i = (turn w).loop-count.invariant in
    record {
      long = omega (arith, w.list-listed.auto.text, i.long);
      pieces = λ rest. let p = i.pieces rest in record {
        said = _;
        reached = Reached.piece p.reached (gave w rest (Written c.in-Written.count c.in-Written.next) c.in-Written.is);
      };
    }

pub returns-in-Nothing : goal.returns-in-Nothing
returns-in-Nothing c =
    let w = listed_none (goal.at.returns-in-Nothing c).In-Nothing in
    let i = (turn w).loop-count.invariant in
    λ e rest.
    let p = i.pieces rest in
    record { said = _; last = _; columns = _; old = _; new = _; pieces = p.reached; through = gave w rest Nothing c.in-Nothing.is }

pub returns-in-Refused : goal.returns-in-Refused
returns-in-Refused c = λ e. absurd (true≢false (sym e ∙ c.broken_off.ensures))
