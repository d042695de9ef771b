-- The words hold a tally that can be asked and the row's answer is told, or they hold none and the refusal is.
use mathlib.Core.Path.{◌≡◌, refl, ◌∙◌, ap, subst}
use mathlib.Core.Bool.{Bool}
use lib.Dec.{leb}
use lib.ListN.{length}
use borrow.Author.Tests.{leb-true}
use Rattle.rules.specs.declared.Direction.{Direction}
use Rattle.interval.specs.Lent.{lent_member}
use Rattle.answer.specs.Roster.{MemberPromise}
use Rattle.dullavane.specs.Words.{handed, reply_number}
use Rattle.dullavane.proofs.WordsLaws.{was_handed}
use Rattle.dullavane.proofs.Called.{was_called, was_unheld}
use Rattle.dullavane.specs.Asked.{asked_tally, asked_narrow, member_words}
use Rattle.dullavane.proofs.AskedLaws.{AskedTally, asked_means, AskedNarrow, asked_fits}
use Rattle.dullavane.proofs.dullavane_member.Goals as goal
use Rattle.dullavane.proofs.dullavane_member.Goals.{After-asked, In-Ok, Start}

abbrev start : After-asked → Start
start c = (goal.at.After-asked c).Start

asked_so : (c : After-asked) → let a = (start c).args in c.asked.result ≡
    handed (asked_tally a.tally.now (asked_narrow a.row a.direction a.set) (leb member_words (length a.words.now)))
asked_so c =
    let a = (start c).args in
    c.asked.ensures ∙ ap (λ (narrow : Bool). handed (asked_tally a.tally.now narrow (leb member_words (length a.words.now))))
    c.narrow_asked-narrow.ensures

means : (c : In-Ok) → let a = (start (goal.at.In-Ok c).After-asked).args in AskedTally a.tally.now (asked_narrow a.row a.direction a.set)
    (leb member_words (length a.words.now))
means c = asked_means _ _ _ refl (ap reply_number (was_handed _ (asked_so (goal.at.In-Ok c).After-asked) c.in-Ok.is))

fits : (c : In-Ok) → let a = (start (goal.at.In-Ok c).After-asked).args in AskedNarrow a.row a.direction a.set
fits c = asked_fits _ _ _ (means c).narrow_so

pub overflow_cast-row : goal.overflow_cast-row
overflow_cast-row c = record { fits = (fits (goal.at.overflow_cast-row c).In-Ok).row_fits }

pub overflow_cast-set : goal.overflow_cast-set
overflow_cast-set c = record { fits = (fits (goal.at.overflow_cast-set c).In-Ok).set_fits }

pub tell_row-requires : goal.tell_row-requires
tell_row-requires c = leb-true _ _ (means (goal.at.tell_row-requires c).In-Ok).long_so

pub returns-in-Ok : goal.returns-in-Ok
returns-in-Ok c =
    let a = (start (goal.at.returns-in-Ok c).After-asked).args in
    λ rest.
    let l = lent_member rest a.figures.now a.numbers.now a.homes.now in
    let promised =
    subst (λ (d : Direction). MemberPromise c.in-Ok.before a.row d a.set l c.member-found.result) c.direction_of-toward.ensures
    (c.member-found.ensures rest) in
    record { answer = was_called _ _ _ _ _ (was_handed _ (asked_so (goal.at.returns-in-Ok c).After-asked) c.in-Ok.is) promised c.tell_row.ensures }

pub returns-in-Err : goal.returns-in-Err
returns-in-Err c =
    λ rest. record { answer = was_unheld _ _ _ _ _ (was_handed _ (asked_so (goal.at.returns-in-Err c).After-asked) c.in-Err.is) c.refusal_number.ensures tt }
