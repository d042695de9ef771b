-- The words hold a tally that can be asked and a cursor, and the piece is told; or they do not, and the refusal is.
use mathlib.Core.Path.{refl, ◌∙◌}
use mathlib.Core.Bool.{true}
use Rattle.dullavane.proofs.Called.{was_called, was_refused}
use Rattle.dullavane.proofs.AskedLaws.{AskedTally, asked_means}
use Rattle.dullavane_listing.specs.Cursor.{Held}
use Rattle.dullavane_listing.proofs.CursorLaws.{held_means, held_at_once}
use Rattle.dullavane_listing.proofs.CalledLaws.{tally_read, unasked, unheld, asked_of, listed_as}
use Rattle.dullavane_listing.proofs.dullavane_listing.Goals as goal
use Rattle.dullavane_listing.proofs.dullavane_listing.Goals.{After-list-listed, After-slice_known-3-1, After-tally_held, Else-refusal-ne0, Else-unheld-ne0, Start}

abbrev start : Else-refusal-ne0 → Start
start c = (goal.at.Else-refusal-ne0 c).Start

means : (c : Else-refusal-ne0) → AskedTally (start c).args.tally.now true true
means c = asked_means _ _ _ c.asked_refusal-refusal.ensures c.if-refusal-ne0.false

abbrev asked : Else-unheld-ne0 → Else-refusal-ne0
asked c = (goal.at.Else-unheld-ne0 c).Else-refusal-ne0

holds : (c : Else-unheld-ne0) → Held (start (asked c)).args.cursor.now
holds c = held_means _ c.cursor_refusal-unheld.ensures c.if-unheld-ne0.false

abbrev listed : After-slice_known-3-1 → After-list-listed
listed c = (goal.at.After-slice_known-3-1 c).After-list-listed

abbrev held : After-list-listed → After-tally_held
held c = (goal.at.After-list-listed c).After-tally_held

pub returns-then-refusal-ne0 : goal.returns-then-refusal-ne0
returns-then-refusal-ne0 c = λ rest. record { answer = was_refused _ _ _ _ _ _ (unasked _ _ c.asked_refusal-refusal.ensures c.if-refusal-ne0.true) c.if-refusal-ne0.true (refl, refl) }

pub returns-then-unheld-ne0 : goal.returns-then-unheld-ne0
returns-then-unheld-ne0 c =
    let m = means (goal.at.returns-then-unheld-ne0 c).Else-refusal-ne0 in
    λ rest.
    record {
      answer =
          was_refused _ _ _ _ _ _ (unheld _ _ (m.as_held ∙ m.in_words.tally) c.cursor_refusal-unheld.ensures) c.if-unheld-ne0.true (refl, refl);
    }

pub cursor_in-requires : goal.cursor_in-requires
cursor_in-requires c = holds (goal.at.cursor_in-requires c).Else-unheld-ne0

pub tell_listed-requires : goal.tell_listed-requires
tell_listed-requires c = (holds (goal.at.After-tally_held (held (listed (goal.at.tell_listed-requires c).After-slice_known-3-1))).Else-unheld-ne0).long

pub returns : goal.returns
returns c =
    let l = listed (goal.at.returns c).After-slice_known-3-1 in
    let h = held l in
    let m = means (asked (goal.at.After-tally_held h).Else-unheld-ne0) in
    let t = c.tell_listed.ensures in
    λ rest.
    record {
      answer =
          was_called _ _ _ _ _
          (asked_of _ _ (m.as_held ∙ tally_read _ m.in_words h.tally_held.ensures) h.cursor_in.ensures)
          (listed_as (held_at_once _ h.cursor_in.ensures) (l.list-listed.ensures rest), t.2) (t.0, t.1);
    }
