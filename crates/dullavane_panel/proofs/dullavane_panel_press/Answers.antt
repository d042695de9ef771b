-- The words hold a tally that can be asked and the press is made, or they hold none and the refusal is told.
use mathlib.Core.Path.{◌≡◌, refl, ◌∙◌, ap}
use mathlib.Core.Bool.{Bool}
use Prim.Native.Nat.{◌≤◌}
use lib.Dec.{ltb}
use lib.ListN.{length}
use Rattle.dullavane.specs.Words.{reply_number}
use Rattle.dullavane.specs.Asked.{asked_tally}
use Rattle.dullavane.proofs.Called.{was_called, was_refused}
use Rattle.dullavane.proofs.AskedLaws.{AskedTally, asked_means}
use Rattle.dullavane_panel.specs.Words.{enough}
use Rattle.dullavane_panel.proofs.CalledLaws.{press_same, tally_read, enough_page, enough_reply}
use Rattle.dullavane_panel.proofs.dullavane_panel_press.Goals as goal
use Rattle.dullavane_panel.proofs.dullavane_panel_press.Goals.{After-asked_refusal-refusal, After-press-then, Else-refusal-ne0, Start}

abbrev asked : After-press-then → Else-refusal-ne0
asked c = (goal.at.After-press-then c).Else-refusal-ne0

abbrev start : After-asked_refusal-refusal → Start
start c = (goal.at.After-asked_refusal-refusal c).Start

told : (c : After-asked_refusal-refusal) → let a = (start c).args in
    c.asked_refusal-refusal.result ≡ reply_number (asked_tally a.tally.now (ltb a.key 4) (enough (length a.page.now) (length a.reply.now)))
told c =
    let a = (start c).args in
    c.asked_refusal-refusal.ensures ∙ ap (λ (b : Bool). reply_number (asked_tally a.tally.now (ltb a.key 4) b)) c.words_enough.ensures

means : (c : Else-refusal-ne0) → let a = (start (goal.at.Else-refusal-ne0 c).After-asked_refusal-refusal).args in
    AskedTally a.tally.now (ltb a.key 4) (enough (length a.page.now) (length a.reply.now))
means c = asked_means _ _ _ (told (goal.at.Else-refusal-ne0 c).After-asked_refusal-refusal) c.if-refusal-ne0.false

page_enough : (c : Else-refusal-ne0) → 3 ≤ length (start (goal.at.Else-refusal-ne0 c).After-asked_refusal-refusal).args.page.now
page_enough c = let a = (start (goal.at.Else-refusal-ne0 c).After-asked_refusal-refusal).args in enough_page (length a.page.now) (length a.reply.now) (means c).long_so

reply_enough : (c : Else-refusal-ne0) → 8 ≤ length (start (goal.at.Else-refusal-ne0 c).After-asked_refusal-refusal).args.reply.now
reply_enough c = let a = (start (goal.at.Else-refusal-ne0 c).After-asked_refusal-refusal).args in enough_reply (length a.page.now) (length a.reply.now) (means c).long_so

pub returns-then-refusal-ne0 : goal.returns-then-refusal-ne0
returns-then-refusal-ne0 c = λ rest. record { answer = was_refused _ _ _ _ _ _ (told (goal.at.returns-then-refusal-ne0 c).After-asked_refusal-refusal) c.if-refusal-ne0.true refl }

pub page_in-requires : goal.page_in-requires
page_in-requires c = page_enough (goal.at.page_in-requires c).Else-refusal-ne0

pub shown_in-requires : goal.shown_in-requires
shown_in-requires c = reply_enough (goal.at.shown_in-requires c).Else-refusal-ne0

pub tell_pressed-requires : goal.tell_pressed-requires
tell_pressed-requires c = page_enough (asked (goal.at.tell_pressed-requires c).After-press-then)

pub returns : goal.returns
returns c =
    let m = means (asked (goal.at.returns c).After-press-then) in
    λ rest.
    record {
      answer =
          was_called _ _ _ _ _ (m.as_held ∙ tally_read _ m.in_words c.tally_held.ensures)
          (press_same c.page_in.ensures c.key_in.ensures c.shown_in.ensures (c.press-then.ensures rest)) c.tell_pressed.ensures;
    }
