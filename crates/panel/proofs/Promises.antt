-- Laws of the definitions in specs/Press.antt: the promise leaves one reply, and one content of the text.
use Rattle.std.specs.Prelude.{Result}
use Rattle.rules.specs.declared.Refusal.{Refusal}
use mathlib.Core.Path.{◌≡◌, sym, ◌∙◌}
use mathlib.Core.List.{List}
use Prim.Native.Nat.{ℕ}
use Rattle.rules.specs.declared.Page.{Page}
use Rattle.rules.specs.declared.Key.{Key}
use Rattle.interval.specs.declared.Tally.{Tally}
use Rattle.interval.specs.Lent.{Lent}
use Rattle.panel.specs.declared.Shown.{Shown}
use Rattle.panel.specs.Press.{Cents, PressPromise}

pub press_only :
    (p : Page) (key : Key) (book : ℕ) (t : Tally) (part : List ℕ) (s : Shown) (l : Lent) (c : Cents) (old : List ℕ) {r r' : Result Page Refusal} {new new' : List ℕ} →
    PressPromise p key book t part s l c old r new → PressPromise p key book t part s l c old r' new' → (r ≡ r') × (new ≡ new')
press_only p key book t part s l c old a b = (a.reply ∙ sym b.reply, a.written ∙ sym b.written)
