-- No promise allows two answers: any two that it allows are the same.
use Rattle.std.specs.Prelude.{Result, ⊤}
use Rattle.rules.specs.declared.Refusal.{Refusal}
use mathlib.Core.Path.{◌≡◌, sym, ◌∙◌}
use mathlib.Core.List.{List}
use Prim.Native.Nat.{ℕ}
use lib.IntN.{ℤ}
use Rattle.rules.specs.declared.Direction.{Direction}
use Rattle.rules.specs.Answer.{Line}
use Rattle.rules.specs.Panel.{at_left, figure, first_page, member_page, refusal_page}
use Rattle.rules.specs.Phrases.{phrase}
use Rattle.pages.specs.Promises.{Draws}

drawing_only : (places : ℕ) (drawing old : List ℕ) {r r' : Result ⊤ Refusal} {new new' : List ℕ} → Draws places drawing old r new →
    Draws places drawing old r' new' → (r ≡ r') × (new ≡ new')
drawing_only places drawing old p q = (p.reply ∙ sym q.reply, p.written ∙ sym q.written)

module _ (old : List ℕ) {r r' : Result ⊤ Refusal} {new new' : List ℕ} where
  pub figure_only : (x : ℤ) → Draws 16 (figure x) old r new → Draws 16 (figure x) old r' new' → (r ≡ r') × (new ≡ new')
  figure_only x = drawing_only 16 (figure x) old

  pub first_page_only : (number : ℕ) (direction : Direction) (rcr pool cost : ℤ) → let page = first_page number direction rcr pool cost in
      Draws 80 page old r new → Draws 80 page old r' new' → (r ≡ r') × (new ≡ new')
  first_page_only number direction rcr pool cost = drawing_only 80 (first_page number direction rcr pool cost) old

  pub member_page_only : (l : Line) → Draws 80 (member_page l) old r new → Draws 80 (member_page l) old r' new' → (r ≡ r') × (new ≡ new')
  member_page_only l = drawing_only 80 (member_page l) old

  pub refusal_page_only : (number : ℕ) → Draws 80 (refusal_page number) old r new → Draws 80 (refusal_page number) old r' new' → (r ≡ r') × (new ≡ new')
  refusal_page_only number = drawing_only 80 (refusal_page number) old

pub phrase_only : (number : ℕ) {r r' : List ℕ} → r ≡ at_left 20 (phrase number) → r' ≡ at_left 20 (phrase number) → r ≡ r'
phrase_only number p q = p ∙ sym q
