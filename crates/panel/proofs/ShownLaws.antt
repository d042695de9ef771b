-- Laws of what a page shows: the first page the requirement, any other the line of the member before it.
use Rattle.std.specs.Prelude.{Result, ⊤}
use Rattle.rules.specs.declared.Refusal.{Refusal}
use mathlib.Core.Path.{◌≡◌, refl, sym, ◌∙◌, ap, subst}
use mathlib.Core.Bool.{Bool, true, false, cond}
use mathlib.Core.List.{List}
use Prim.Native.Nat.{ℕ, suc}
use native.Mathlib.Omega.{arith}
use borrow.Author.Tests.{leb-true}
use lib.Dec.{leb}
use lib.IntN.{ℤ, pos}
use lib.ListN.{get_or}
use Rattle.rules.specs.Book.{Requirement}
use Rattle.rules.specs.Answer.{Line}
use Rattle.rules.specs.declared.Direction.{Direction}
use Rattle.rules.specs.Text.{natural}
use Rattle.rules.specs.Panel.{page_places, figure, first_page, member_page}
use Rattle.interval.specs.Lent.{Lent}
use Rattle.pages.specs.Promises.{Draws, line_of}
use Rattle.panel.specs.declared.Shown.{Shown}
use Rattle.panel.specs.declared.who.Named.{Named}
use Rattle.panel.specs.Press.{Cents, shown_line, shown_page}
use Rattle.panel.specs.Who.{NamedAt}
use Rattle.panel.specs.Turned.{drawn_alike}
use Rattle.pages.proofs.FigureLaws.{digits_many, placed_hashes}

-- what is drawn as hashes is drawn alike
alike : (n : ℕ) → figure (drawn_alike n) ≡ figure (pos n)
alike n = go (leb 10_000_000_000_000_000 n) refl
  where
    go : (t : Bool) → leb 10_000_000_000_000_000 n ≡ t → figure (cond t (pos 10_000_000_000_000_000) (pos n)) ≡ figure (pos n)
    go true e =
        placed_hashes (natural 10_000_000_000_000_000) (digits_many 16 20 10_000_000_000_000_000 (omega arith) (omega arith))
        ∙ sym (placed_hashes (natural n) (digits_many 16 20 n (omega (arith, leb-true 10_000_000_000_000_000 n e)) (omega arith)))
    go false e = refl

-- a page by the figures that it draws
first_alike : (n : ℕ) (d : Direction) (x y z x' y' z' : ℤ) → figure x ≡ figure x' → figure y ≡ figure y' → figure z ≡ figure z' →
    first_page n d x y z ≡ first_page n d x' y' z'
unfolding first_page
first_alike n d x y z x' y' z' a b c = rw (a, b, c)

figure_by : {x : ℤ} (n : ℕ) → x ≡ drawn_alike n → figure x ≡ figure (pos n)
figure_by n e = ap figure e ∙ alike n

module _ (units : ℕ) (l : Lent) (q : Requirement) (s : Shown) (c : Cents) where
  -- what the page reads of a member is its line
  pub line_is :
      {k : ℕ} {n : Named} {x y z : ℤ} → NamedAt units l q s k n → x ≡ get_or c.payments k (pos 0) → y ≡ get_or c.used k (pos 0) →
      z ≡ get_or c.unused k (pos 0) → line_of n.who n.standing x y z ≡ shown_line units l q s c k
  unfolding shown_line
  line_is n hx hy hz = rw (n.name, n.standing, hx, hy, hz)

  module _ {old : List ℕ} {r : Result ⊤ Refusal} {new : List ℕ} where
    pub first_shown :
        {page : ℕ} {x y z : ℤ} → page ≡ 0 → x ≡ drawn_alike s.rcr → y ≡ drawn_alike s.pool → z ≡ drawn_alike q.cost →
        Draws page_places (first_page q.number q.direction x y z) old r new → Draws page_places (shown_page units l q s c page) old r new
    unfolding shown_page
    first_shown {x = x} {y = y} {z = z} e hx hy hz d =
        rw e
        (subst (λ (drawing : List ℕ). Draws page_places drawing old r new)
        (first_alike q.number q.direction x y z (pos s.rcr) (pos s.pool) (pos q.cost) (figure_by s.rcr hx) (figure_by s.pool hy)
        (figure_by q.cost hz))
        d)

    pub member_shown :
        {page k : ℕ} {line : Line} → page ≡ suc k → line ≡ shown_line units l q s c k → Draws page_places (member_page line) old r new →
        Draws page_places (shown_page units l q s c page) old r new
    unfolding shown_page
    member_shown e f d = rw e (rw f at d)
