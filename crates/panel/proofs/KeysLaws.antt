-- Laws of the keys: where a page stands and what a key makes of it, for the code's proofs; and what a person may count on who presses keys.
use mathlib.Core.Path.{◌≡◌, refl, sym, ap, ◌∙◌}
use mathlib.Core.Bool.{Bool, true, false, cond, ◌&&◌}
use mathlib.Core.List.{List}
use mathlib.Core.Logic.{◌⊎◌, inl, inr}
use Prim.Native.Nat.{ℕ, zero, suc, ◌+◌, ◌<◌, ◌≤◌}
use native.Mathlib.Numerals.{add-one}
use native.Mathlib.Omega.{arith}
use borrow.Author.Tests.{ltb-true, ltb-false, lt-ltb, le-ltb, eq-eqb, ne_eqb}
use lib.Dec.{ltb, eqb}
use lib.ListN.{replicate}
use Rattle.rules.specs.declared.Page.{Page}
use Rattle.rules.specs.declared.Key.{Key}
use Rattle.rules.specs.declared.Key.TheVariants.{Show, Next, Previous, Home}
use Rattle.rules.specs.Keys.{stands_at, moved, step}
use Rattle.panel.specs.Keys.{keys_pressed, nexts_after_home}

-- ---- where a page stands
not_both : (z : Bool) → (z && false) ≡ false
not_both true = refl
not_both false = refl

module _ (p : Page) (book requirement last : ℕ) where
  pub other_book : (p.book ≡ book → ⊥) → stands_at p book requirement last ≡ 0
  other_book h = rw (ne_eqb p.book book h)

  pub other_requirement : (p.requirement ≡ requirement → ⊥) → stands_at p book requirement last ≡ 0
  other_requirement h = rw (ne_eqb p.requirement requirement h, not_both (eqb p.book book))

  module _ (b : p.book ≡ book) (r : p.requirement ≡ requirement) where
    pub past : last ≤ p.page → stands_at p book requirement last ≡ last
    past h = rw (eq-eqb p.book book b, eq-eqb p.requirement requirement r) (by_test (ltb last p.page) refl)
      where
        by_test : (z : Bool) → ltb last p.page ≡ z → cond z last p.page ≡ last
        by_test true e = refl
        by_test false e = omega (arith, ltb-false last p.page e)

    pub within : p.page ≤ last → stands_at p book requirement last ≡ p.page
    within h = rw (eq-eqb p.book book b, eq-eqb p.requirement requirement r, le-ltb last p.page h)

-- ---- what next makes of a page
module _ (last page : ℕ) where
  pub next_goes : page < last → moved Next last page ≡ page + 1
  next_goes h = rw (lt-ltb page last h, add-one)

  pub next_stays : last ≤ page → moved Next last page ≡ page
  next_stays h = rw (le-ltb page last h)

-- ---- every answer holds a page that is there
clamped : (last page : ℕ) (z : Bool) → ltb last page ≡ z → cond z last page ≤ last
clamped last page true e = omega arith
clamped last page false e = omega (arith, ltb-false last page e)

or_home : {last page : ℕ} (z : Bool) → page ≤ last → cond z page 0 ≤ last
or_home true h = h
or_home false h = omega arith

moved_there : (key : Key) (last page : ℕ) → page ≤ last → moved key last page ≤ last
moved_there Show last page h = h
moved_there Next last page h = by_test (ltb page last) refl
  where
    by_test : (z : Bool) → ltb page last ≡ z → cond z (suc page) page ≤ last
    by_test true e = omega (arith, ltb-true page last e)
    by_test false e = h
moved_there Previous last page h = omega arith
moved_there Home last page h = omega arith

-- THE PAGE OF A STEP IS THERE, AND THE BOOK AND THE REQUIREMENT ARE THE CALL'S
pub step_there : (p : Page) (key : Key) (book requirement members : ℕ) → let q = step p key book requirement members in
    (q.page ≤ members) × ((q.book ≡ book) × (q.requirement ≡ requirement))
unfolding step
step_there p key book requirement members = (
  moved_there key members (stands_at p book requirement members)
      (or_home (eqb p.book book && eqb p.requirement requirement) (clamped members p.page (ltb members p.page) refl)),
  (refl, refl),
)

-- ---- so many times next, from a page that is there
module _ (book requirement members : ℕ) where
  module _ (p : Page) (b : p.book ≡ book) (r : p.requirement ≡ requirement) where
    next_after : p.page < members → (step p Next book requirement members).page ≡ p.page + 1
    unfolding step
    next_after h = ap (moved Next members) (within p book requirement members b r (omega arith)) ∙ next_goes members p.page h

    next_at_last : p.page ≡ members → (step p Next book requirement members).page ≡ members
    unfolding step
    next_at_last h = ap (moved Next members) (within p book requirement members b r (omega arith)) ∙ (next_stays members p.page (omega arith) ∙ h)

    nearer : (count : ℕ) → p.page ≤ members → members ≤ p.page + suc count → members ≤ (step p Next book requirement members).page + count
    nearer count there h = by_test (ltb p.page members) refl
      where
        by_test : (z : Bool) → ltb p.page members ≡ z → members ≤ (step p Next book requirement members).page + count
        by_test true e = omega (arith, next_after (ltb-true p.page members e))
        by_test false e = omega (arith, next_at_last (omega (arith, ltb-false p.page members e)))

  climbs : (count : ℕ) (p : Page) → p.book ≡ book → p.requirement ≡ requirement → p.page + count ≤ members →
      (keys_pressed p (replicate count Next) book requirement members).page ≡ p.page + count
  unfolding step
  climbs zero p b r h = omega arith
  climbs (suc count) p b r h =
      let e = next_after p b r (omega arith) in omega (arith, e, climbs count (step p Next book requirement members) refl refl (omega (arith, e)))

  arrives : (count : ℕ) (p : Page) → p.book ≡ book → p.requirement ≡ requirement → p.page ≤ members → members ≤ p.page + count →
      (keys_pressed p (replicate count Next) book requirement members).page ≡ members
  unfolding step
  arrives zero p b r there h = omega arith
  arrives (suc count) p b r there h =
      arrives count (step p Next book requirement members) refl refl (step_there p Next book requirement members).0 (nearer p b r count there h)

module _ (p : Page) (book requirement members : ℕ) where
  -- HOME, AND THEN SO MANY TIMES NEXT, GIVES THAT PAGE, OR THE LAST
  pub nexts_from_home : (count : ℕ) → let q = keys_pressed p (nexts_after_home count) book requirement members in
      (count ≤ members → q.page ≡ count) × (members ≤ count → q.page ≡ members)
  unfolding step
  nexts_from_home count =
      let home = step p Home book requirement members in (
        λ h. climbs book requirement members count home refl refl (omega arith) ∙ omega arith,
        λ h. arrives book requirement members count home refl refl (omega arith) (omega arith),
      )

  -- so each page is reached,
  pub every_page_reached : (page : ℕ) → page ≤ members → (count : ℕ) × ((keys_pressed p (nexts_after_home count) book requirement members).page ≡ page)
  every_page_reached page h = (page, (nexts_from_home page).0 h)

  -- and no other
  pub no_other_page : (count : ℕ) → (keys_pressed p (nexts_after_home count) book requirement members).page ≤ members
  no_other_page count = by_test (ltb members count) refl
    where
      by_test : (z : Bool) → ltb members count ≡ z → (keys_pressed p (nexts_after_home count) book requirement members).page ≤ members
      by_test true e = omega (arith, (nexts_from_home count).1 (omega (arith, ltb-true members count e)))
      by_test false e = omega (arith, (nexts_from_home count).0 (ltb-false members count e), ltb-false members count e)

  -- AFTER ANY KEYS, HOME GIVES THE FIRST PAGE
  pub home_after_any_keys : (keys : List Key) → (step (keys_pressed p keys book requirement members) Home book requirement members).page ≡ 0
  unfolding step
  home_after_any_keys keys = refl

  -- BETWEEN TWO BOOKS OR REQUIREMENTS EACH KEY STARTS FROM HOME
  pub home_between : (p.book ≡ book → ⊥) ⊎ (p.requirement ≡ requirement → ⊥) → let given : Key → ℕ = λ key. (step p key book requirement members).page in
      (0 < members → given Next ≡ 1) × (members ≡ 0 → given Next ≡ 0) × (given Show ≡ 0) × (given Previous ≡ 0) × (given Home ≡ 0)
  unfolding step
  home_between other =
      let home : stands_at p book requirement members ≡ 0 =
      elim other [ inl h ↦ other_book p book requirement members h | inr h ↦ other_requirement p book requirement members h ] in (
        λ h. ap (moved Next members) home ∙ next_goes members 0 h,
        λ h. ap (moved Next members) home ∙ next_stays members 0 (omega arith),
        home,
        ap (moved Previous members) home,
        refl,
      )

  -- A PAGE AT THE LAST OR PAST IT ACTS AS THE LAST
  pub past_the_last : (key : Key) → p.book ≡ book → p.requirement ≡ requirement → members ≤ p.page →
      step p key book requirement members ≡ step (record { book = p.book; requirement = p.requirement; page = members }) key book requirement members
  unfolding step
  past_the_last key b r h =
      let last : Page = record { book = p.book; requirement = p.requirement; page = members } in
      ap (λ (page : ℕ). record { book = book; requirement = requirement; page = moved key members page })
      (past p book requirement members b r h ∙ sym (past last book requirement members b r (omega arith)))

  -- NO PROMISE ALLOWS TWO ANSWERS
  module _ {a b : Page} where
    pub step_only : (key : Key) → a ≡ step p key book requirement members → b ≡ step p key book requirement members → a ≡ b
    step_only key e f = e ∙ sym f

    pub pressed_only : (key : Key) → a ≡ step p key book requirement members → b ≡ step p key book requirement members → a ≡ b
    pressed_only = step_only

    pub next_only : a ≡ step p Next book requirement members → b ≡ step p Next book requirement members → a ≡ b
    next_only = step_only Next

    pub previous_only : a ≡ step p Previous book requirement members → b ≡ step p Previous book requirement members → a ≡ b
    previous_only = step_only Previous

    pub home_only : a ≡ step p Home book requirement members → b ≡ step p Home book requirement members → a ≡ b
    home_only = step_only Home

    pub show_only : a ≡ step p Show book requirement members → b ≡ step p Show book requirement members → a ≡ b
    show_only = step_only Show
