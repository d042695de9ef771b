-- Laws of the definitions in specs/Roster.antt.
use mathlib.Core.Path.{◌≡◌, refl, sym, ◌∙◌, ap}
use mathlib.Core.Bool.{Bool, true, false, cond, ◌&&◌, ◌||◌}
use mathlib.Core.List.{List, [], ◌∷◌, ◌++◌, map, map-append, map-map}
use Prim.Native.Nat.{ℕ, ◌+◌, ◌/◌, ◌%◌, ◌≤◌, ◌<◌}
use lib.Dec.{eqb, leb}
use lib.IntN.{ℤ}
use lib.ListN.{length, get_or}
use native.Mathlib.Omega.{arith}
use borrow.Author.Tests.{leb-true, le-leb, lt-ltb, eqb-false}
use Rattle.integers.specs.Sums.{every, both}
use Rattle.integers.proofs.Sums.{every_at}
use Rattle.rules.specs.declared.Direction.{Direction}
use Rattle.rules.specs.declared.Direction.TheVariants.{Raise, Lower}
use Rattle.rules.specs.declared.Reason.TheVariants.{BadUnit}
use Rattle.rules.specs.declared.Refusal.TheVariants.{WrongState}
use Rattle.rules.specs.declared.Standing.{Standing}
use Rattle.rules.specs.Quantities.{regions, amount_limit, residual_default_limit}
use Rattle.rules.specs.Fields.{default_fine}
use Rattle.rules.specs.Refusals.{taken, unless}
use Rattle.rules.specs.Bytes.{bit}
use Rattle.rules.specs.Book.{Requirement, covers}
use Rattle.rules.specs.RequirementRecord.{set_fine}
use Rattle.rules.specs.Standings.{standing}
use Rattle.rules.specs.Members.{unit, residual, Member as Sharer}
use Rattle.interval.specs.declared.Tally.{Tally}
use Rattle.interval.specs.Tally.{in_range, answer_turn}
use Rattle.interval.specs.Lent.{Lent, figures_length, passed_over, of_interval}
use Rattle.kept.specs.Kept.{figure, reliable_of, region_of, row_standing, row_member, residual_row, rows_of, kept_members}
use Rattle.kept.specs.Range.{from_0, region_fine, unit_fine, figures_fine, rows_fine}
use Rattle.answer.specs.Asked.{lent_members}
use Rattle.answer.specs.declared.Row.{Row}
use Rattle.answer.specs.declared.Row.TheVariants.{Unit, Other}
use Rattle.answer.specs.Made.{reliable_at}
use Rattle.answer.specs.Lists.{gathered}
use Rattle.answer.specs.Roster.{MemberPromise, Named, member_reply, home_fine, member_long, row_says, row_told}

pub member_long_means :
    (n : ℕ) (l : Lent) → member_long n l ≡ true → (figures_length ≤ length l.figures) × (n ≤ length l.numbers) × (n ≤ length l.homes)
member_long_means n l e =
    let a = both (leb figures_length (length l.figures)) _ e in
    let b = both (leb n (length l.numbers)) _ a.1 in
    (leb-true _ _ a.0, leb-true _ _ b.0, leb-true _ _ b.1)

pub home_means : (d : Direction) (home : ℕ) (figures : List ℤ) → home_fine d home figures ≡ true → home ≤ passed_over
home_means d home figures e = leb-true _ _ (both (leb home passed_over) _ e).0

-- a set in range is of five regions
pub set_five : (set : ℕ) → set_fine set ≡ true → set ≤ 31
set_five set e = leb-true set 31 (both (leb 1 set) (leb set 31) e).1

pub member_only :
    {t : Tally} {i : ℕ} {d : Direction} {set : ℕ} {l : Lent} {r r' : Row} → MemberPromise t i d set l r → MemberPromise t i d set l r' → r ≡ r'
member_only a b = a.reply ∙ sym b.reply

-- ---- a row by its number and home
pub standing_of_row :
    (l : Lent) (d : Direction) (i : ℕ) →
    standing (reliable_of (lent_members l.figures [] []) d (get_or l.homes i 0 / 2)) (eqb (get_or l.homes i 0 % 2) 1) BadUnit ≡ row_standing l d i
standing_of_row l Raise i = refl
standing_of_row l Lower i = refl

pub row_told_is :
    (l : Lent) (d : Direction) (set i : ℕ) →
    row_told d set (get_or l.numbers i 0) (get_or l.homes i 0) l.figures ≡
    unless (home_fine d (get_or l.homes i 0) l.figures) WrongState (taken (row_says l d set i))
row_told_is l d set i =
    ap (λ (s : Standing). unless (home_fine d (get_or l.homes i 0) l.figures) WrongState
    (taken (cond (bit (region_of l i) set) (Unit (get_or l.numbers i 0) s) Other))) (standing_of_row l d i)

-- ---- the rows' walk: every unit of the requirement's regions in roster order, then the residual
abbrev pub named : Sharer → Named
named m = record { name = m.name; standing = m.standing }

pub walk :
    (t : Tally) (l : Lent) (q : Requirement) → map named (kept_members t l q) ≡ gathered (λ i. covers q (region_of l i))
    (λ i. record { name = unit (get_or l.numbers i 0); standing = row_standing l q.direction i }) t.units ++
    (record { name = residual; standing = (residual_row t l q).standing } ∷ [])
unfolding kept_members
walk t l q =
    map-append named (map (row_member l q.direction) (rows_of t l q)) (residual_row t l q ∷ [])
    ∙ ap (λ (ns : List Named). ns ++ (named (residual_row t l q) ∷ [])) (map-map named (row_member l q.direction) (rows_of t l q))

-- ---- of numbers in range no row is refused
module _ (t : Tally) (l : Lent) (i : ℕ) where
  abbrev home : ℕ
  home = get_or l.homes i 0

  figure_fine : (d : Direction) (r : ℕ) → r < regions → every regions (region_fine l) ≡ true → from_0 1 (figure l r (reliable_at d)) ≡ true
  figure_fine d r below e = go d
    where
      first : (from_0 1 (figure l r 2) && (from_0 1 (figure l r 3) && every 6 (λ j. default_fine residual_default_limit (figure l r (4 + j))))) ≡ true
      first = (both (from_0 amount_limit (figure l r 1)) _ (every_at regions (region_fine l) e r below)).1

      go : (d : Direction) → from_0 1 (figure l r (reliable_at d)) ≡ true
      go Raise = (both (from_0 1 (figure l r 2)) _ first).0
      go Lower = (both (from_0 1 (figure l r 3)) _ (both (from_0 1 (figure l r 2)) _ first).1).0

  home_known :
      (d : Direction) → home ≤ passed_over → every regions (region_fine l) ≡ true →
      (eqb home passed_over || from_0 1 (figure l (home / 2) (reliable_at d))) ≡ true
  home_known d h e = go (eqb home passed_over) refl
    where
      go : (t : Bool) → eqb home passed_over ≡ t → (t || from_0 1 (figure l (home / 2) (reliable_at d))) ≡ true
      go true f = refl
      go false f = figure_fine d (home / 2) (omega (arith, eqb-false home passed_over f)) e

  pub member_taken :
      (d : Direction) (set : ℕ) → (in_range t && answer_turn t) ≡ true → set_fine set ≡ true → i < t.units → figures_length ≤ length l.figures →
      t.units ≤ length l.numbers → t.units ≤ length l.homes → figures_fine t l ≡ true → rows_fine t l ≡ true →
      member_reply t i d set l ≡ taken (row_says l d set i)
  unfolding member_reply rows_fine figures_fine
  member_taken d set turn fine h fs us hs f r =
      let own = both (of_interval t.interval l.figures) _ f in
      let at = (both (leb home passed_over) _ (every_at t.units (unit_fine l) r i h)).0 in
      rw (
        turn,
        fine,
        lt-ltb i t.units h,
        le-leb figures_length (length l.figures) fs,
        le-leb t.units (length l.numbers) us,
        le-leb t.units (length l.homes) hs,
        own.0,
        at,
        home_known d (leb-true _ _ at) own.1,
      )
