-- Two units for one in a roster are two plants for one. In its place nothing is asked for; anywhere else it may split no group, and in a roster that the format
-- takes none is split: a unit without a group never stands between two units of one group, for the group would return after it was left.
use mathlib.Core.Path.{◌≡◌, refl, sym, ◌∙◌, ap, subst}
use mathlib.Core.Bool.{Bool, true, false, cond, not, ◌&&◌, ◌||◌, false≢true}
use mathlib.Core.List.{List, [], ◌∷◌, ◌++◌}
use Prim.Native.Nat.{ℕ, zero, suc}
use lib.Dec.{eqb}
use lib.ListN.{drop}
use borrow.Author.Tests.{eqb-true}
use Rattle.integers.specs.Sums.{both}
use Rattle.integers.specs.Totals.{All}
use Rattle.rules.specs.Quantities.{regions}
use Rattle.rules.specs.Contents.{contents, contents_size, frequency_start, unit_start, unit_size, requirement_start}
use Rattle.rules.specs.SettingsRecord.{settings}
use Rattle.rules.specs.Refusals.{taken, at, ◌>>=◌}
use Rattle.rules.specs.Book.{Unit, Book}
use Rattle.rules.specs.UnitRecord.{unit_record}
use Rattle.rules.specs.Groups.{same_group, new_among, group_fine, in_its_group}
use Rattle.rules.specs.WholeBook.{frequency_body, unit_body, requirement_body, book}
use Rattle.rules.specs.Plants.{Plant, alone, with_unit, plants_from, plants}
use Rattle.laws.proofs.LimitsLaws.{took, went_on, there, in_group}
use Rattle.laws.proofs.PlantsLaws.{unit_parts, plant_ends, fine_behind}
use Rattle.closing.specs.Parts.{Parts}
use Rattle.closing.specs.TwoForOne.{Inserted, here, later, TwoForOne}
use Rattle.closing.specs.Drawn.{with_roster, Drawn, whole_groups, Unsplit, RosterDrawn}

-- ---- in its place
amid : {A : Type 0} {z : A} (xs : List A) {rest whole : List A} → Inserted z rest whole → Inserted z (xs ++ rest) (xs ++ whole)
amid [] i = i
amid (x ∷ xs) i = later (amid xs i)

in_place : {A : Type 0} (xs ys : List A) (u x y : A) → TwoForOne u x y (xs ++ (u ∷ ys)) (xs ++ (x ∷ y ∷ ys))
in_place xs ys u x y =
    record { others = xs ++ ys; with_first = xs ++ (x ∷ ys); one = amid xs here; first = amid xs here; second = amid xs (later here) }

-- side by side where the one stood, in any roster at all
pub drawn_in_place : (b : Book) (u x y : Unit) → Parts u x y → (before after : List Unit) → b.roster ≡ before ++ (u ∷ after) →
    Drawn b (with_roster b (before ++ (x ∷ y ∷ after))) u x y
unfolding plants
drawn_in_place b u x y h before after e =
    let old = ap plants e ∙ unit_parts before after u h.group in
    let second = unit_parts [] after y h.second.group in
    let new = unit_parts before (y ∷ after) x h.first.group ∙ ap (λ (ps : List Plant). plants before ++ (alone x ∷ ps)) second in
    record {
      parts = h;
      places = subst (λ (ps : List Plant). TwoForOne (alone u) (alone x) (alone y) ps (plants (before ++ (x ∷ y ∷ after)))) (sym old)
          (subst (λ (ps : List Plant). TwoForOne (alone u) (alone x) (alone y) (plants before ++ (alone u ∷ plants after)) ps) (sym new)
          (in_place (plants before) (plants after) (alone u) (alone x) (alone y)));
      all_else = refl;
    }

-- ---- anywhere
false_of : (t : Bool) → not t ≡ true → t ≡ false
false_of true e = absurd (false≢true e)
false_of false e = refl

-- one unit without a group
module _ (z : Unit) (none : z.group ≡ 0) where
  -- right behind it no group goes on that stood before it
  apart : (v : Unit) (vs : List Unit) (u : Unit) → group_fine (z ∷ v ∷ vs) u ≡ true →
      (same_group v.group u.group ≡ false) × (eqb u.group 0 || new_among u.group (v ∷ vs) ≡ true)
  unfolding new_among
  apart v vs u t = go (eqb u.group 0) (new_among u.group vs) (eqb v.group u.group) _ (sym (fine_behind z (v ∷ vs) u none) ∙ t)
    where
      go : (e n s f : Bool) → e || (n && not s && f) ≡ true → (not e && s ≡ false) × (e || (n && not s) ≡ true)
      go true n s f t = (refl, refl)
      go false n s f t = let k = (both (n && not s) f t).0 in (false_of s (both n (not s) k).1, k)

  -- so among the plants it is put in too
  among_from : (p : Plant) (v : Unit) (vs : List Unit) → p.group ≡ v.group → {rest whole : List Unit} → Inserted z rest whole →
      whole_groups (v ∷ vs) whole ≡ true → Inserted (alone z) (plants_from p rest) (plants_from p whole)
  unfolding whole_groups plants_from plants
  among_from p v vs e (here {rest}) t = rw (plant_ends p rest z none) (go rest (both (group_fine (v ∷ vs) z) (whole_groups (z ∷ v ∷ vs) rest) t).1)
    where
      go : (rest : List Unit) → whole_groups (z ∷ v ∷ vs) rest ≡ true → Inserted (alone z) (plants_from p rest) (p ∷ alone z ∷ plants rest)
      go [] t = later here
      go (w ∷ ws) t = rw (e, (apart v vs w (both (group_fine (z ∷ v ∷ vs) w) (whole_groups (w ∷ z ∷ v ∷ vs) ws) t).0).0) (later here)
  among_from p v vs e (later {w} {rest} {whole} i) t =
      go (λ q f. among_from q w (v ∷ vs) f i (both (group_fine (v ∷ vs) w) (whole_groups (w ∷ v ∷ vs) whole) t).1) (same_group p.group w.group) refl
    where
      go : ((q : Plant) → q.group ≡ w.group → Inserted (alone z) (plants_from q rest) (plants_from q whole)) → (t : Bool) →
          same_group p.group w.group ≡ t →
          Inserted (alone z) (cond t (plants_from (cond t (with_unit p w) (alone w)) rest) (p ∷ plants_from (cond t (with_unit p w) (alone w)) rest))
          (cond t (plants_from (cond t (with_unit p w) (alone w)) whole) (p ∷ plants_from (cond t (with_unit p w) (alone w)) whole))
      go ih true f = ih (with_unit p w) (eqb-true p.group w.group (both (not (eqb w.group 0)) _ f).1)
      go ih false f = later (ih (alone w) refl)

  among_plants : {rest whole : List Unit} → Inserted z rest whole → whole_groups [] whole ≡ true → Inserted (alone z) (plants rest) (plants whole)
  unfolding whole_groups plants
  among_plants (here {rest}) t = rw (unit_parts [] rest z none) here
  among_plants (later {w} {rest} {whole} i) t = among_from (alone w) w [] refl i (both (group_fine [] w) (whole_groups (w ∷ []) whole) t).1

  -- and it can be taken out, for that splits no group either
  new_without : (g : ℕ) {rest whole : List Unit} → Inserted z rest whole → new_among g whole ≡ true → new_among g rest ≡ true
  unfolding new_among
  new_without g (here {rest}) t = (both (new_among g rest) _ t).0
  new_without g (later {w} {rest} {whole} i) t =
      let k = both (new_among g whole) (not (eqb w.group g)) t in
      rw (new_without g i k.0, k.1)

  fine_without : (u : Unit) {rest whole : List Unit} → Inserted z rest whole → group_fine whole u ≡ true → group_fine rest u ≡ true
  unfolding group_fine
  fine_without u (here {rest}) t = go rest t
    where
      go : (rest : List Unit) → group_fine (z ∷ rest) u ≡ true → group_fine rest u ≡ true
      go [] t = refl
      go (v ∷ vs) t = let k = apart v vs u t in rw k.0 k.1
  fine_without u (later {w} {rest} {whole} i) t = go (same_group w.group u.group) _ (eqb u.group 0) t
    where
      go : (s a e : Bool) → cond s a (e || new_among u.group (w ∷ whole)) ≡ true → cond s a (e || new_among u.group (w ∷ rest)) ≡ true
      go true a e t = t
      go false a true t = refl
      go false a false t = new_without u.group (later i) t

  behind_without : (us : List Unit) {rest whole : List Unit} → Inserted z rest whole → whole_groups whole us ≡ true → whole_groups rest us ≡ true
  unfolding whole_groups
  behind_without [] i t = refl
  behind_without (u ∷ us) {rest} {whole} i t =
      let k = both (group_fine whole u) (whole_groups (u ∷ whole) us) t in
      rw (fine_without u i k.0, behind_without us (later i) k.1)

  unsplit_without : (before : List Unit) {rest whole : List Unit} → Inserted z rest whole → whole_groups before whole ≡ true → whole_groups before rest ≡ true
  unfolding whole_groups
  unsplit_without before (here {rest}) t = behind_without rest here (both (group_fine before z) (whole_groups (z ∷ before) rest) t).1
  unsplit_without before (later {w} {rest} {whole} i) t =
      let k = both (group_fine before w) (whole_groups (w ∷ before) whole) t in
      rw (k.0, unsplit_without (w ∷ before) i k.1)

pub rosters_drawn : (b c : Book) (u x y : Unit) → Unsplit b → RosterDrawn b c u x y → Drawn b c u x y
rosters_drawn b c u x y old k =
    let h = k.parts in
    let two = k.places in
    record {
      parts = h;
      places = record {
        others = plants two.others;
        with_first = plants two.with_first;
        one = among_plants u h.group two.one old;
        first = among_plants x h.first.group two.first (unsplit_without y h.second.group [] two.second k.unsplit);
        second = among_plants y h.second.group two.second k.unsplit;
      };
      all_else = k.all_else;
    }

-- ---- rosters in which no group is split
-- one without groups
pub ungrouped_unsplit : (before us : List Unit) → All (λ u. u.group ≡ 0) us → whole_groups before us ≡ true
unfolding whole_groups group_fine All
ungrouped_unsplit before [] a = refl
ungrouped_unsplit before (u ∷ us) a = rw (fine before, ungrouped_unsplit (u ∷ before) us a.1)
  where
    fine : (before : List Unit) → group_fine before u ≡ true
    fine [] = refl
    fine (v ∷ vs) = rw a.0

-- one that the format takes
body_unsplit : (n place least : ℕ) (before : List Unit) (bs : List ℕ) (us : List Unit) → unit_body n place least before bs ≡ taken us →
    whole_groups before us ≡ true
unfolding unit_body whole_groups
body_unsplit zero place least before bs us e = subst (λ (l : List Unit). whole_groups before l ≡ true) (took e) refl
body_unsplit (suc n) place least before bs us e =
    let first = went_on (at place (unit_record least bs >>= in_its_group before)) _ us e in
    let rest = went_on (unit_body n (suc place) (suc first.0.number) (first.0 ∷ before) (drop unit_size bs)) _ us first.2 in
    let tail = body_unsplit n (suc place) (suc first.0.number) (first.0 ∷ before) (drop unit_size bs) rest.0 rest.1 in
    let fine = (in_group before (unit_record least bs) first.0 (there place _ first.0 first.1)).1 in
    subst (λ (l : List Unit). whole_groups before l ≡ true) (took rest.2) (rw (fine, tail))

pub taken_unsplit : (bs : List ℕ) (b : Book) → book bs ≡ taken b → Unsplit b
unfolding book
taken_unsplit bs b e =
    let counts = went_on (at 0 (contents bs)) _ b e in
    let s = went_on (at 1 (settings (drop contents_size bs))) _ b counts.2 in
    let rs = went_on (frequency_body regions 0 (drop frequency_start bs)) _ b s.2 in
    let us = went_on (unit_body counts.0.units 1 0 [] (drop unit_start bs)) _ b rs.2 in
    let qs = went_on (requirement_body counts.0.requirements 1 0 (drop (requirement_start counts.0.units) bs)) _ b us.2 in
    subst Unsplit (took qs.2) (body_unsplit counts.0.units 1 0 [] (drop unit_start bs) us.0 us.1)
