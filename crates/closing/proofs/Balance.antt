-- A region's good plants and its residual add up to zero, and a requirement in which no default stands balances: each residual is minus its region's good
-- plants, and each plant is in one region, so the payment performances of the members sum to zero, and those above zero weigh what those below do.
use mathlib.Core.Path.{◌≡◌, refl, sym, ◌∙◌, ap, ap₂}
use mathlib.Core.Bool.{Bool, true, false, not, ◌||◌, false≢true}
use mathlib.Core.List.{List, [], ◌∷◌, map}
use Prim.Native.Nat.{ℕ, ◌<◌}
use native.Mathlib.Omega.{arith}
use lib.Dec.{eqb, leb}
use lib.IntN.{ℤ, pos, neg_ℤ, ◌+ℤ◌, +ℤ_invr}
use borrow.Author.Tests.{eqb-true}
use Rattle.integers.specs.Pairs.{gain, loss}
use Rattle.integers.specs.Sums.{when, both}
use Rattle.integers.proofs.Sums.{when_there, every_at, sum_ext, sum_negation}
use Rattle.integers.specs.Totals.{total, totalℕ, those, all, All}
use Rattle.integers.proofs.Totals.{total_ext, total_same, total_those, total_classes, total_parts, total_map, total_more, all_++, all_map, all_so}
use Rattle.rules.specs.declared.Direction.{Direction}
use Rattle.rules.specs.declared.Reason.{Reason}
use Rattle.rules.specs.declared.Reason.TheVariants.{BadUnit, NoGoodUnit}
use Rattle.rules.specs.declared.Standing.{Standing}
use Rattle.rules.specs.declared.Standing.TheVariants.{Live, Default}
use Rattle.rules.specs.Quantities.{regions}
use Rattle.rules.specs.Book.{Defaults, Requirement, covers, Book}
use Rattle.rules.specs.Reliability.{reliable_in}
use Rattle.rules.specs.Deviation.{good}
use Rattle.rules.specs.Plants.{Plant, alone, plants, good_plants}
use Rattle.laws.proofs.PlantsLaws.{plants_fit, ungrouped}
use Rattle.rules.specs.Performance.{weight_in, performance, plants_of, plant_performance, residual_performance}
use Rattle.laws.proofs.PerformanceLaws.{residual_is}
use Rattle.rules.specs.Standings.{standing, plant_standing, some_good_or_none, residual_standing, is_live, live_or}
use Rattle.rules.specs.Members.{plant_member, over_regions, each_region, residual_or, residual_member, plants_among, members}
use Rattle.rules.specs.Refusals.{taken}
use Rattle.rules.specs.WholeBook.{book}
use Rattle.laws.proofs.LimitsLaws.{book_fits}
use Rattle.closing.specs.Parties.{some_helpful, some_unhelpful, no_default, Placed}
use Rattle.closing.proofs.PartiesLaws.{some_helpful_is, some_unhelpful_is}
use Rattle.closing.specs.Balance.{plant_or}

-- in a book that the format takes every plant is of one of the five regions
pub taken_placed : (bs : List ℕ) (b : Book) → book bs ≡ taken b → Placed b
taken_placed bs b e = all_so _ (λ p. p.region < regions) (λ p f. f.region) (plants b.roster) (plants_fit b.roster (book_fits bs b e).roster)

-- ---- standings
-- live: reliable, and nothing else amiss
live_is : (reliable fine : Bool) (why : Reason) → is_live (standing reliable fine why) ≡ true → (reliable ≡ true) × (fine ≡ true)
live_is true true why e = (refl, refl)
live_is true false why e = absurd (false≢true e)
live_is false fine why e = absurd (false≢true e)

is_fine : (reliable fine : Bool) (why : Reason) → reliable ≡ true → fine ≡ true → is_live (standing reliable fine why) ≡ true
is_fine reliable fine why e f = rw (e, f)

live_counts : (s : Standing) (x y : ℤ) → is_live s ≡ true → live_or s x y ≡ x
live_counts Live x y e = refl
live_counts (Default why) x y e = absurd (false≢true e)

when_negation : (t : Bool) (x : ℤ) → when t (neg_ℤ x) ≡ neg_ℤ (when t x)
when_negation true x = refl
when_negation false x = refl

when_same : (s : Bool) (x y : ℤ) → (s ≡ true → x ≡ y) → when s x ≡ when s y
when_same true x y e = e refl
when_same false x y e = refl

-- a region of the requirement that has to pass a test passes it
passes : (s t : Bool) → not s || t ≡ true → s ≡ true → t ≡ true
passes true t e c = e
passes false t e c = absurd (false≢true c)

-- ---- a region
module _ (b : Book) (r : ℕ) where
  -- what counts of a plant: nothing unless it is a good one of the region
  abbrev counted : (Plant → ℤ) → Plant → ℤ
  counted f p = when (eqb r p.region) (when p.good (f p))

  -- a total over its good plants is one over all
  over_good_plants : (f : Plant → ℤ) → total f (good_plants (plants_of b r)) ≡ total (counted f) (plants b.roster)
  over_good_plants f =
      total_those (λ p. p.good) f (plants_of b r) ∙ total_those (λ p. eqb r p.region) (λ p. when p.good (f p)) (plants b.roster)

  same_over_good_plants : (f g : Plant → ℤ) → ((p : Plant) → counted f p ≡ counted g p) →
      total f (good_plants (plants_of b r)) ≡ total g (good_plants (plants_of b r))
  same_over_good_plants f g e = over_good_plants f ∙ total_same _ _ e (plants b.roster) ∙ sym (over_good_plants g)

  -- in a roster without groups its good plants are its good units, each by itself
  pub over_good_units : All (λ u. u.group ≡ 0) b.roster → (f : Plant → ℤ) →
      total f (good_plants (plants_of b r)) ≡ total (λ u. f (alone u)) (those good (those (λ u. eqb r u.region) b.roster))
  over_good_units a f =
      over_good_plants f
      ∙ ap (total (counted f)) (ungrouped b.roster a)
      ∙ total_map (counted f) alone b.roster
      ∙ sym (total_those (λ u. eqb r u.region) (λ u. when (good u) (f (alone u))) b.roster)
      ∙ sym (total_those good (λ u. f (alone u)) (those (λ u. eqb r u.region) b.roster))

  module _ (d : Direction) where
    -- its plants' performances go by its own measures
    residual_is_minus : residual_performance b d r ≡ neg_ℤ (total (plant_performance b d) (good_plants (plants_of b r)))
    unfolding residual_performance plant_performance
    residual_is_minus = residual_is d (weight_in b r) (plants_of b r) ∙ ap neg_ℤ (same_over_good_plants _ _ own)
      where
        own : (p : Plant) → counted (λ p. performance d (weight_in b r) p.deviation) p ≡ counted (plant_performance b d) p
        own p = sym (when_there (λ s. when p.good (performance d (weight_in b s) p.deviation)) r p.region)

    -- over the interval good plants and residual add up to zero
    pub interval_closes : total (plant_performance b d) (good_plants (plants_of b r)) +ℤ residual_performance b d r ≡ pos 0
    interval_closes = rw residual_is_minus (+ℤ_invr (total (plant_performance b d) (good_plants (plants_of b r))))

    -- where the residual is live no default stands in for them
    pub live_closes : (field : Defaults → ℤ) → is_live (residual_standing b d r) ≡ true
        → total (plant_or b d field) (good_plants (plants_of b r)) +ℤ residual_or b d field r ≡ pos 0
    live_closes field l =
        ap₂ ◌+ℤ◌ (same_over_good_plants _ _ each) (live_counts (residual_standing b d r) _ _ l) ∙ interval_closes
      where
        counts : (own good reliable : Bool) (x y : ℤ) → (own ≡ true → reliable ≡ true)
            → when own (when good (live_or (standing reliable good BadUnit) x y)) ≡ when own (when good x)
        counts true true true x y e = refl
        counts true true false x y e = absurd (false≢true (e refl))
        counts true false reliable x y e = refl
        counts false good reliable x y e = refl

        each : (p : Plant) → counted (plant_or b d field) p ≡ counted (plant_performance b d) p
        each p =
            counts (eqb r p.region) p.good (reliable_in b d p.region) _ _
            (λ e. ap (reliable_in b d) (sym (eqb-true r p.region e)) ∙ (live_is (reliable_in b d r) (some_good_or_none b r) NoGoodUnit l).0)

-- ---- a requirement
module _ (b : Book) (q : Requirement) where
  abbrev d : Direction
  d = q.direction

  -- its plants' performances: those of the good ones
  of_good : Plant → ℤ
  of_good p = when p.good (plant_performance b d p)

  plants_part : ℤ
  plants_part = total of_good (plants_among b q)

  -- its regions' residuals together are minus that
  residuals_are_minus : Placed b → over_regions q (residual_performance b d) ≡ neg_ℤ plants_part
  unfolding of_good plants_part
  residuals_are_minus h =
      sum_ext regions _ _ (λ r _. ap (when (covers q r)) (residual r) ∙ when_negation (covers q r) _)
      ∙ sum_negation regions (λ r. when (covers q r) (total of_good (plants_of b r)))
      ∙ ap neg_ℤ (total_classes regions (covers q) (λ p. p.region) of_good (plants b.roster) h)
    where
      residual : (r : ℕ) → residual_performance b d r ≡ neg_ℤ (total of_good (plants_of b r))
      residual r = residual_is_minus b r d ∙ ap neg_ℤ (total_those (λ p. p.good) (plant_performance b d) (plants_of b r))

  live_plants : all (λ p. is_live (plant_standing b d p)) (plants_among b q) ≡ true → total (λ p. (plant_member b d p).payment) (plants_among b q) ≡ plants_part
  unfolding of_good plants_part plant_member
  live_plants l = total_ext (λ p. is_live (plant_standing b d p)) _ _ each (plants_among b q) l
    where
      each : (p : Plant) → is_live (plant_standing b d p) ≡ true → plant_or b d (λ f. f.payment) p ≡ of_good p
      each p e =
          live_counts (plant_standing b d p) _ _ e
          ∙ sym (ap (λ (t : Bool). when t (plant_performance b d p)) (live_is (reliable_in b d p.region) p.good _ e).1)

  live_residual : is_live (residual_member b q).standing ≡ true → (residual_member b q).payment ≡ over_regions q (residual_performance b d)
  unfolding residual_member
  live_residual l = sum_ext regions _ _ (λ r h. when_same (covers q r) _ _ (λ c. live_counts (residual_standing b d r) _ _ (live r h c)))
    where
      live : (r : ℕ) → r < regions → covers q r ≡ true → is_live (residual_standing b d r) ≡ true
      live r h c =
          let k = live_is (each_region q (reliable_in b d)) (each_region q (some_good_or_none b)) _ l in
          is_fine _ _ _ (passes (covers q r) _ (every_at regions _ k.0 r h) c) (passes (covers q r) _ (every_at regions _ k.1 r h) c)

  module _ (h : Placed b) (l : no_default b q ≡ true) where
    -- the payment performances sum to zero
    balance : total (λ m. m.payment) (members b q) ≡ pos 0
    unfolding members plant_member all
    balance =
        let ps : List Plant = plants_among b q in
        let e = both _ _ (sym (all_++ (λ m. is_live m.standing) (map (plant_member b d) ps) (residual_member b q ∷ [])) ∙ l) in
        let whole = total_map (λ m. m.payment) (plant_member b d) ps ∙ live_plants (sym (all_map (λ m. is_live m.standing) (plant_member b d) ps) ∙ e.0) in
        let residual = live_residual (both _ true e.1).0 ∙ residuals_are_minus h in
        total_more (λ m. m.payment) (map (plant_member b d) ps) (residual_member b q) ∙ ap₂ ◌+ℤ◌ whole residual ∙ +ℤ_invr plants_part

    -- those above zero weigh what those below do
    same_weight : totalℕ (λ m. gain m.payment) (members b q) ≡ totalℕ (λ m. loss m.payment) (members b q)
    same_weight = omega (arith, rw balance at (total_parts (λ m. m.payment) (members b q)))

    pub both_or_neither : some_helpful b q ≡ some_unhelpful b q
    both_or_neither = some_helpful_is b q ∙ ap (leb 1) same_weight ∙ sym (some_unhelpful_is b q)
