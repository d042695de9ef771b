-- Laws of the definitions in specs/Residual.antt.
use mathlib.Core.Path.{◌≡◌, refl, sym, ◌∙◌, ap, ap₂}
use mathlib.Core.Bool.{Bool, true, false, cond, not, ◌&&◌, ◌||◌}
use mathlib.Core.List.{[]}
use Prim.Native.Nat.{ℕ, zero, suc, ◌+◌, ◌*◌, ◌%◌, ◌≤◌, ◌<◌}
use native.Mathlib.Nat.{mul-le-mul_right}
use native.Mathlib.Omega.{arith}
use lib.Dec.{eqb}
use borrow.Author.Tests.{eqb-true}
use lib.IntN.{ℤ, pos, neg_ℤ, nat_abs, ◌+ℤ◌, ◌-ℤ◌, +ℤ_idl, +ℤ_idr}
use lib.ListN.{get_or}
use mir.Syntax.{w64}
use mir.Val.{SFits, to_z, of_z}
use mir.Facts.{to_z-of_z}
use Rattle.integers.specs.Bounds.{Within}
use Rattle.integers.proofs.Bounds.{abs_neg, within_negation, fits_within, fits_wider}
use Rattle.integers.specs.Sums.{sum, sumℕ, one, when, every}
use Rattle.integers.proofs.Sums.{
  every_more,
  sum_none,
  sum_step,
  sum_size,
  sumℕ_none,
  sumℕ_step,
  sumℕ_plus,
  sumℕ_times,
  sumℕ_prefix,
  sumℕ_≤,
  count_one,
  count_≤,
}
use Rattle.rules.specs.Quantities.{regions, most_units, performance_limit, residual_default_limit}
use Rattle.rules.specs.declared.Direction.{Direction}
use Rattle.rules.specs.declared.Direction.TheVariants.{Raise, Lower}
use Rattle.rules.specs.declared.Reason.TheVariants.{NoGoodUnit}
use Rattle.rules.specs.declared.Standing.{Standing}
use Rattle.rules.specs.declared.Standing.TheVariants.{Live, Default}
use Rattle.rules.specs.Standings.{standing, live_or}
use Rattle.rules.specs.Bytes.{bit}
use Rattle.interval.specs.Lent.{Lent, passed_over, in_row}
use Rattle.kept.specs.Kept.{reliable_of, region_of, good_of, residual_default, some_good_or_none_of, residual_of}
use Rattle.kept.specs.Range.{units_at}
use Rattle.answer.specs.Asked.{tally_of, lent_members}
use Rattle.answer.specs.declared.Field.{Field}
use Rattle.answer.specs.declared.Field.TheVariants.{Payment, Used, Unused}
use Rattle.answer.specs.declared.Member.{Member}
use Rattle.answer.specs.declared.residual.Held.{Held}
use Rattle.answer.specs.Made.{performance_at, picked}
use Rattle.answer.specs.Residual.{RowsWithin, performances_there, Holds, region_made, worse_of, PerformancesWithin, RegionsWithin, residual_to}
use Rattle.answer.proofs.UnitsHeld.{units_held, held_≤, units_≤}

-- ---- a region's rows
-- what row i adds to its region's performances
abbrev pub adds : ℕ → ℕ → Lent → ℕ → ℤ
adds at r l i = when (eqb r (region_of l i)) (when (good_of l i) (in_row l.rows i at))

-- how many units the first rows of a region stand for
abbrev pub units_there : ℕ → Lent → ℕ → ℕ
units_there r l n = sumℕ n (λ i. one (eqb r (region_of l i)) * units_held l.homes i)

one_times : (t : Bool) (u : ℕ) → one t * u ≤ u
one_times true u = omega arith
one_times false u = omega arith

pub there_≤ : (r : ℕ) (l : Lent) (n : ℕ) → units_there r l n ≤ n
there_≤ r l n =
    omega (
      arith,
      sumℕ_≤ n (λ i. one (eqb r (region_of l i)) * units_held l.homes i) (units_held l.homes)
          (λ i _. one_times (eqb r (region_of l i)) (units_held l.homes i)),
      held_≤ l.homes n,
    )

-- a row that is passed over is not good, so it adds nothing
when_size :
    (s : Bool) (home u : ℕ) (z : ℤ) → Within (performance_limit * u) z →
    nat_abs (when s (when (eqb (home % 2) 1) z)) ≤ one s * cond (eqb home passed_over) 0 u * performance_limit
when_size false home u z h = omega arith
when_size true home u z h = go (eqb home passed_over) refl
  where
    good : (t : Bool) → nat_abs (when t z) ≤ 1 * u * performance_limit
    good true = omega (arith, h.size)
    good false = omega arith

    go : (t : Bool) → eqb home passed_over ≡ t → nat_abs (when (eqb (home % 2) 1) z) ≤ 1 * cond t 0 u * performance_limit
    go true e = rw (eqb-true home passed_over e) (omega arith)
    go false e = good (eqb (home % 2) 1)

module _ {at units : ℕ} {l : Lent} (h : RowsWithin at units l) (r : ℕ) where
  -- at most a unit's limit for each unit of the region
  pub held_size : (n : ℕ) → n ≤ units → nat_abs (sum n (adds at r l)) ≤ units_there r l n * performance_limit
  held_size n b =
      rw (sumℕ_times n performance_limit (λ i. one (eqb r (region_of l i)) * units_held l.homes i)) at
      (sum_size n (adds at r l) (λ i. one (eqb r (region_of l i)) * units_held l.homes i * performance_limit)
      (λ i k. when_size (eqb r (region_of l i)) (get_or l.homes i 0) (units_at l.homes i) (in_row l.rows i at) (h.within i (omega arith))))

  pub held_within : (n : ℕ) → n ≤ units → Within 2_880_000_000_000_000_000 (sum n (adds at r l))
  held_within n b = record { size = omega (arith, held_size n b, there_≤ r l n, h.few) }

-- fewer rows, too
pub fewer_within : {at n units : ℕ} {l : Lent} → n ≤ units → RowsWithin at units l → RowsWithin at n l
fewer_within b h =
    record {
      place = h.place;
      few = omega (arith, h.few);
      homes = omega (arith, h.homes);
      rows = omega (arith, h.rows);
      within = λ i k. h.within i (omega arith);
    }

-- no row yet, and one row more: a unit of the region (a), good (b)
pub holds_none : (at r : ℕ) (l : Lent) → Holds at r 0 l (record { units = 0; good = 0; sum = pos 0 })
holds_none at r l = record { rows = sym (sumℕ_none _); good = sym (sumℕ_none _); performed = sym (sum_none _) }

module _ {at r n : ℕ} {l : Lent} {h : Held} (k : Holds at r n l h) where
  pub holds_more :
      (a b : Bool) → eqb r (region_of l n) ≡ a → good_of l n ≡ b → {m : Held} → m.units ≡ h.units + one a → m.good ≡ h.good + one (a && b) →
      m.sum ≡ h.sum +ℤ when a (when b (in_row l.rows n at)) → Holds at r (n + 1) l m
  holds_more a b ea eb eu eg es =
      record {
        rows = eu ∙ ap₂ ◌+◌ k.rows (ap one (sym ea)) ∙ sym (sumℕ_step n (λ i. one (eqb r (region_of l i))));
        good =
            eg ∙ ap₂ ◌+◌ k.good (ap₂ (λ (s t : Bool). one (s && t)) (sym ea) (sym eb))
            ∙ sym (sumℕ_step n (λ i. one (eqb r (region_of l i) && good_of l i)));
        performed =
            es ∙ ap₂ ◌+ℤ◌ k.performed (ap₂ (λ (s t : Bool). when s (when t (in_row l.rows n at))) (sym ea) (sym eb)) ∙ sym (sum_step n (adds at r l));
      }

  pub few_held : n ≤ most_units → (h.units ≤ 512) × (h.good ≤ 512)
  few_held b = (
    omega (arith, k.rows, count_≤ n (λ i. eqb r (region_of l i))),
    omega (arith, k.good, count_≤ n (λ i. eqb r (region_of l i) && good_of l i)),
  )

-- the direction's performances, of homes and rows alone
pub rows_toward :
    (d : Direction) {at units : ℕ} {l : Lent} → at ≡ performance_at d → PerformancesWithin units l → RowsWithin at units (lent_members [] l.homes l.rows)
rows_toward d {at} {units} {l} e h = rw e (alone (by_direction d))
  where
    by_direction : (d : Direction) → RowsWithin (performance_at d) units l
    by_direction Raise = h.raise
    by_direction Lower = h.lower

    alone : {at : ℕ} → RowsWithin at units l → RowsWithin at units (lent_members [] l.homes l.rows)
    alone k = record { place = k.place; few = k.few; homes = k.homes; rows = k.rows; within = k.within }

pub residual_is : (d : Direction) (r units : ℕ) (l : Lent) → neg_ℤ (performances_there (performance_at d) r units l) ≡ residual_of (tally_of units 0 0) l d r
residual_is Raise r units l = refl
residual_is Lower r units l = refl

-- ---- sums and negatives as the machine has them, each read back from its bits
pub record Fitting (x y : ℤ) : Type 0 where
  pub first : SFits w64 x
  pub second : SFits w64 y
  pub together : SFits w64 (x +ℤ y)

pub added_fits : {x y : ℤ} → Fitting x y → SFits w64 (to_z w64 (of_z w64 x) +ℤ to_z w64 (of_z w64 y))
added_fits f = rw (to_z-of_z f.first, to_z-of_z f.second) f.together

pub added_back : {x y : ℤ} → Fitting x y → to_z w64 (of_z w64 (to_z w64 (of_z w64 x) +ℤ to_z w64 (of_z w64 y))) ≡ x +ℤ y
added_back f = rw (to_z-of_z f.first, to_z-of_z f.second) (to_z-of_z f.together)

-- a good unit's performance joins the sum of those before it
pub row_joins :
    {at r n : ℕ} {l : Lent} {m : Held} → RowsWithin at (n + 1) l → Holds at r n l m → eqb r (region_of l n) ≡ true → good_of l n ≡ true →
    Fitting m.sum (in_row l.rows n at)
row_joins {at} {r} {n} {l} {m} h k ea eb =
    let more : m.sum +ℤ in_row l.rows n at ≡ sum (n + 1) (adds at r l) = ap₂ ◌+ℤ◌ k.performed (sym (rw (ea, eb))) ∙ sym (sum_step n (adds at r l)) in
    record {
      first = rw k.performed (fits_within tt (held_within h r n (omega arith)));
      second = fits_wider {k = 2_880_000_000_000_000_000} tt (omega (arith, units_≤ l.homes n, h.few)) (h.within n (omega arith));
      together = rw more (fits_within tt (held_within h r (n + 1) (omega arith)));
    }

module _ {x : ℤ} (h : Within 2_880_000_000_000_000_000 x) where
  negative_fits : SFits w64 (neg_ℤ x)
  negative_fits = fits_within tt (within_negation h)

  pub turned_fits : SFits w64 (pos 0 -ℤ to_z w64 (of_z w64 x))
  turned_fits = rw (to_z-of_z (fits_within {w = w64} tt h), +ℤ_idl) negative_fits

  pub turned_back : to_z w64 (of_z w64 (pos 0 -ℤ to_z w64 (of_z w64 x))) ≡ neg_ℤ x
  turned_back = rw (to_z-of_z (fits_within {w = w64} tt h), +ℤ_idl) (to_z-of_z negative_fits)

-- ---- a row is in one region
each_once : (n : ℕ) (l : Lent) → sumℕ regions (λ r. units_there r l n) ≤ sumℕ n (units_held l.homes)
unfolding sumℕ
each_once zero l = omega arith
each_once (suc n) l =
    let u = units_held l.homes n in
    omega (
      arith,
      sumℕ_plus regions (λ r. units_there r l n) (λ r. one (eqb r (region_of l n)) * u),
      sumℕ_times regions u (λ r. one (eqb r (region_of l n))),
      mul-le-mul_right u (count_one regions (region_of l n)),
      each_once n l,
    )

in_one_region : (units : ℕ) (l : Lent) → sumℕ regions (λ r. units_there r l units) ≤ units
in_one_region units l = omega (arith, each_once units l, held_≤ l.homes units)

-- ---- the residual of some regions
pub same_member :
    {s s' : Standing} {p p' u u' v v' : ℤ} → s ≡ s' → p ≡ p' → u ≡ u' → v ≡ v' →
    ◌≡◌ {A = Member} (record { standing = s; payment = p; used = u; unused = v }) (record { standing = s'; payment = p'; used = u'; unused = v' })
same_member {s} {s'} {p} {p'} {u} {u'} {v} {v'} hs hp hu hv =
    ap₂ (λ (a : Standing) (b : ℤ). record { standing = a; payment = b; used = u; unused = v }) hs hp
    ∙ ap₂ (λ (a b : ℤ). record { standing = s'; payment = p'; used = a; unused = b }) hu hv

abbrev pub joined : Member → Member → Member
joined m n =
    record { standing = worse_of m.standing n.standing; payment = m.payment +ℤ n.payment; used = m.used +ℤ n.used; unused = m.unused +ℤ n.unused }

standing_joined : (a b c d : Bool) → standing (a && b) (c && d) NoGoodUnit ≡ worse_of (standing a c NoGoodUnit) (standing b d NoGoodUnit)
standing_joined true true true true = refl
standing_joined true true true false = refl
standing_joined true true false true = refl
standing_joined true true false false = refl
standing_joined true false true d = refl
standing_joined true false false d = refl
standing_joined false b c d = refl

either_size : (s : Standing) (x y : ℤ) (k : ℕ) → nat_abs x ≤ k → Within residual_default_limit y → nat_abs (live_or s x y) ≤ k + residual_default_limit
either_size Live x y k hx hy = omega arith
either_size (Default why) x y k hx hy = omega (arith, hy.size)

when_≤ : (t : Bool) (x : ℤ) (k : ℕ) → nat_abs x ≤ k → nat_abs (when t x) ≤ k
when_≤ true x k h = h
when_≤ false x k h = omega arith

module _ (units : ℕ) (l : Lent) (d : Direction) (set : ℕ) where
  abbrev region : ℕ → Member
  region r = region_made units l d r

  abbrev residual : ℕ → Member
  residual n = residual_to units l d set n

  abbrev in_region : ℕ → ℕ
  in_region r = units_there r l units

  -- no region of the set fails the test
  abbrev sound : ℕ → Bool
  sound r = not (bit r set) || reliable_of l d r

  abbrev fine : ℕ → Bool
  fine r = not (bit r set) || some_good_or_none_of (tally_of units 0 0) l r

  standing_more : (n : ℕ) → (residual (n + 1)).standing ≡ standing (every n sound && sound n) (every n fine && fine n) NoGoodUnit
  standing_more n = ap₂ (λ (a b : Bool). standing a b NoGoodUnit) (every_more n sound) (every_more n fine)

  -- of no region
  pub none_yet : record { standing = Live; payment = pos 0; used = pos 0; unused = pos 0 } ≡ residual 0
  unfolding every sum
  none_yet = refl

  -- with one region more
  pub residual_more : (n : ℕ) → bit n set ≡ true → residual (n + 1) ≡ joined (residual n) (region n)
  residual_more n e =
      same_member
      (standing_more n ∙ rw e (standing_joined (every n sound) (reliable_of l d n) (every n fine) (some_good_or_none_of (tally_of units 0 0) l n)))
      (sum_step n (λ r. when (bit r set) (region r).payment) ∙ rw e)
      (sum_step n (λ r. when (bit r set) (region r).used) ∙ rw e)
      (sum_step n (λ r. when (bit r set) (region r).unused) ∙ rw e)

  -- and with one that is not of the set
  pub residual_stays : (n : ℕ) → bit n set ≡ false → residual (n + 1) ≡ residual n
  residual_stays n e =
      same_member
      (standing_more n ∙ rw e (ap₂ (λ (a b : Bool). standing a b NoGoodUnit) (and_true (every n sound)) (and_true (every n fine))))
      (sum_step n (λ r. when (bit r set) (region r).payment) ∙ rw e (+ℤ_idr _))
      (sum_step n (λ r. when (bit r set) (region r).used) ∙ rw e (+ℤ_idr _))
      (sum_step n (λ r. when (bit r set) (region r).unused) ∙ rw e (+ℤ_idr _))
    where
      and_true : (t : Bool) → t && true ≡ t
      and_true true = refl
      and_true false = refl

  module _ (h : RegionsWithin units l) where
    default_within : (d : Direction) (r f : ℕ) → r < regions → f < 3 → Within residual_default_limit (residual_default l d f r)
    default_within Raise r f b k = h.defaults r f b (omega arith)
    default_within Lower r f b k = let e : 7 + f ≡ 4 + (3 + f) = omega arith in rw e (h.defaults r (3 + f) b (omega arith))

    turned_size : (d : Direction) (r : ℕ) → nat_abs (residual_of (tally_of units 0 0) l d r) ≤ in_region r * performance_limit
    turned_size Raise r = rw abs_neg (held_size h.performances.raise r units (omega arith))
    turned_size Lower r = rw abs_neg (held_size h.performances.lower r units (omega arith))

    -- each number of a region is within a unit's limit for each of its units and a residual's default limit
    abbrev pub Sized : (Member → ℤ) → Type 0
    Sized pick = (r : ℕ) → r < regions → nat_abs (pick (region r)) ≤ in_region r * performance_limit + residual_default_limit

    payment_sized : Sized (λ m. m.payment)
    payment_sized r b = either_size (region r).standing _ _ _ (turned_size d r) (default_within d r 0 b (omega arith))

    used_sized : Sized (λ m. m.used)
    used_sized r b = either_size (region r).standing _ _ _ (turned_size d r) (default_within d r 1 b (omega arith))

    unused_sized : Sized (λ m. m.unused)
    unused_sized r b = omega (arith, (default_within d r 2 b (omega arith)).size)

    -- and all regions together
    regions_within :
        (pick : Member → ℤ) → Sized pick → (n : ℕ) → n ≤ regions → Within 3_130_000_000_000_000_000 (sum n (λ r. when (bit r set) (pick (region r))))
    unfolding sumℕ
    regions_within pick s n b =
        record {
          size =
              omega (
                arith,
                sum_size n (λ r. when (bit r set) (pick (region r))) (λ r. in_region r * performance_limit + residual_default_limit)
                    (λ r k. when_≤ (bit r set) (pick (region r)) _ (s r (omega arith))),
                sumℕ_prefix n regions (λ r. in_region r * performance_limit + residual_default_limit) b,
                sumℕ_plus regions (λ r. in_region r * performance_limit) (λ r. residual_default_limit),
                sumℕ_times regions performance_limit in_region,
                mul-le-mul_right performance_limit (in_one_region units l),
                h.performances.raise.few,
              );
        }

    adding :
        (pick : Member → ℤ) → Sized pick → (n : ℕ) → n < regions → bit n set ≡ true →
        Fitting (sum n (λ r. when (bit r set) (pick (region r)))) (pick (region n))
    adding pick s n b e =
        let more : sum (n + 1) (λ r. when (bit r set) (pick (region r))) ≡ sum n (λ r. when (bit r set) (pick (region r))) +ℤ pick (region n) = sum_step n
        (λ r. when (bit r set) (pick (region r))) ∙ rw e in
        let size : Within 3_130_000_000_000_000_000 (pick (region n)) =
        record { size = omega (arith, s n b, there_≤ n l units, h.performances.raise.few) } in
        record {
          first = fits_within tt (regions_within pick s n (omega arith));
          second = fits_within tt size;
          together = rw more at (fits_within {w = w64} tt (regions_within pick s (n + 1) (omega arith)));
        }

    pub record Joins (n : ℕ) (m next : Member) : Type 0 where
      pub payment : Fitting m.payment next.payment
      pub used : Fitting m.used next.used
      pub unused : Fitting m.unused next.unused
      pub is : joined m next ≡ residual (n + 1)

    -- a region of the set joins the residual of those before it
    pub joins : (n : ℕ) {m next : Member} → n < regions → bit n set ≡ true → m ≡ residual n → next ≡ region n → Joins n m next
    joins n b e em en =
        rw (em, en)
        (record {
          payment = adding (λ m. m.payment) payment_sized n b e;
          used = adding (λ m. m.used) used_sized n b e;
          unused = adding (λ m. m.unused) unused_sized n b e;
          is = sym (residual_more n e);
        })

    -- the whole residual
    pub residual_within : (f : Field) → Within 3_130_000_000_000_000_000 (picked f (residual regions))
    residual_within Payment = regions_within (λ m. m.payment) payment_sized regions (omega arith)
    residual_within Used = regions_within (λ m. m.used) used_sized regions (omega arith)
    residual_within Unused = regions_within (λ m. m.unused) unused_sized regions (omega arith)
