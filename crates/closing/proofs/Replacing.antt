-- A book with another roster, among whose plants two units have come for one whose parts they are. Sums over good plants do not see it, so the residuals stay;
-- what a plant has by itself goes by settings and regions alone, so every other member stays.
use mathlib.Core.Path.{◌≡◌, refl, sym, ◌∙◌, ap, ap₂}
use mathlib.Core.Bool.{Bool, true, false, ◌||◌}
use mathlib.Core.List.{List, map}
use Prim.Native.Nat.{ℕ, ◌<◌}
use lib.Dec.{eqb, leb}
use lib.IntN.{ℤ, neg_ℤ, ◌+ℤ◌}
use lib.ListN.{length}
use Rattle.rules.specs.declared.Direction.{Direction}
use Rattle.rules.specs.declared.Reason.TheVariants.{BadUnit}
use Rattle.rules.specs.declared.Standing.{Standing}
use Rattle.rules.specs.declared.Standing.TheVariants.{Live, Default}
use Rattle.rules.specs.Quantities.{points}
use Rattle.rules.specs.Book.{by, Defaults, Unit, Requirement, covers, Book}
use Rattle.rules.specs.Reliability.{reliable_in}
use Rattle.rules.specs.Plants.{Plant, alone, plants, plants_in, good_plants, residual_deviation}
use Rattle.rules.specs.Performance.{weight_in, plants_of, plant_performance, residual_performance}
use Rattle.laws.proofs.PerformanceLaws.{performance_ext}
use Rattle.rules.specs.Standings.{standing, plant_standing, some_good_or_none, residual_standing, live_or}
use Rattle.rules.specs.Members.{plant_member, residual_member, plants_among, members}
use Rattle.rules.specs.Rcr.{weighed_measure, all_reliable, rcr}
use Rattle.rules.specs.Answer.{answered, answer}
use Rattle.closing.specs.Balance.{plant_or}
use Rattle.closing.specs.Parts.{Alike, Parts}
use Rattle.closing.proofs.PartsLaws.{deviation_adds_up, performance_adds_up}
use Rattle.closing.specs.TwoForOne.{TwoForOne}
use Rattle.closing.proofs.TwoForOneLaws.{total_stays, those_for_one, those_stay, some_old, some_new, images_for_one}
use Rattle.closing.specs.Drawn.{with_roster, MembersAddUp, MembersRedrawn}

-- ---- what goes by settings and regions alone: the roster `us` may be any
module _ (b : Book) (us : List Unit) where
  pub plant_performance_stays : (d : Direction) (w : Plant) → plant_performance (with_roster b us) d w ≡ plant_performance b d w
  unfolding plant_performance
  plant_performance_stays d w = refl

  pub plant_standing_stays : (d : Direction) (w : Plant) → plant_standing (with_roster b us) d w ≡ plant_standing b d w
  unfolding reliable_in
  plant_standing_stays d w = refl

  pub used_pool_stays : (q : Requirement) → (answer (with_roster b us) q).used_pool ≡ (answer b q).used_pool
  unfolding answer answered all_reliable reliable_in
  used_pool_stays q = refl

  pub unused_pool_stays : (q : Requirement) → (answer (with_roster b us) q).unused_pool ≡ (answer b q).unused_pool
  unfolding answer answered all_reliable reliable_in
  unused_pool_stays q = refl

live_or_adds_up : (s : Standing) (a c e f g h : ℤ) → a +ℤ c ≡ e → f +ℤ g ≡ h → live_or s a f +ℤ live_or s c g ≡ live_or s e h
live_or_adds_up Live a c e f g h p q = p
live_or_adds_up (Default why) a c e f g h p q = q

module _ {u x y : Unit} (h : Parts u x y) (b : Book) where
  -- ---- the two beside the one, in any roster
  module _ (us : List Unit) where
    pub performances_add_up : (d : Direction) →
        plant_performance (with_roster b us) d (alone x) +ℤ plant_performance (with_roster b us) d (alone y) ≡ plant_performance b d (alone u)
    performances_add_up d = performance_adds_up h (with_roster b us) d ∙ plant_performance_stays b us d (alone u)

    pub members_add_up : (d : Direction) →
        MembersAddUp (plant_member b d (alone u)) (plant_member (with_roster b us) d (alone x)) (plant_member (with_roster b us) d (alone y))
    unfolding plant_member plant_performance reliable_in
    members_add_up d =
        record {
          first = stands x h.first;
          second = stands y h.second;
          payment = adds (λ f. f.payment) (h.defaults d).payment;
          used = adds (λ f. f.used) (h.defaults d).used;
          unused = (h.defaults d).unused;
        }
      where
        stands : (w : Unit) → Alike u w → plant_standing b d (alone w) ≡ plant_standing b d (alone u)
        stands w k = ap₂ (λ (r : ℕ) (g : Bool). standing (reliable_in b d r) g BadUnit) k.region (k.good ∙ sym h.good)

        default : (Defaults → ℤ) → Unit → ℤ
        default field w = field (by d w.defaults)

        adds : (field : Defaults → ℤ) → default field x +ℤ default field y ≡ default field u →
            plant_or b d field (alone x) +ℤ plant_or b d field (alone y) ≡ plant_or b d field (alone u)
        adds field e = rw (stands x h.first, stands y h.second) (live_or_adds_up (plant_standing b d (alone u)) _ _ _ _ _ _ (performance_adds_up h b d) e)

  -- ---- the roster `us`, among whose plants there are two for one
  module _ (us : List Unit) (k : TwoForOne (alone u) (alone x) (alone y) (plants b.roster) (plants us)) where
    abbrev after : Book
    after = with_roster b us

    -- among the plants of some regions there are two for one, or they stay
    plants_for_one : (set : ℕ → Bool) → set u.region ≡ true →
        TwoForOne (alone u) (alone x) (alone y) (plants_in set (plants b.roster)) (plants_in set (plants us))
    plants_for_one set e = those_for_one k (λ w. set w.region) e (ap set h.first.region ∙ e) (ap set h.second.region ∙ e)

    plants_stay : (set : ℕ → Bool) → set u.region ≡ false → plants_in set (plants us) ≡ plants_in set (plants b.roster)
    plants_stay set e = those_stay k (λ w. set w.region) e (ap set h.first.region ∙ e) (ap set h.second.region ∙ e)

    -- what good plants tell of a region stays, if it stays with two for one among the good plants
    region_stays : {A : Type 0} (f : List Plant → A)
        → ((vs ws : List Plant) → TwoForOne (alone u) (alone x) (alone y) (good_plants vs) (good_plants ws) → f ws ≡ f vs)
        → (r : ℕ) → f (plants_of after r) ≡ f (plants_of b r)
    region_stays f stays r = go (eqb r u.region) refl
      where
        go : (t : Bool) → eqb r u.region ≡ t → f (plants_of after r) ≡ f (plants_of b r)
        go true e = stays _ _ (those_for_one (plants_for_one (eqb r) e) (λ w. w.good) h.good h.first.good h.second.good)
        go false e = ap f (plants_stay (eqb r) e)

    pub residual_deviation_stays : (r t : ℕ) → t < points → residual_deviation (plants_of after r) t ≡ residual_deviation (plants_of b r) t
    residual_deviation_stays r t l =
        region_stays (λ vs. residual_deviation vs t) (λ vs ws m. ap neg_ℤ (total_stays m (λ w. w.deviation t) (deviation_adds_up h t l))) r

    pub residual_performance_stays : (d : Direction) (r : ℕ) → residual_performance after d r ≡ residual_performance b d r
    unfolding residual_performance
    residual_performance_stays d r = performance_ext d (weight_in b r) _ _ (residual_deviation_stays r)

    some_good_stays : (r : ℕ) → some_good_or_none after r ≡ some_good_or_none b r
    unfolding some_good_or_none
    some_good_stays r = region_stays (λ vs. leb 1 (length (good_plants vs)) || eqb (length vs) 0) (λ vs ws m. rw (some_new m, some_old m)) r

    pub residual_standing_stays : (d : Direction) (r : ℕ) → residual_standing after d r ≡ residual_standing b d r
    unfolding reliable_in
    residual_standing_stays d r = rw (some_good_stays r)

    residual_member_stays : (q : Requirement) → residual_member after q ≡ residual_member b q
    unfolding residual_member reliable_in
    residual_member_stays q = simp (some_good_stays, residual_performance_stays)

    pub members_redrawn : (q : Requirement) → covers q u.region ≡ true → MembersRedrawn b after q u x y
    unfolding members plant_member plant_performance reliable_in
    members_redrawn q c =
        record {
          before = map (plant_member b q.direction) (plants_among b q);
          after = map (plant_member b q.direction) (plants_among after q);
          old = refl;
          new = rw (residual_member_stays q);
          plants = images_for_one (plants_for_one (covers q) c) (plant_member b q.direction);
        }

    pub members_stay : (q : Requirement) → covers q u.region ≡ false → members after q ≡ members b q
    unfolding members plant_member plant_performance reliable_in
    members_stay q c = rw (residual_member_stays q, plants_stay (covers q) c)

    pub answer_stays : (q : Requirement) → covers q u.region ≡ false → answer after q ≡ answer b q
    unfolding answer rcr all_reliable reliable_in weighed_measure
    answer_stays q c = rw (members_stay q c, plants_stay (covers q) c)
