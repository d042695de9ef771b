-- THE VERDICT SAYS WHAT THE REQUEST ASKS: a sheet is accepted if and only if the request's sentence holds (specs/Possible.antt); a wrong member is named where
-- it is the first, and a side where all members are right and its sum is the first that is off.
use mathlib.Core.Path.{◌≡◌, refl, sym, ◌∙◌, ap, subst}
use mathlib.Core.Bool.{Bool, true, false, cond, ◌&&◌, ◌||◌}
use mathlib.Core.List.{List}
use Prim.Native.Nat.{ℕ, zero, suc, ◌≤◌, ◌<◌}
use native.Mathlib.Omega.{arith}
use lib.Dec.{leb, eqb}
use lib.IntN.{ℤ, pos, negsuc, nat_abs, ◌-ℤ◌}
use lib.ListN.{length}
use borrow.Author.Tests.{ltb-true, lt-ltb, leb-true, le-leb, eqb-true, eqb-false, eq-eqb, ne_eqb}
use Rattle.integers.proofs.Pairs.{v, ◌⊖◌, ring}
use Rattle.integers.proofs.Bounds.{abs_is}
use Rattle.integers.proofs.Tests.{leZ_true}
use Rattle.integers.specs.Sums.{sumℕ, every, first_wrong}
use Rattle.integers.proofs.Sums.{FirstWrong, every_at, every_all, first_wrong_means, some_term, sumℕ_term}
use Rattle.rules.specs.declared.Refusal.TheVariants.{TooShort, WrongCount}
use Rattle.rules.specs.declared.Side.{Side}
use Rattle.rules.specs.declared.Side.TheVariants.{Positive, Negative}
use Rattle.rules.specs.declared.Verdict.{Verdict}
use Rattle.rules.specs.declared.Verdict.TheVariants.{Possible, WrongMember, WrongSide}
use Rattle.rules.specs.Quantities.{billion, most_members, weight_limit}
use Rattle.rules.specs.Refusals.{Reply, taken, unless}
use Rattle.rules.specs.Sheet.{on, signed, near, agrees, right, number_at, right_at, side_total, side_sum, side_right, verdict, sheet_reply}
use Rattle.laws.proofs.SheetLaws.{right_near}
use Rattle.sheets.specs.Possible.{Agrees, SidePossible, PossibleSheet, Judgeable}
use Rattle.sheets.proofs.SidesLaws.{no_size, right_agrees, total_is}

-- ---- a sheet that is not refused
module _ (ps fs : List ℤ) where
  abbrev all_right : Bool
  all_right = every (length ps) (right_at billion ps fs)

  pub judged : Judgeable ps fs → sheet_reply ps fs ≡ taken (verdict ps fs)
  unfolding sheet_reply
  judged h =
      rw (
        le-leb (length fs) most_members h.few,
        eq-eqb (length ps) (length fs) h.long,
        le-leb (side_total Positive ps) weight_limit (h.fits Positive),
        le-leb (side_total Negative ps) weight_limit (h.fits Negative),
      )

  -- and only such a one has a verdict
  pub judgeable : {v : Verdict} → sheet_reply ps fs ≡ taken v → Judgeable ps fs
  unfolding sheet_reply
  judgeable {v} e =
      go (leb (length fs) most_members) refl (eqb (length ps) (length fs)) refl (leb (side_total Positive ps) weight_limit) refl
      (leb (side_total Negative ps) weight_limit) refl e
    where
      go : (a : Bool) → leb (length fs) most_members ≡ a → (b : Bool) → eqb (length ps) (length fs) ≡ b → (c : Bool) →
          leb (side_total Positive ps) weight_limit ≡ c → (d : Bool) → leb (side_total Negative ps) weight_limit ≡ d →
          unless a WrongCount (unless b TooShort (unless (c && d) WrongCount (taken (verdict ps fs)))) ≡ taken v → Judgeable ps fs
      go true ea true eb true ec true ed e =
          record {
            few = leb-true (length fs) most_members ea;
            long = eqb-true (length ps) (length fs) eb;
            fits = within;
          }
        where
          within : (s : Side) → side_total s ps ≤ weight_limit
          within Positive = leb-true (side_total Positive ps) weight_limit ec
          within Negative = leb-true (side_total Negative ps) weight_limit ed
      go true ea true eb true ec false ed e = let z : ◌≡◌ {A = ℕ} 0 1 = cc in absurd (omega arith)
      go true ea true eb false ec d ed e = let z : ◌≡◌ {A = ℕ} 0 1 = cc in absurd (omega arith)
      go true ea false eb c ec d ed e = let z : ◌≡◌ {A = ℕ} 0 1 = cc in absurd (omega arith)
      go false ea b eb c ec d ed e = let z : ◌≡◌ {A = ℕ} 0 1 = cc in absurd (omega arith)

-- ---- a member
pub agrees_means : (s : Side) (f : ℤ) → agrees s f ≡ true → Agrees s f
agrees_means Positive f e = leZ_true e
agrees_means Negative f e = leZ_true e

-- what is asked of a member makes it right
module _ (W : Side → ℕ) where
  pub right_where : (p f : ℤ) → ((s : Side) → 0 < on s p → near billion (W s) p f ≡ true) → (p ≡ pos 0 → f ≡ pos 0) → right billion W p f ≡ true
  right_where (pos zero) f h z = eq-eqb (nat_abs f) 0 (ap nat_abs (z refl))
  right_where (pos (suc p)) f h z = right_near Positive billion W (pos (suc p)) f (omega arith) ∙ h Positive (omega arith)
  right_where (negsuc p) f h z = right_near Negative billion W (negsuc p) f (omega arith) ∙ h Negative (omega arith)

  right_nothing : (p f : ℤ) → right billion W p f ≡ true → p ≡ pos 0 → f ≡ pos 0
  right_nothing p f e z = no_size f (eqb-true (nat_abs f) 0 (rw z at e))

-- ---- a side
side_sums : (s : Side) (x : ℤ) → eqb (nat_abs (x -ℤ signed s billion)) 0 ≡ true → x ≡ signed s billion
side_sums s x e = equal x (signed s billion) (eqb-true (nat_abs (x -ℤ signed s billion)) 0 e)
  where
    equal : (x y : ℤ) → nat_abs (x -ℤ y) ≡ 0 → x ≡ y
    equal x y e = ring (v x) (v y) (omega (arith, abs_is (x -ℤ y), (v x ⊖ v y).is))

module _ (s : Side) (ps fs : List ℤ) where
  abbrev W : ℕ
  W = side_total s ps

  -- a member shows that the total is not 0, and a total that is not 0 has a member
  pub some_total : (i : ℕ) → i < length ps → 0 < on s (number_at ps i) → 0 < W
  some_total i l h = omega (arith, total_is s ps, sumℕ_term (length ps) (λ i. on s (number_at ps i)) i l)

  side_means : side_right s ps fs ≡ true → (i : ℕ) → i < length ps → 0 < on s (number_at ps i) → side_sum s ps fs ≡ signed s billion
  side_means e i l h =
      side_sums s (side_sum s ps fs) (rw (ne_eqb W 0 (λ z. omega (arith, some_total i l h))) at e)

  side_where : ((i : ℕ) → i < length ps → 0 < on s (number_at ps i) → side_sum s ps fs ≡ signed s billion) → side_right s ps fs ≡ true
  side_where h = go (eqb W 0) refl
    where
      go : (t : Bool) → eqb W 0 ≡ t → (t || eqb (nat_abs (side_sum s ps fs -ℤ signed s billion)) 0) ≡ true
      go true e = refl
      go false e =
          let k = some_term (length ps) (λ i. on s (number_at ps i)) (above (eqb-false W 0 e)) in
          eq-eqb (nat_abs (side_sum s ps fs -ℤ signed s billion)) 0 (ap (λ (z : ℤ). nat_abs (z -ℤ signed s billion)) (h k.0 k.1 k.2)
          ∙ ap nat_abs (ring (v (signed s billion) ⊖ v (signed s billion)) (v (pos 0)) (omega arith)))
        where
          above : (W ≡ 0 → ⊥) → 0 < sumℕ (length ps) (λ i. on s (number_at ps i))
          above d = rw (← total_is s ps) (some W d)
            where
              some : (n : ℕ) → (n ≡ 0 → ⊥) → 0 < n
              some n h = omega arith

-- ---- the sheet
module _ (ps fs : List ℤ) where
  -- the verdict, as its tests go
  abbrev told : Bool → Bool → Bool → Verdict
  told members positive negative =
      cond members (cond positive (cond negative Possible (WrongSide Negative)) (WrongSide Positive))
      (WrongMember (first_wrong (right_at billion ps fs) (length ps)))

  -- what a verdict of Possible has shown
  tests : verdict ps fs ≡ Possible → (all_right ps fs ≡ true) × (side_right Positive ps fs ≡ true) × (side_right Negative ps fs ≡ true)
  unfolding verdict
  tests e = go (all_right ps fs) refl (side_right Positive ps fs) refl (side_right Negative ps fs) refl e
    where
      go : (a : Bool) → all_right ps fs ≡ a → (b : Bool) → side_right Positive ps fs ≡ b → (c : Bool) → side_right Negative ps fs ≡ c →
          told a b c ≡ Possible →
          (all_right ps fs ≡ true) × (side_right Positive ps fs ≡ true) × (side_right Negative ps fs ≡ true)
      go true ea true eb true ec e = (ea, eb, ec)
      go true ea true eb false ec e = let z : ◌≡◌ {A = ℕ} 0 1 = cc in absurd (omega arith)
      go true ea false eb c ec e = let z : ◌≡◌ {A = ℕ} 0 1 = cc in absurd (omega arith)
      go false ea b eb c ec e = let z : ◌≡◌ {A = ℕ} 0 1 = cc in absurd (omega arith)

  right_member : all_right ps fs ≡ true → (i : ℕ) → i < length ps → right_at billion ps fs i ≡ true
  right_member e i l = every_at (length ps) (right_at billion ps fs) e i l

  side_possible : (s : Side) → all_right ps fs ≡ true → side_right s ps fs ≡ true → SidePossible s ps fs
  side_possible s a b =
      record {
        near = λ i l h. ltb-true _ _ (sym (right_near s billion (λ s. side_total s ps) (number_at ps i) (number_at fs i) h) ∙ right_member a i l);
        sign = λ i l h. agrees_means s (number_at fs i)
            (right_agrees billion (λ s. side_total s ps) s (number_at ps i) (number_at fs i) (right_member a i l) h);
        summed = side_means s ps fs b;
      }

  -- ACCEPTED IF AND ONLY IF THE REQUEST'S SENTENCE HOLDS
  pub accepted_means : sheet_reply ps fs ≡ taken Possible → PossibleSheet ps fs
  accepted_means e =
      let h = judgeable ps fs e in
      let is : verdict ps fs ≡ Possible = same (sym (judged ps fs h) ∙ e) in
      let t = tests is in
      record {
        positive = side_possible Positive t.0 t.1;
        negative = side_possible Negative t.0 t.2;
        nothing = λ i l z. right_nothing (λ s. side_total s ps) (number_at ps i) (number_at fs i) (right_member t.0 i l) z;
      }
    where
      same : {v w : Verdict} → ◌≡◌ {A = Reply Verdict} (taken v) (taken w) → v ≡ w
      same e = cc

  pub accepted_where : Judgeable ps fs → PossibleSheet ps fs → sheet_reply ps fs ≡ taken Possible
  unfolding verdict
  accepted_where h p =
      judged ps fs h
      ∙ ap taken (rw (
        every_all (length ps) (right_at billion ps fs) members,
        side_where Positive ps fs p.positive.summed,
        side_where Negative ps fs p.negative.summed,
      ))
    where
      side : (s : Side) → SidePossible s ps fs
      side Positive = p.positive
      side Negative = p.negative

      members : (i : ℕ) → i < length ps → right_at billion ps fs i ≡ true
      members i l =
          right_where (λ s. side_total s ps) (number_at ps i) (number_at fs i) (λ s h. lt-ltb _ _ ((side s).near i l h)) (p.nothing i l)

  -- WHICH IS NAMED: the first wrong member, from 1,
  pub wrong_member_means : {k : ℕ} → sheet_reply ps fs ≡ taken (WrongMember k) → FirstWrong (right_at billion ps fs) (length ps) k
  unfolding verdict
  wrong_member_means {k} e =
      go (all_right ps fs) refl (side_right Positive ps fs) (side_right Negative ps fs) (sym (judged ps fs (judgeable ps fs e)) ∙ e)
    where
      go : (a : Bool) → all_right ps fs ≡ a → (b c : Bool) →
          ◌≡◌ {A = Reply Verdict} (taken (told a b c)) (taken (WrongMember k)) → FirstWrong (right_at billion ps fs) (length ps) k
      go true f true true e = let z : ◌≡◌ {A = ℕ} 0 1 = cc in absurd (omega arith)
      go true f true false e = let z : ◌≡◌ {A = ℕ} 0 1 = cc in absurd (omega arith)
      go true f false c e = let z : ◌≡◌ {A = ℕ} 0 1 = cc in absurd (omega arith)
      go false f b c e =
          let is : first_wrong (right_at billion ps fs) (length ps) ≡ k = cc in
          subst (FirstWrong (right_at billion ps fs) (length ps)) is (first_wrong_means (right_at billion ps fs) (length ps) f)

  -- else, where all are right, the side whose sum is off, and the negative one only where the positive one's is not
  pub wrong_side_means : {s : Side} → sheet_reply ps fs ≡ taken (WrongSide s) →
      (all_right ps fs ≡ true) × (side_right s ps fs ≡ false) × (s ≡ Negative → side_right Positive ps fs ≡ true)
  unfolding verdict
  wrong_side_means {s} e =
      go (all_right ps fs) refl (side_right Positive ps fs) refl (side_right Negative ps fs) refl (sym (judged ps fs (judgeable ps fs e)) ∙ e)
    where
      go : (a : Bool) → all_right ps fs ≡ a → (b : Bool) → side_right Positive ps fs ≡ b → (c : Bool) → side_right Negative ps fs ≡ c →
          ◌≡◌ {A = Reply Verdict} (taken (told a b c)) (taken (WrongSide s)) → (all_right ps fs ≡ true) × (side_right s ps fs ≡ false) × (s ≡ Negative → side_right Positive ps fs ≡ true)
      go true f true g true h e = let z : ◌≡◌ {A = ℕ} 0 1 = cc in absurd (omega arith)
      go true f true g false h e =
          let is : Negative ≡ s = cc in (f, subst (λ (s : Side). side_right s ps fs ≡ false) is h, λ _. g)
      go true f false g c h e =
          let is : Positive ≡ s = cc in
          (f, subst (λ (s : Side). side_right s ps fs ≡ false) is g, λ n. let z : ◌≡◌ {A = ℕ} 0 1 = cc in absurd (omega arith))
      go false f b g c h e = let z : ◌≡◌ {A = ℕ} 0 1 = cc in absurd (omega arith)
