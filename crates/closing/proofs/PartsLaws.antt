-- What follows of a unit and its two parts alone: the line from start to end is kept unrounded, so deviations and performances add up exactly.
use mathlib.Core.Path.{◌≡◌, refl, sym, ◌∙◌, ap, ap₂}
use Prim.Native.Nat.{ℕ, suc, ◌<◌}
use native.Mathlib.Omega.{arith}
use lib.IntN.{ℤ, pos, ◌+ℤ◌, neg_ℤ-+ℤ}
use lib.ListN.{get_or}
use Rattle.integers.proofs.Pairs.{Pair, ring, v, ◌⊕◌, ◌⊖◌, ◌⊗◌}
use Rattle.rules.specs.declared.Direction.{Direction}
use Rattle.rules.specs.declared.Kind.{Kind}
use Rattle.rules.specs.declared.Kind.TheVariants.{Generation, Load}
use Rattle.rules.specs.Quantities.{points}
use Rattle.rules.specs.Book.{Unit, Book}
use Rattle.rules.specs.Deviation.{turned, line, deviation}
use Rattle.rules.specs.Plants.{alone}
use Rattle.rules.specs.Performance.{weight_in, performance, plant_performance}
use Rattle.laws.proofs.PerformanceLaws.{performance_ext, performance_plus}
use Rattle.closing.specs.Parts.{Parts}

-- at a point, by the paper's t
line_adds_up : (r s e p c g : ℤ) (t : ℕ) → line r s e t +ℤ line p c g t ≡ line (r +ℤ p) (s +ℤ c) (e +ℤ g) t
line_adds_up r s e p c g t = ring (at (v r) (v s) (v e) ⊕ at (v p) (v c) (v g)) (at (v r ⊕ v p) (v s ⊕ v c) (v e ⊕ v g)) (omega arith)
  where
    at : Pair → Pair → Pair → Pair
    at reading start end = v (pos 75) ⊗ (reading ⊖ start) ⊖ (end ⊖ start) ⊗ v (pos (suc t))

turned_adds_up : (k : Kind) (a c : ℤ) → turned k a +ℤ turned k c ≡ turned k (a +ℤ c)
turned_adds_up Generation a c = refl
turned_adds_up Load a c = sym (neg_ℤ-+ℤ a c)

module _ {u x y : Unit} (h : Parts u x y) where
  pub deviation_adds_up : (t : ℕ) → t < points → deviation x t +ℤ deviation y t ≡ deviation u t
  unfolding deviation
  deviation_adds_up t l =
      rw (h.first.kind, h.second.kind)
      (turned_adds_up u.kind (at x) (at y)
      ∙ ap (turned u.kind) (line_adds_up (reads x) x.start x.end (reads y) y.start y.end t ∙ rw (h.reading t l, h.start, h.end)))
    where
      reads : Unit → ℤ
      reads w = get_or w.reading t (pos 0)

      at : Unit → ℤ
      at w = line (reads w) w.start w.end t

  -- by the measures of their region
  pub performance_adds_up : (b : Book) (d : Direction) → plant_performance b d (alone x) +ℤ plant_performance b d (alone y) ≡ plant_performance b d (alone u)
  unfolding plant_performance
  performance_adds_up b d =
      ap₂ (λ (r s : ℕ). performance d (weight_in b r) (deviation x) +ℤ performance d (weight_in b s) (deviation y)) h.first.region h.second.region
      ∙ sym (performance_plus d (weight_in b u.region) (deviation x) (deviation y))
      ∙ performance_ext d (weight_in b u.region) _ _ deviation_adds_up
