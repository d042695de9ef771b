-- Laws of the same byte so many times, and of putting it.
use mathlib.Core.Path.{◌≡◌, refl, ◌∙◌, ap}
use mathlib.Core.List.{List, [], ◌∷◌, ◌++◌}
use Prim.Native.Nat.{ℕ, zero, suc, ◌+◌, ◌-◌, ◌≤◌, ◌<◌}
use native.Mathlib.Nat.{zero-add, suc-add}
use native.Mathlib.Omega.{arith}
use lib.ListN.{length, set}
use Rattle.rules.specs.Panel.{repeated}
use Rattle.listing.specs.Pieces.{Put}
use Rattle.listing.proofs.PiecesLaws.{put_before}
use Rattle.report_row.proofs.PutLaws.{put_one}

pub repeated_long : (byte n : ℕ) → length (repeated byte n) ≡ n
unfolding repeated
repeated_long byte zero = refl
repeated_long byte (suc n) = ap suc (repeated_long byte n)

-- so many and so many more
pub repeated_joined : (byte m n : ℕ) → repeated byte m ++ repeated byte n ≡ repeated byte (m + n)
unfolding repeated
repeated_joined byte zero n = rw (zero-add n)
repeated_joined byte (suc m) n = ap (λ (l : List ℕ). byte ∷ l) (repeated_joined byte m n) ∙ rw (suc-add m n)

pub one_more : (byte n : ℕ) → (byte ∷ []) ++ repeated byte n ≡ repeated byte (suc n)
unfolding repeated
one_more byte n = refl

-- ---- putting it: so many stand before `at`
pub record Stands (byte at : ℕ) (old : List ℕ) (to : ℕ) (text : List ℕ) : Type 0 where
  pub many : ℕ
  pub put : Put (repeated byte many) at old to text

pub none_stand : (byte at : ℕ) (old : List ℕ) → Stands byte at old at old
unfolding repeated
none_stand byte at old = record { many = 0; put = record { place = omega arith; bytes = refl; before = refl; size = refl } }

module _ {byte at to : ℕ} {old text : List ℕ} (inside : at ≤ length old) (s : Stands byte at old to text) where
  pub one_stands : 0 < to → Stands byte at old (to - 1) (set text (to - 1) byte)
  one_stands h =
      record {
        many = suc s.many;
        put =
            rw (one_more byte s.many) at
            (put_before s.put (put_one byte (record { free = h; inside = omega (arith, s.put.place, s.put.size) })));
      }

  pub all_stand : (count : ℕ) → count ≤ at → at - count ≤ to → to ≤ at - count → Put (repeated byte count) at old to text
  all_stand count few h k =
      let e : s.many ≡ count = omega (arith, s.put.place, repeated_long byte s.many) in
      rw e at s.put
