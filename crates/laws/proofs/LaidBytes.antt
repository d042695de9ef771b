-- What is laid out is bytes: each is below 256.
use mathlib.Core.List.{List, [], ◌∷◌, ◌++◌}
use Prim.Native.Nat.{ℕ, zero, suc, ◌/◌}
use native.Mathlib.Omega.{arith}
use Rattle.rules.specs.Laid.{Filled, bytes, strung, laid}
use Rattle.rules.specs.Given.{Given}
use Rattle.rules.specs.Quantities.{regions}
use Rattle.rules.specs.Written.{
  contents_filled,
  settings_filled,
  region_filled,
  unit_filled,
  requirement_filled,
  region_laid,
  unit_laid,
  requirement_laid,
  book_laid,
}
use Rattle.laws.proofs.LaidLaws.{field_laid}
use Rattle.laws.proofs.LaidTaken.{Bytes}

none_small : Bytes []
none_small i = omega arith

append_small : (xs ys : List ℕ) → Bytes xs → Bytes ys → Bytes (xs ++ ys)
append_small [] ys a b i = b i
append_small (x ∷ xs) ys a b zero = a 0
append_small (x ∷ xs) ys a b (suc i) = append_small xs ys (λ j. a (suc j)) b i

bytes_small : (n x : ℕ) → Bytes (bytes n x)
unfolding bytes
bytes_small zero x i = omega arith
bytes_small (suc n) x zero = omega arith
bytes_small (suc n) x (suc i) = bytes_small n (x / 256) i

strung_small : (i n : ℕ) (f : ℕ → List ℕ) → ((j : ℕ) → Bytes (f j)) → Bytes (strung i n f)
unfolding strung
strung_small i zero f h = none_small
strung_small i (suc n) f h = append_small (f i) (strung (suc i) n f) (h i) (strung_small (suc i) n f h)

field_small : (f : Filled) → Bytes (field_laid f)
field_small f =
    strung_small 0 f.field.count (λ i. bytes f.field.width (f.words i)) (λ i. bytes_small f.field.width (f.words i))

laid_small : (fs : List Filled) → Bytes (laid fs)
unfolding laid
laid_small [] = none_small
laid_small (f ∷ fs) = append_small (field_laid f) (laid fs) (field_small f) (laid_small fs)

pub book_small : (g : Given) → Bytes (book_laid g)
unfolding book_laid
book_small g =
    let qs = strung 0 g.requirements (requirement_laid g) in
    let us = strung 0 g.units (unit_laid g) in
    let rs = strung 0 regions (region_laid g) in
    let s = laid (settings_filled g) in
    append_small (laid (contents_filled g.units g.requirements)) (s ++ (rs ++ (us ++ qs))) (laid_small (contents_filled g.units g.requirements))
    (append_small s (rs ++ (us ++ qs)) (laid_small (settings_filled g))
    (append_small rs (us ++ qs) (strung_small 0 regions (region_laid g) (λ r. laid_small (region_filled g r)))
    (append_small us qs (strung_small 0 g.units (unit_laid g) (λ j. laid_small (unit_filled g j)))
    (strung_small 0 g.requirements (requirement_laid g) (λ q. laid_small (requirement_filled g q))))))
