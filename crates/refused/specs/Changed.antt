-- One book with fields changed, and the number, place and t that it is refused with: what the tables of the fields' limits state, and how they are
-- proved by computing.
use Rattle.std.specs.Prelude.{◌≡◌, Bool, true, ℕ, suc, ◌+◌, ◌*◌, ◌-◌, ◌^◌, eqb, length, take, drop, get_or}
use Rattle.std.proofs.Math.Path.{refl, ap₂}
use Rattle.std.proofs.Common.{sym, ◌∙◌, ap, subst, add-zero, zero-add, arith, eqb-true}
use mathlib.Core.List.{List, [], ◌∷◌, ◌++◌, map}
use Rattle.integers.specs.Sums.{both}
use Rattle.integers.specs.Totals.{all}
use Rattle.rules.specs.Refusals.{LocatedReply}
use Rattle.rules.specs.Bytes.{listed}
use Rattle.rules.specs.Book.{Book}
use Rattle.rules.specs.WholeBook.{book}
use Rattle.rules.specs.Laid.{bytes}
use Rattle.books.specs.Writing.{book_bytes}
use Rattle.books.specs.WorkedBooks.{every_field}
use Rattle.books.specs.Told.{told}

abbrev pub refusal : List ℕ → List ℕ
refusal bs = told (book bs)

-- the book that is changed: two units, at 1904 and 2276, and two requirements, at 2648 and 2672; it has 2696 bytes
abbrev pub base : List ℕ
base = book_bytes every_field

-- a field of `width` bytes at a place of the book now holds `value`
pub record Change : Type 0 where
  pub place : ℕ
  pub width : ℕ
  pub value : ℕ

abbrev pub with : ℕ → ℕ → ℕ → Change
with place width value = record { place = place; width = width; value = value }

-- the same for a value below zero, given by its size
abbrev pub below : ℕ → ℕ → ℕ → Change
below place width size = with place width (2 ^ (8 * width) - size)

-- bytes of which the first stands at `start` in the book, with a change made, and with several
abbrev changed : ℕ → Change → List ℕ → List ℕ
changed start c bs =
    let place = c.place - start in
    take place bs ++ (bytes c.width c.value ++ drop (place + c.width) bs)

unfoldable pub all_changed : ℕ → List Change → List ℕ → List ℕ
all_changed start [] bs = bs
all_changed start (c ∷ cs) bs = changed start c (all_changed start cs bs)

-- of the book's first `size` bytes those from `start` on are changed; the book ends with them
module _ (start size : ℕ) where
  abbrev front : List ℕ
  front = take start base

  abbrev part : List ℕ
  part = drop start (take size base)

  -- each change alone gives a refusal of its own, or all the same; all made together give it
  pub record Each (cs : List Change) (ns : List (List ℕ)) : Type 0 where
    pub refusals : map (λ c. refusal (front ++ changed start c part)) cs ≡ ns

  abbrev pub Alone : List ℕ → List Change → Type 0
  Alone n cs = Each cs (map (λ c. n) cs)

  pub record Together (n : List ℕ) (cs : List Change) : Type 0 where
    pub refusal_is : refusal (front ++ all_changed start cs part) ≡ n

-- ---- where the bytes before `start` are taken whatever follows them, what follows is computed alone
pub record Next (start size : ℕ) (next : List ℕ → LocatedReply Book) : Type 0 where
  pub is : (f : ℕ → ℕ) → book (front start size ++ listed 0 (size - start) f) ≡ next (listed 0 (size - start) f)

listed_is : (xs : List ℕ) (i : ℕ) (f : ℕ → ℕ) → ((k : ℕ) → f (i + k) ≡ get_or xs k 0) → listed i (length xs) f ≡ xs
unfolding listed
listed_is [] i f h = refl
listed_is (x ∷ xs) i f h = ap₂ ◌∷◌ (ap f (sym (add-zero i)) ∙ h 0) (listed_is xs (suc i) f (λ k. ap f (omega arith) ∙ h (suc k)))

module _ {start size : ℕ} {next : List ℕ → LocatedReply Book} (before : Next start size next) where
  later : (xs : List ℕ) → length xs ≡ size - start → refusal (front start size ++ xs) ≡ told (next xs)
  later xs h =
      let f : ℕ → ℕ = λ i. get_or xs i 0 in
      let e : listed 0 (length xs) f ≡ xs = listed_is xs 0 f (λ k. ap f (zero-add k)) in
      let e' : listed 0 (size - start) f ≡ xs = subst (λ (n : ℕ). listed 0 n f ≡ xs) h e in
      subst (λ (l : List ℕ). refusal (front start size ++ l) ≡ told (next l)) e' (ap told (before.is f))

  abbrev part_with : Change → List ℕ
  part_with c = changed start c (part start size)

  abbrev as_long : Change → Bool
  as_long c = eqb (length (part_with c)) (size - start)

  each_later : (cs : List Change) → all as_long cs ≡ true
      → map (λ c. refusal (front start size ++ part_with c)) cs ≡ map (λ c. told (next (part_with c))) cs
  unfolding all
  each_later [] h = refl
  each_later (c ∷ cs) h =
      let b = both (as_long c) (all as_long cs) h in
      ap₂ ◌∷◌ (later (part_with c) (eqb-true _ _ b.0)) (each_later cs b.1)

  pub alone_later : {cs : List Change} {ns : List (List ℕ)} → all as_long cs ≡ true → map (λ c. told (next (part_with c))) cs ≡ ns → Each start size cs ns
  alone_later {cs = cs} long same = record { refusals = each_later cs long ∙ same }

  abbrev part_with_all : List Change → List ℕ
  part_with_all cs = all_changed start cs (part start size)

  pub together_later : {n : List ℕ} {cs : List Change} → length (part_with_all cs) ≡ size - start → told (next (part_with_all cs)) ≡ n →
      Together start size n cs
  together_later {cs = cs} long same = record { refusal_is = later (part_with_all cs) long ∙ same }
