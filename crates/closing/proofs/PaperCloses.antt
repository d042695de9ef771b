-- The conditions of demand 3 are met: at the paper's book (01, One listing in full), whose residual is live and whose requirement has no default and both
-- parties; at that book with the roster 1, 2, 3, whose unit 2 is drawn as units 2 and 9, which stand apart; and at one in which a group stands between the two.
use mathlib.Core.Path.{◌≡◌, refl, sym, ◌∙◌, ap₂}
use mathlib.Core.Bool.{true}
use mathlib.Core.List.{[], ◌∷◌}
use Prim.Native.Nat.{ℕ, ◌+◌, ◌<◌}
use native.Mathlib.Omega.{arith}
use lib.IntN.{ℤ, pos, neg_ℤ, ◌+ℤ◌, neg_ℤ-+ℤ}
use lib.ListN.{get_or}
use Rattle.rules.specs.declared.Direction.{Direction}
use Rattle.rules.specs.declared.Direction.TheVariants.{Raise, Lower}
use Rattle.rules.specs.Quantities.{points}
use Rattle.rules.specs.Refusals.{taken}
use Rattle.laws.proofs.BytesLaws.{listed_from_zero}
use Rattle.rules.specs.Book.{by}
use Rattle.rules.specs.WholeBook.{book}
use Rattle.books.specs.Writing.{book_bytes, flat}
use Rattle.books.specs.PaperBook.{requirement, paper_book}
use Rattle.books.specs.Computing.{computing}
use Rattle.integers.specs.Totals.{all, All}
use Rattle.closing.specs.Parties.{some, some_helpful, no_default}
use Rattle.closing.specs.Parts.{Parts, DefaultsAddUp}
use Rattle.closing.specs.TwoForOne.{here, later}
use Rattle.closing.specs.Drawn.{RosterDrawn, whole_groups}
use Rattle.closing.proofs.Demand3.{parties_meet, taken_redrawn, books_close}
use Rattle.closing.specs.PaperCloses.{
  PaperCloses,
  RedrawnAroundGroup,
  ResponseGrows,
  UnitRedrawn,
  around_group,
  before,
  behind,
  follower,
  four_units,
  generator,
  larger,
  primary,
  smaller,
  three_units,
  unused_alone,
  whole,
  with_group,
}

pub paper_closes : PaperCloses
unfolding computing some all All
paper_closes =
    let live : no_default (paper_book 7) requirement ≡ true = refl in
    let helps : some_helpful (paper_book 7) requirement ≡ true = refl in
    record {
      live = refl;
      no_default = live;
      helpful = helps;
      unhelpful = sym (parties_meet (paper_book 7) (omega arith, (omega arith, tt)) requirement live) ∙ helps;
    }

-- two of them are the parts of the one with the sums of their numbers
pub generator_parts : (k m n s c e g : ℕ) (r p : ℤ) (f h : ℕ) → Parts (generator k (s + c) (e + g) (r +ℤ p) (f + h)) (generator m s e r f) (generator n c g p h)
unfolding computing
generator_parts k m n s c e g r p f h =
    record {
      good = refl;
      group = refl;
      first = record { good = refl; group = refl; region = refl; kind = refl };
      second = record { good = refl; group = refl; region = refl; kind = refl };
      start = refl;
      end = refl;
      defaults = sides;
      reading = λ t l. ap₂ ◌+ℤ◌ (at r t l) (at p t l) ∙ sym (at (r +ℤ p) t l);
    }
  where
    at : (z : ℤ) (t : ℕ) → t < points → get_or (flat z) t (pos 0) ≡ z
    at z t l = listed_from_zero points (λ i. z) t (pos 0) l

    sides : (d : Direction) → DefaultsAddUp (by d (unused_alone (f + h))) (by d (unused_alone f)) (by d (unused_alone h))
    sides Raise = record { payment = refl; used = refl; unused = sym (neg_ℤ-+ℤ (pos f) (pos h)) }
    sides Lower = record { payment = refl; used = refl; unused = refl }

pub response_grows : ResponseGrows
unfolding computing
response_grows = record { parts = generator_parts 1 1 1 0 0 0 0 (pos 1) (neg_ℤ (pos 1)) 0 0; one = refl; two = refl }

whole_in_parts : Parts whole smaller larger
whole_in_parts = generator_parts 2 2 9 4_000 6_000 4_001 6_001 (pos 4_040) (pos 6_060) 400 600

pub unit_drawn : RosterDrawn three_units four_units whole smaller larger
unfolding computing whole_groups
unit_drawn =
    record {
      parts = whole_in_parts;
      places = record { others = before ∷ behind ∷ []; with_first = _; one = later here; first = later here; second = later (later (later here)) };
      unsplit = refl;
      all_else = refl;
    }

pub unit_redrawn : UnitRedrawn
unfolding computing
unit_redrawn =
    let old : book (book_bytes three_units) ≡ taken three_units = refl in
    record {
      old_taken = old;
      new_taken = refl;
      redrawn = (books_close (book_bytes three_units) three_units old).rosters four_units whole smaller larger unit_drawn;
      one = refl;
      first = refl;
      second = refl;
    }

pub redrawn_around_group : RedrawnAroundGroup
unfolding computing
redrawn_around_group =
    let old : book (book_bytes with_group) ≡ taken with_group = refl in
    let new : book (book_bytes around_group) ≡ taken around_group = refl in
    record {
      old_taken = old;
      new_taken = new;
      redrawn = taken_redrawn (book_bytes with_group) (book_bytes around_group) with_group around_group old new whole smaller larger whole_in_parts
          (record {
            others = before ∷ primary ∷ follower ∷ [];
            with_first = _;
            one = later here;
            first = later here;
            second = later (later (later (later here)));
          })
          refl;
      old = refl;
      new = refl;
    }
