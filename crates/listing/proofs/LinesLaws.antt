-- Laws of the definitions in specs/Lines.antt.
use mathlib.Core.Path.{◌≡◌, refl, sym, ◌∙◌, ap}
use mathlib.Core.List.{List, [], ◌∷◌, ◌++◌, append_assoc}
use Prim.Native.Nat.{ℕ, ◌≤◌}
use native.Mathlib.Omega.{arith}
use lib.Dec.{lit≤}
use lib.ListN.{length, take, drop, set, length-append, take-append-drop, drop_of_length-le}
use lib.Seq.{take-set-le}
use Rattle.rules.specs.declared.Located.{Located}
use Rattle.rules.specs.declared.Standing.{Standing}
use Rattle.rules.specs.declared.Standing.TheVariants.{Live, Default}
use Rattle.rules.specs.Text.{text, integer, words}
use Rattle.rules.specs.Listing.{standing_word, interval_line, refused_line, requirement_line, member_line}
use Rattle.listing.specs.declared.RequirementLine.{RequirementLine}
use Rattle.listing.specs.declared.Amounts.{Amounts}
use Rattle.listing.specs.Pieces.{Put, after_space}
use Rattle.listing.proofs.PiecesLaws.{alike_less, put_byte, integer_most}
use Rattle.listing.specs.Lines.{LineWritten, amounts_words, answer_of, residual_of, unit_of}

-- a line with a piece more before it
pub put_onto : {at r : ℕ} {piece old mid new tail : List ℕ} → Put piece at mid r new → LineWritten tail old at mid → LineWritten (piece ++ tail) old r new
put_onto {at} {r} {piece} {old} {mid} {tail = tail} p w =
    record {
      place = omega (arith, length-append piece tail, p.place, w.place);
      bytes = p.bytes ∙ ap (λ (l : List ℕ). piece ++ l) w.bytes;
      before = p.before ∙ alike_less r at mid old (omega (arith, p.place)) w.before;
    }

-- the line feed alone
pub line_end : (old : List ℕ) → length old ≡ 165 → LineWritten (10 ∷ []) old 164 (set old 164 10)
line_end old e =
    record {
      place = refl;
      bytes = put_byte old 165 10 (lit≤ tt) (omega (arith, e)) ∙ ap (λ (l : List ℕ). 10 ∷ l) (drop_of_length-le old {i = 165} (omega (arith, e)));
      before = take-set-le 164 old 164 10 (lit≤ tt);
    }

pub line_starts : {line old new : List ℕ} {r : ℕ} → LineWritten line old r new → r ≤ 165
line_starts w = omega (arith, w.place)

six_before : (a b c d e f z : List ℕ) → (a ++ (b ++ (c ++ (d ++ (e ++ f))))) ++ z ≡ a ++ (b ++ (c ++ (d ++ (e ++ (f ++ z)))))
six_before a b c d e f z = simp append_assoc

pub amounts_end : (standing : Standing) (a : Amounts) → amounts_words standing a ++ text "\n" ≡
    after_space (words (standing_word standing ∷ integer a.performance ∷ integer a.factor ∷ integer a.payment ∷ integer a.used ∷ integer a.unused
    ∷ []))
unfolding amounts_words text words
amounts_end standing a =
    six_before (after_space (standing_word standing)) (after_space (integer a.performance)) (after_space (integer a.factor))
    (after_space (integer a.payment)) (after_space (integer a.used)) (after_space (integer a.unused)) (text "\n")

-- a member's words before the line feed
pub amounts_onto : (standing : Standing) (a : Amounts) {at r : ℕ} {old mid new : List ℕ} → Put (amounts_words standing a) at mid r new →
    LineWritten (10 ∷ []) old at mid →
    LineWritten (after_space (words (standing_word standing ∷ integer a.performance ∷ integer a.factor ∷ integer a.payment ∷ integer a.used
    ∷ integer a.unused ∷ []))) old r new
unfolding text
amounts_onto standing a p w = rw (amounts_end standing a) at (put_onto p w)

-- what the longest of them take
standing_most : (standing : Standing) → length (after_space (standing_word standing)) ≤ 8
unfolding text
standing_most Live = lit≤ tt
standing_most (Default why) = lit≤ tt

pub amounts_most : (standing : Standing) (a : Amounts) → length (amounts_words standing a) ≤ 118
unfolding amounts_words text
amounts_most standing a =
    simp length-append
    (omega (
      arith,
      standing_most standing,
      integer_most a.performance,
      integer_most a.factor,
      integer_most a.payment,
      integer_most a.used,
      integer_most a.unused,
    ))

-- ---- no two answers are allowed
line_whole : {line old : List ℕ} {r : ℕ} {new : List ℕ} → LineWritten line old r new → new ≡ take r old ++ line
line_whole {old = old} {r} {new} w =
    sym (take-append-drop r new) ∙ ap (λ (l : List ℕ). l ++ drop r new) w.before ∙ ap (λ (l : List ℕ). take r old ++ l) w.bytes

pub line_only : {line old : List ℕ} {r r' : ℕ} {new new' : List ℕ} → LineWritten line old r new → LineWritten line old r' new' → (r ≡ r') × (new ≡ new')
line_only {line} {old} {r} {r'} a b =
    let e : r ≡ r' = omega (arith, a.place, b.place) in
    (e, line_whole a ∙ ap (λ (i : ℕ). take i old ++ line) e ∙ sym (line_whole b))

module _ {old : List ℕ} {r r' : ℕ} {new new' : List ℕ} where
  pub interval_line_only : (interval : ℕ) → LineWritten (interval_line interval) old r new → LineWritten (interval_line interval) old r' new' →
      (r ≡ r') × (new ≡ new')
  interval_line_only interval = line_only

  pub refused_line_only : (said : Located) → LineWritten (refused_line said) old r new → LineWritten (refused_line said) old r' new' →
      (r ≡ r') × (new ≡ new')
  refused_line_only said = line_only

  pub requirement_line_only : (said : RequirementLine) → LineWritten (requirement_line (answer_of said)) old r new →
      LineWritten (requirement_line (answer_of said)) old r' new' → (r ≡ r') × (new ≡ new')
  requirement_line_only said = line_only

  pub unit_line_only : (number : ℕ) (standing : Standing) (amounts : Amounts) → LineWritten (member_line (unit_of number standing amounts)) old r new →
      LineWritten (member_line (unit_of number standing amounts)) old r' new' → (r ≡ r') × (new ≡ new')
  unit_line_only number standing amounts = line_only

  pub residual_line_only : (standing : Standing) (amounts : Amounts) → LineWritten (member_line (residual_of standing amounts)) old r new →
      LineWritten (member_line (residual_of standing amounts)) old r' new' → (r ≡ r') × (new ≡ new')
  residual_line_only standing amounts = line_only
