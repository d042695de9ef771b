-- Laws of the definitions in specs/Promises.antt.
use Rattle.std.specs.Prelude.{Option, None, Some, Result, Ok, Err}
use mathlib.Core.Path.{◌≡◌, refl, sym, ◌∙◌, ap, subst}
use mathlib.Core.Bool.{Bool, true, false, cond}
use mathlib.Core.List.{List}
use Prim.Native.Nat.{ℕ, ◌≤◌}
use native.Mathlib.Omega.{arith}
use lib.Dec.{eqb}
use lib.IntN.{ℤ}
use lib.ListN.{length}
use borrow.Author.Tests.{eqb-true, le-leb}
use Rattle.integers.specs.Sums.{every, first_wrong}
use Rattle.integers.proofs.Sums.{none_wrong, first_wrong_means}
use Rattle.rules.specs.declared.Refusal.{Refusal}
use Rattle.rules.specs.declared.Refusal.TheVariants.{TooShort, WrongCount}
use Rattle.rules.specs.declared.Verdict.{Verdict}
use Rattle.rules.specs.declared.Verdict.TheVariants.{WrongMember}
use Rattle.rules.specs.Quantities.{billion, most_members}
use Rattle.rules.specs.Refusals.{Reply, taken, refused, unless}
use Rattle.rules.specs.Sheet.{right_at, sides_fit, members_reply, verdict, sheet_reply}
use Rattle.share.specs.Exact.{judged_of}
use Rattle.sheets.specs.Promises.{AllRight, SheetPromise, sides_verdict}

-- any two outcomes are equal
pub sheet_only : {ps fs : List ℤ} {r r' : Result Verdict Refusal} → SheetPromise ps fs r → SheetPromise ps fs r' → r ≡ r'
sheet_only a b = a.reply ∙ sym b.reply

-- ---- the sheet's reply, by what is found of its members
module _ (ps fs : List ℤ) where
  abbrev pub Found : Result (Option ℕ) Refusal → Type 0
  Found (Ok None) = AllRight ps fs × (sheet_reply ps fs ≡ taken (sides_verdict ps fs))
  Found (Ok (Some k)) = (k ≤ most_members) × (sheet_reply ps fs ≡ taken (WrongMember k))
  Found (Err refusal) = sheet_reply ps fs ≡ refused refusal

  abbrev k : ℕ
  k = first_wrong (right_at billion ps fs) (length ps)

  -- past the first test, as the others go
  abbrev reply_by : Bool → Bool → Bool → Reply Verdict
  reply_by long fits right = unless long TooShort (unless fits WrongCount (taken (cond right (sides_verdict ps fs) (WrongMember k))))

  tests_left : length fs ≤ most_members → sheet_reply ps fs ≡
      reply_by (eqb (length ps) (length fs)) (sides_fit ps) (every (length ps) (right_at billion ps fs))
  unfolding sheet_reply verdict
  tests_left few = rw (le-leb (length fs) most_members few)

  pub found : length fs ≤ most_members → Found (judged_of (members_reply billion ps fs))
  unfolding members_reply
  found few =
      go (eqb (length ps) (length fs)) refl (sides_fit ps) (every (length ps) (right_at billion ps fs)) refl (tests_left few)
    where
      go : (a : Bool) → eqb (length ps) (length fs) ≡ a → (b t : Bool) → every (length ps) (right_at billion ps fs) ≡ t → sheet_reply ps fs ≡ reply_by a b t →
          Found (judged_of (unless a TooShort (unless b WrongCount (taken k))))
      go true e true true g r =
          rw (none_wrong (right_at billion ps fs) (length ps) g) (record { long = sym (eqb-true (length ps) (length fs) e); all = g }, r)
      go true e true false g r =
          let m = first_wrong_means (right_at billion ps fs) (length ps) g in
          subst (λ (n : ℕ). Found (judged_of (taken n))) (sym m.from_one)
          (omega (arith, m.among, eqb-true (length ps) (length fs) e), r ∙ ap (λ (n : ℕ). taken (WrongMember n)) m.from_one)
      go true e false t g r = r
      go false e b t g r = r
