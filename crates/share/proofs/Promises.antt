-- Laws of the definitions in specs/Promises.antt.
use Rattle.std.proofs.Common.{◌≡◌, ℕ, ◌≤◌, Bool, true, false, cond, ◌&&◌, eqb, leb, List, map, length, ℤ, sym, refl, ap, ◌∙◌, arith, eqb-true, leb-true, Option, None, Some, Result, Ok, Err}
use Rattle.integers.specs.Pairs.{loss}
use Rattle.integers.specs.Sums.{both}
use Rattle.integers.specs.Fills.{filled}
use Rattle.rules.specs.declared.Refusal.{Refusal}
use Rattle.rules.specs.declared.Refusal.TheVariants.{TooShort, WrongCount}
use Rattle.rules.specs.Quantities.{total_limit, weight_limit}
use Rattle.rules.specs.Refusals.{Reply, taken, refused, unless}
use Rattle.rules.specs.Share.{share_of, unplaced, share_reply}
use Rattle.laws.proofs.ShareLaws.{not_zero}
use Rattle.share.specs.Weighing.{sum_of, Shares}
use Rattle.share.specs.Promises.{SharedOut, answered, credit, debit, tested, where_taken}

-- any two outcomes are equal
pub shared_out_only : (sign : ℕ → ℤ) {T : ℕ} {xs : List ℕ} {old new new' : List ℤ} {r r' : Result ℕ Refusal} → SharedOut sign T xs old r new →
    SharedOut sign T xs old r' new' → (r ≡ r') × (new ≡ new')
shared_out_only sign a b = (a.reply ∙ sym b.reply, a.amounts ∙ sym b.amounts)

pub share_only : {T : ℕ} {ws : List ℕ} {old new new' : List ℤ} {r r' : Result ℕ Refusal} → SharedOut credit T ws old r new → SharedOut credit T ws old r' new' →
    (r ≡ r') × (new ≡ new')
share_only a b = shared_out_only credit a b

pub share_unhelpful_only : (ps : List ℤ) {T : ℕ} {old new new' : List ℤ} {r r' : Result ℕ Refusal} → SharedOut debit T (map loss ps) old r new →
    SharedOut debit T (map loss ps) old r' new' → (r ≡ r') × (new ≡ new')
share_unhelpful_only ps a b = shared_out_only debit a b

-- what a caller reads off the answer
pub placed_means : (y : Reply ℕ) {u : ℕ} → Ok u ≡ answered y → y ≡ taken u
placed_means (taken v) e = cc
placed_means (refused f) e = let z : ◌≡◌ {A = ℕ} 0 1 = cc in absurd (omega arith)

pub refused_means : (y : Reply ℕ) {f : Refusal} → Err f ≡ answered y → y ≡ refused f
refused_means (taken v) e = let z : ◌≡◌ {A = ℕ} 0 1 = cc in absurd (omega arith)
refused_means (refused g) e = cc

-- what the definition replies where the tests find so much
abbrev pub found : ℕ → Result (Option ℕ) Refusal → Reply ℕ
found T (Ok (Some W)) = taken 0
found T (Ok None) = taken T
found T (Err refusal) = refused refusal

pub tests_tell : (T : ℕ) (xs : List ℕ) (room : ℕ) → share_reply T xs room ≡ found T (tested T xs room)
unfolding tested share_reply unplaced
tests_tell T xs room =
    go (leb (length xs) room) (leb T total_limit && leb (sum_of xs) weight_limit) (eqb (sum_of xs) 0)
  where
    go : (a b c : Bool) →
        unless a TooShort (unless b WrongCount (taken (cond c T 0))) ≡
        found T (cond a (cond b (cond c (Ok None) (Ok (Some (sum_of xs)))) (Err WrongCount)) (Err TooShort))
    go true true true = refl
    go true true false = refl
    go true false c = refl
    go false b c = refl

-- what the tests have shown of a share that passes, and of one without weight
pub record Passed (T : ℕ) (xs : List ℕ) (room W : ℕ) : Type 0 where
  pub roomy : length xs ≤ room
  pub shares : Shares T xs W

apart : {A : Type 0} {x y : Result (Option ℕ) Refusal} → x ≡ y → (◌≡◌ {A = ℕ} 0 1) → A
apart e z = absurd (omega arith)

pub passed : (T : ℕ) (xs : List ℕ) (room : ℕ) {W : ℕ} → Ok (Some W) ≡ tested T xs room → Passed T xs room W
unfolding tested
passed T xs room {W} q =
    go (leb (length xs) room) refl (leb T total_limit && leb (sum_of xs) weight_limit) refl (eqb (sum_of xs) 0) refl q
  where
    go : (a : Bool) → leb (length xs) room ≡ a → (b : Bool) → (leb T total_limit && leb (sum_of xs) weight_limit) ≡ b → (c : Bool) → eqb (sum_of xs) 0 ≡ c →
        Ok (Some W) ≡ cond a (cond b (cond c (Ok None) (Ok (Some (sum_of xs)))) (Err WrongCount)) (Err TooShort) → Passed T xs room W
    go true e true f false g q =
        let limits = both (leb T total_limit) (leb (sum_of xs) weight_limit) f in
        let is : W ≡ sum_of xs = cc in
        record {
          roomy = leb-true (length xs) room e;
          shares = record {
            total = leb-true T total_limit limits.0;
            sum = is;
            some = omega (arith, not_zero (sum_of xs) g);
            small = omega (arith, leb-true (sum_of xs) weight_limit limits.1);
          };
        }
    go true e true f true g q = apart q (cc)
    go true e false f c g q = apart q (cc)
    go false e b f c g q = apart q (cc)

pub weightless : (T : ℕ) (xs : List ℕ) (room : ℕ) → Ok None ≡ tested T xs room → (length xs ≤ room) × (sum_of xs ≡ 0)
unfolding tested
weightless T xs room q =
    go (leb (length xs) room) refl (leb T total_limit && leb (sum_of xs) weight_limit) (eqb (sum_of xs) 0) refl q
  where
    go : (a : Bool) → leb (length xs) room ≡ a → (b c : Bool) → eqb (sum_of xs) 0 ≡ c →
        Ok None ≡ cond a (cond b (cond c (Ok None) (Ok (Some (sum_of xs)))) (Err WrongCount)) (Err TooShort) → (length xs ≤ room) × (sum_of xs ≡ 0)
    go true e true true g q = (leb-true (length xs) room e, eqb-true (sum_of xs) 0 g)
    go true e true false g q = apart q (cc)
    go true e false c g q = apart q (cc)
    go false e b c g q = apart q (cc)

-- a test that is no refusal
pub record Fitted (T : ℕ) (xs : List ℕ) (room : ℕ) : Type 0 where
  pub roomy : length xs ≤ room
  pub unplaced_is : ℕ
  pub told : share_reply T xs room ≡ taken unplaced_is

pub fitted : (T : ℕ) (xs : List ℕ) (room : ℕ) (test : Option ℕ) → Ok test ≡ tested T xs room → Fitted T xs room
fitted T xs room (Some W) e =
    record { roomy = (passed T xs room e).roomy; unplaced_is = 0; told = tests_tell T xs room ∙ ap (found T) (sym e) }
fitted T xs room None e =
    record { roomy = (weightless T xs room e).0; unplaced_is = T; told = tests_tell T xs room ∙ ap (found T) (sym e) }

-- how the promise is met: by what the tests find
pub met : (sign : ℕ → ℤ) (T : ℕ) (xs : List ℕ) (old : List ℤ) {r : Result ℕ Refusal} {new : List ℤ} (t : Result (Option ℕ) Refusal) → t ≡ tested T xs (length old) →
    r ≡ answered (found T t) → new ≡ where_taken (found T t) (filled (length xs) (λ i. sign (share_of T xs i)) old) old → SharedOut sign T xs old r new
met sign T xs old t e f g =
    let same : found T t ≡ share_reply T xs (length old) = ap (found T) e ∙ sym (tests_tell T xs (length old)) in
    record {
      reply = f ∙ ap answered same;
      amounts = g ∙ ap (λ (y : Reply ℕ). where_taken y (filled (length xs) (λ i. sign (share_of T xs i)) old) old) same;
    }
