-- Laws of the definitions in specs/Shares.antt.
use Rattle.std.specs.Prelude.{Result, Ok, Err}
use Rattle.answer.specs.declared.shares.Paid.{Paid}
use mathlib.Core.Path.{◌≡◌, sym, ◌∙◌, ap, ap₂}
use mathlib.Core.Bool.{Bool}
use mathlib.Core.List.{List, map}
use Prim.Native.Nat.{ℕ, ◌≤◌, ◌<◌}
use native.Mathlib.Omega.{arith}
use lib.Dec.{eqb}
use lib.IntN.{ℤ, nat_abs}
use lib.ListN.{length, take, length-map}
use borrow.Author.Tests.{le-leb}
use Rattle.integers.specs.Pairs.{gain, loss}
use Rattle.integers.specs.Fills.{filled}
use Rattle.integers.proofs.Totals.{totalℕ_map, totalℕ_≤, total_indexes}
use Rattle.rules.specs.declared.Direction.{Direction}
use Rattle.rules.specs.declared.Refusal.{Refusal}
use Rattle.rules.specs.Quantities.{total_limit, weight_limit, billion}
use Rattle.rules.specs.Cents.{any_weight}
use Rattle.rules.specs.Refusals.{Reply, taken}
use Rattle.rules.specs.Share.{weight_sum, weight_at, share_of, unplaced_of, share_reply}
use Rattle.interval.specs.Lent.{Lent}
use Rattle.share.specs.Promises.{debit, answered, where_taken, SharedOut}
use Rattle.share.specs.Signs.{signs_at, answered_signs, SignsOut}
use Rattle.answer.specs.declared.Field.{Field}
use Rattle.answer.specs.declared.Field.TheVariants.{Payment}
use Rattle.answer.specs.declared.Member.{Member}
use Rattle.answer.proofs.Lists.{headed_length, headed_take}
use Rattle.answer.specs.Values.{MembersThere, Listed, numbers}
use Rattle.answer.proofs.ValuesLaws.{numbers_few}
use Rattle.answer.proofs.Weights.{members_size}
use Rattle.answer.specs.Pools.{pool_cents}
use Rattle.answer.proofs.PoolsLaws.{placed_by_weight}
use Rattle.answer.specs.Shares.{Charged, MembersCharged, MembersPaid, PoolPaid, SignsShared, Shareable, pool_over}

pub fits_taken :
    {T : ℕ} {side : ℤ → ℕ} {ps : List ℤ} {n : ℕ} → Shareable T side ps n → share_reply T (map side ps) n ≡ taken (unplaced_of T (map side ps))
unfolding share_reply
fits_taken {T} {side} {ps} {n} h =
    let ws = map side ps in
    rw (
      le-leb (length ws) n h.long,
      le-leb T total_limit h.total,
      le-leb (weight_sum (length ws) (weight_at ws)) weight_limit (rw (total_indexes ws) h.weights),
    )

pub charged :
    {T : ℕ} {ps old : List ℤ} {r : Result ℕ Refusal} {new : List ℤ} → Shareable T loss ps (length old) → SharedOut debit T (map loss ps) old r new →
    Charged T ps old r new
charged {T} {ps} {old} h p =
    record {
      reply = p.reply ∙ ap answered (fits_taken h);
      amounts =
          p.amounts
          ∙ ap (λ (y : Reply ℕ). where_taken y (filled (length (map loss ps)) (λ i. debit (share_of T (map loss ps) i)) old) old) (fits_taken h);
    }

pub signs_shared :
    {T : ℕ} {ps old : List ℤ} {r : Result (ℕ × ℕ) Refusal} {new : List ℤ} → Shareable T gain ps (length old) → Shareable T loss ps (length old) →
    SignsOut T ps old r new → SignsShared T ps old r new
signs_shared {T} {ps} {old} g h p =
    record {
      reply = p.reply ∙ ap₂ answered_signs (fits_taken g) (fits_taken h);
      amounts =
          p.amounts
          ∙ ap₂ (λ (a b : Reply ℕ). where_taken a (where_taken b (filled (length ps) (signs_at T ps) old) old) old) (fits_taken g) (fits_taken h);
    }

-- what of either side is unplaced
abbrev placed : Result (ℕ × ℕ) Refusal → ℕ × ℕ
placed (Ok sides) = sides
placed (Err r) = (0, 0)

-- so no refusal is passed on
pub not_refused : {A : Type 0} {u v : ℕ} (x : Refusal) → ◌≡◌ {A = Result (ℕ × ℕ) Refusal} (Err x) (Ok (u, v)) → A
not_refused x e = let z : ◌≡◌ {A = ℕ} 0 1 = cc in absurd (omega arith)

-- ---- over the members of a requirement
module _ {f : Field} {units : ℕ} {d : Direction} {set : ℕ} {l : Lent} {residual : Member} {old new : List ℤ} {r : ℕ}
    (h : MembersThere units d set l residual (length old)) (k : Listed f units d set l old r new) where
  abbrev all : List ℤ
  all = numbers f units d set l

  -- what stands at the front of a column that lists them
  pub front : (r ≤ length new) × (take r new ≡ all)
  front =
      let few : length all ≤ length old = omega (arith, numbers_few f units d set l, h.column) in (
        omega (arith, k.many, ap length k.column, headed_length all old),
        ap₂ (λ (m : ℕ) (c : List ℤ). take m c) k.many k.column ∙ headed_take all old few,
      )

  -- a share over them keeps its limits
  pub front_shareable : (T : ℕ) (side : ℤ → ℕ) → ((z : ℤ) → side z ≤ nat_abs z) → T ≤ total_limit → (n : ℕ) → units < n → Shareable T side (take r new) n
  front_shareable T side le t n m =
      rw front.1
      (record {
        total = t;
        weights = rw (totalℕ_map (λ w. w) side all) (omega (arith, totalℕ_≤ side nat_abs le all, members_size units l h.tested f d set h.five));
        long = omega (arith, length-map all side, numbers_few f units d set l);
      })

  pub members_513 : r ≤ 513
  members_513 = omega (arith, k.many, numbers_few f units d set l, h.tested.regions.performances.raise.few)

  pub members_charged : {T : ℕ} {u : Result ℕ Refusal} {was now : List ℤ} → Charged T (take r new) was u now → MembersCharged f T units d set l old was u new now
  members_charged c = let e = rw front.1 at c in record { reply = e.reply; column = k.column; amounts = e.amounts }

module _ {units : ℕ} {d : Direction} {set : ℕ} {l : Lent} {residual : Member} {old new : List ℤ} {r : ℕ}
    (h : MembersThere units d set l residual (length old)) (k : Listed Payment units d set l old r new) where
  pub members_paid :
      {price rcr a b pool : ℕ} {old₂ old₃ new₂ new₃ : List ℤ} {sides : Result (ℕ × ℕ) Refusal} {paying : Result Paid Refusal} → SignsShared billion (take r new) old₂ sides new₂ →
      sides ≡ Ok (a, b) → pool ≡ pool_cents price rcr (eqb a 0) (eqb b 0) → PoolPaid r pool (take r new) old₃ paying new₃ →
      MembersPaid price rcr units d set l old old₂ old₃ paying new new₂ new₃
  members_paid {price} {rcr} {a} {b} {pool} {old₂} {old₃} {new₂} {new₃} {sides} {paying} x e ep y =
      let vs = numbers Payment units d set l in
      let j = rw (front h k).1 at x in
      let m = rw (front h k).1 at y in
      let same = sym e ∙ j.reply in
      let ea : a ≡ unplaced_of billion (map gain vs) = ap (λ (z : Result (ℕ × ℕ) Refusal). (placed z).0) same in
      let eb : b ≡ unplaced_of billion (map loss vs) = ap (λ (z : Result (ℕ × ℕ) Refusal). (placed z).1) same in
      let up : eqb a 0 ≡ any_weight (map gain vs) = ap (λ (z : ℕ). eqb z 0) ea ∙ placed_by_weight billion (map gain vs) (omega arith) in
      let down : eqb b 0 ≡ any_weight (map loss vs) = ap (λ (z : ℕ). eqb z 0) eb ∙ placed_by_weight billion (map loss vs) (omega arith) in
      let is : pool ≡ pool_over price rcr vs = ep ∙ ap₂ (λ (s t : Bool). pool_cents price rcr s t) up down in
      record {
        reply = m.reply ∙ ap₂ (λ (i j : ℕ). Ok (record { members = i; pool = j })) k.many is;
        performances = k.column;
        factors = j.amounts;
        payments = m.payments ∙ ap (λ (z : ℕ). filled (length vs) (signs_at z vs) old₃) is;
      }
