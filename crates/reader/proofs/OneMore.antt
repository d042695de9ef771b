-- A record that its call has taken is one more of a chain, whatever part of the book it was handed.
use mathlib.Core.Path.{◌≡◌, refl, sym, ◌∙◌, ap, ap₂, subst}
use mathlib.Core.Bool.{Bool, cond}
use mathlib.Core.List.{List}
use Prim.Native.Nat.{ℕ, suc, ◌+◌, ◌<◌}
use native.Mathlib.Omega.{arith}
use lib.Dec.{eqb}
use borrow.Author.Tests.{eq-eqb, ne_eqb}
use Rattle.rules.specs.Contents.{Counts, contents_size}
use Rattle.interval.specs.declared.Tally.{Tally}
use Rattle.interval.specs.declared.Step.{Step}
use Rattle.interval.specs.Tally.{book_end}
use Rattle.interval.specs.Lent.{Lent}
use Rattle.chain.specs.Taken.{counts_in}
use Rattle.chain.specs.Chain.{Chain, Means, Taken}
use Rattle.chain.proofs.ChainTheorem.{chain}
use Rattle.chain.specs.Alike.{Alike}
use Rattle.chain.proofs.Alike.{whole}
use Rattle.chain.specs.Way.{Call, reads}
use Rattle.chain.proofs.Way.{chain_takes, chain_way, way_alike, way_chain}
use Rattle.reader.specs.Turns.{TurnPromise, counts_of}
use Rattle.reader.proofs.Turns.{turn_calls}

-- a chain says nothing of the parts behind its records
chain_parts :
    {head : List ℕ} {part part' : ℕ → List ℕ} {l₀ : Lent} {records : ℕ} {t : Tally} {l : Lent} → ((m : ℕ) → m < records → part m ≡ part' m) →
    Chain head part l₀ records t l → Chain head part' l₀ records t l
chain_parts {head} {part} {part'} {l₀} same d =
    way_chain head part' l₀
    (way_alike (whole contents_size head) (λ m h. subst (λ (p : List ℕ). Alike (reads (counts_in head) m) (part m) p) (same m h) (whole _ (part m)))
    (chain_way head part l₀ d))

-- one record more
pub record OneMore (t t' : Tally) : Type 0 where
  pub records : t'.records ≡ t.records + 1
  pub units : t'.units ≡ t.units
  pub requirements : t'.requirements ≡ t.requirements

module _ {head : List ℕ} {part : ℕ → List ℕ} {l₀ : Lent} {t : Tally} {l : Lent} (d : Chain head part l₀ t.records t l) where
  means : Means head part l₀ t.records t l
  means = chain d

  pub same_counts : counts_of t ≡ counts_in head
  same_counts = ap₂ (λ (u q : ℕ). record { units = u; requirements = q }) means.units means.requirements

  module _ (inside : t.records < book_end t) {p : List ℕ} {r : Step} {l' : Lent} (turn : TurnPromise t p l r l') where
    pub chain_calls : Call (counts_in head) p t.records t l r l'
    chain_calls = subst (λ (k : Counts). Call k p t.records t l r l') same_counts (turn_calls inside turn)

    -- what was handed on for each record, this one among them
    abbrev pub next_part : ℕ → List ℕ
    next_part m = cond (eqb m t.records) p (part m)

    before : (m : ℕ) → m < t.records → part m ≡ next_part m
    before m b = sym (ap (λ (x : Bool). cond x p (part m)) (ne_eqb m t.records (λ e. omega arith)))

    here : next_part t.records ≡ p
    here = ap (λ (x : Bool). cond x p (part t.records)) (eq-eqb t.records t.records refl)

    pub chain_next : Taken r → Chain head next_part l₀ (suc t.records) r.tally l'
    chain_next h =
        chain_takes head next_part l₀ (chain_parts {part' = next_part} before d)
        (subst (λ (q : List ℕ). Call (counts_in head) q t.records t l r l') (sym here) chain_calls) h

    pub one_more : Taken r → OneMore t r.tally
    one_more h =
        let m = chain (chain_next h) in
        record {
          records = omega (arith, m.records);
          units = m.units ∙ sym means.units;
          requirements = m.requirements ∙ sym means.requirements;
        }
