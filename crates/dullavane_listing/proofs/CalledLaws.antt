-- Laws of the definitions in specs/Called.antt: the call's promise allows no two answers; and what its proof cites.
use mathlib.Core.Path.{◌≡◌, refl, sym, ◌∙◌, ap, subst}
use mathlib.Core.Bool.{true}
use mathlib.Core.List.{List}
use Prim.Native.Nat.{ℕ}
use Rattle.rules.specs.Refusals.{Reply, taken, refused, ◌>>=◌}
use Rattle.interval.specs.declared.Tally.{Tally}
use Rattle.interval.specs.Lent.{Lent}
use Rattle.answer.specs.Promises.{Columns}
use Rattle.lister.specs.declared.Cursor.{Cursor}
use Rattle.lister.specs.declared.Listed.{Listed}
use Rattle.lister.specs.Promises.{ListPromise}
use Rattle.lister.proofs.Promises.{list_only}
use Rattle.dullavane.specs.Words.{held, Held, reply_number}
use Rattle.dullavane.specs.Asked.{asked_tally, held_or_none}
use Rattle.dullavane.proofs.Called.{called_only}
use Rattle.dullavane_listing.specs.Cursor.{cursor_held}
use Rattle.dullavane_listing.specs.Called.{listed_number, listed_after, beside, listing_tally, ListingCalled}

pub dullavane_listing_only :
    {ts ws bytes : List ℕ} {l : Lent} {c : Columns} {old : List ℕ} {r r₂ : ℕ} {ws' ws₂ : List ℕ} {c' c₂ : Columns} {new new₂ : List ℕ} →
    ListingCalled ts ws bytes l c old r ws' c' new → ListingCalled ts ws bytes l c old r₂ ws₂ c₂ new₂ → (r ≡ r₂) × (ws' ≡ ws₂) × (c' ≡ c₂) × (new ≡ new₂)
dullavane_listing_only {ws = ws} {c = c} {old = old} {c' = c'} {c₂ = c₂} {new = new} {new₂ = new₂} a b =
    let same =
    called_only listed_number listed_after _ _ ((c' ≡ c) × (new ≡ old)) ((c₂ ≡ c) × (new₂ ≡ old)) ((c' ≡ c₂) × (new ≡ new₂))
    (λ t s s₂ x y. let o = list_only x.0 y.0 in (o.0, (o.1, o.2))) (λ x y. (x.0 ∙ sym y.0, x.1 ∙ sym y.1)) ws
    _ _ _ _ _ a.answer b.answer in
    (same.0, same.1, same.2.0, same.2.1)

-- ---- the tally that is asked, by what the words hold
pub tally_read : (ts : List ℕ) {t : Tally} → Held ts → t ≡ held_or_none (held ts) → held ts ≡ taken t
tally_read ts h e = h.tally ∙ ap taken (sym (e ∙ ap held_or_none h.tally))

pub unasked : (ts ws : List ℕ) {r : ℕ} → r ≡ reply_number (asked_tally ts true true) → (r ≡ 0 → ⊥) → r ≡ reply_number (listing_tally ts ws)
unfolding listing_tally
unasked ts ws e some = e ∙ go (asked_tally ts true true) (λ z. some (e ∙ z))
  where
    go : (y : Reply Tally) → (reply_number y ≡ 0 → ⊥) → reply_number y ≡ reply_number (y >>= beside (cursor_held ws))
    go (taken t) some = absurd (some refl)
    go (refused r) some = refl

module _ (ts ws : List ℕ) {t : Tally} (asked : asked_tally ts true true ≡ taken t) where
  beside_told : (x : Reply Cursor) → reply_number x ≡ reply_number (beside x t)
  beside_told (taken at) = refl
  beside_told (refused r) = refl

  pub unheld : {r : ℕ} → r ≡ reply_number (cursor_held ws) → r ≡ reply_number (listing_tally ts ws)
  unfolding listing_tally
  unheld e = rw asked (e ∙ beside_told (cursor_held ws))

  pub asked_of : {at : Cursor} → cursor_held ws ≡ taken at → listing_tally ts ws ≡ taken t
  unfolding listing_tally
  asked_of e = rw (asked, e)

-- a piece from the cursor that the words say
pub listed_as :
    {at at₂ : Cursor} {t : Tally} {bytes : List ℕ} {l : Lent} {c c' : Columns} {old new : List ℕ} {r : Listed} → at ≡ at₂ →
    ListPromise at t bytes l c old r c' new → ListPromise at₂ t bytes l c old r c' new
listed_as {t = t} {bytes = bytes} {l = l} {c = c} {c' = c'} {old = old} {new = new} {r = r} e p =
    subst (λ (x : Cursor). ListPromise x t bytes l c old r c' new) e p
