-- A BOOK'S LISTING COMES WHOLE OVER WORDS: where the words hold the tally of a taken book, what the calls from sixteen zeros on have written is the front of
-- the rules' listing, and each call gives of the rest, or writes no byte where nothing is left. The words that a call leaves hold the cursor that it comes to,
-- so that the calls over words are calls of `list`, one after another.
use mathlib.Core.Path.{◌≡◌, refl, sym, ◌∙◌, ap, subst}
use mathlib.Core.Bool.{true}
use mathlib.Core.List.{List, [], ◌∷◌, ◌++◌, append-nil}
use Prim.Native.Nat.{ℕ, zero, suc, ◌≤◌, ◌<◌}
use native.Mathlib.Omega.{arith}
use lib.ListN.{length, get_or, take, drop}
use lib.Dec.{leb}
use borrow.Author.Tests.{le-leb}
use Rattle.rules.specs.declared.Refusal.TheVariants.{WrongState, TooShort}
use Rattle.rules.specs.Refusals.{taken, unless}
use Rattle.rules.specs.Book.{Book}
use Rattle.rules.specs.Listing.{listing}
use Rattle.laws.proofs.RefusalLaws.{refusal_numbered}
use Rattle.interval.specs.declared.Tally.{Tally}
use Rattle.interval.specs.Tally.{units_end}
use Rattle.interval.specs.Lent.{Lent}
use Rattle.answer.specs.Promises.{Columns, columns_long}
use Rattle.lister.specs.declared.Cursor.{Cursor}
use Rattle.lister.specs.declared.Cursor.TheVariants as at
use Rattle.lister.specs.declared.Listed.{Listed}
use Rattle.lister.specs.declared.Listed.TheVariants.{Written, Nothing, Refused}
use Rattle.lister.specs.Promises.{ListPromise}
use Rattle.lister.specs.BookListed as one
use Rattle.lister.proofs.Promises.{nothing_writes_nothing}
use Rattle.lister.proofs.BookListed.{book_listed, whole_listed}
use Rattle.dullavane.specs.Words.{held}
use Rattle.dullavane.specs.Asked.{asked_tally, in_turn}
use Rattle.dullavane.specs.Called.{Called}
use Rattle.dullavane_listing.specs.Cursor.{cursor_words, cursor_words_of, cursor_at, words_fit, cursor_held}
use Rattle.dullavane_listing.specs.Called.{listed_number, listed_after, NextFits, ListingCalled}
use Rattle.dullavane_listing.specs.WordsListed.{first_words, written_in, Came, first, piece, again, GaveOf, some, none, no_room, WordsOnTheirWay}
use Rattle.dullavane_listing.proofs.CursorLaws.{cursor_again, held_at_once}
use Rattle.dullavane_listing.proofs.CalledLaws.{asked_of, listed_as}

-- ---- words
written_told : (n : ℕ) (at : Cursor) (ws : List ℕ) → written_in (cursor_words_of n at ws) ≡ n
written_told n at.Interval ws = refl
written_told n (at.Requirement k) ws = refl
written_told n (at.Answered k a) ws = refl
written_told n (at.Members k a row before) ws = refl

no_refusal : {n m : ℕ} → 0 < n → m ≡ n → m ≡ 0 → ⊥
no_refusal h e z = omega (arith, h, e, z)

-- the first word is not read
same_cursor : (n x y : ℕ) (ws : List ℕ) → cursor_at n (x ∷ ws) ≡ cursor_at n (y ∷ ws)
same_cursor zero x y ws = refl
same_cursor (suc zero) x y ws = refl
same_cursor (suc (suc zero)) x y ws = refl
same_cursor (suc (suc (suc n))) x y ws = refl

unread : (ws : List ℕ) {at : Cursor} → cursor_held ws ≡ taken at → cursor_held (0 ∷ drop 1 ws) ≡ taken at
unfolding cursor_held words_fit
unread (x ∷ ws) e =
    ap (λ (k : Cursor). unless (leb cursor_words (length (x ∷ ws))) TooShort (unless (words_fit (x ∷ ws)) WrongState (taken k)))
    (same_cursor (get_or ws 0 0) 0 x ws)
    ∙ e
unread [] e = let z : ◌≡◌ {A = ℕ} 0 1 = cc in absurd (omega arith)

first_held : (more : List ℕ) → cursor_held (first_words ++ more) ≡ taken at.Interval
first_held more = cursor_again 0 at.Interval (first_words ++ more) tt

module _ {b : Book} {t : Tally} {bytes : List ℕ} {l : Lent} (h : one.Taken b t bytes l) (ts : List ℕ) (in_words_lem : held ts ≡ taken t) where
  asked : asked_tally ts true true ≡ taken t
  unfolding asked_tally in_turn
  asked = rw (in_words_lem, h.tally, le-leb (units_end t) t.records (omega (arith, h.ended)))

  -- ---- a call over words that hold a cursor is a call of `list` from there
  record Calls (at : Cursor) (ws : List ℕ) (c : Columns) (old : List ℕ) (r : ℕ) (ws' : List ℕ) (c' : Columns) (new : List ℕ) : Type 0 where
    reply : Listed
    lists : ListPromise at t bytes l c old reply c' new
    fits : NextFits reply
    told : r ≡ listed_number reply
    words : ws' ≡ listed_after reply ws

  calls :
      {at : Cursor} {ws : List ℕ} {c : Columns} {old : List ℕ} {r : ℕ} {ws' : List ℕ} {c' : Columns} {new : List ℕ} → cursor_held ws ≡ taken at →
      ListingCalled ts ws bytes l c old r ws' c' new → Calls at ws c old r ws' c' new
  unfolding Called
  calls {ws = ws} e p =
      let s = rw (asked_of ts ws asked e) at p.answer in
      record {
        reply = s.step;
        lists = listed_as (sym (held_at_once ws e)) s.call.0;
        fits = s.call.1;
        told = s.reply;
        words = s.words;
      }

  -- ---- so calls over words from sixteen zeros on are calls of `list` from the first cursor on
  module _ (c₀ : Columns) where
    came :
        {ws : List ℕ} {c : Columns} {said : List ℕ} → Came ts bytes l c₀ ws c said →
        (at : Cursor) × (cursor_held ws ≡ taken at) × one.Reached t bytes l c₀ at c said
    came (first more) = (at.Interval, first_held more, one.first)
    came (piece {ws = ws} {ws' = ws'} {c = c} {c' = c'} {said = said} {old = old} {new = new} w p) =
        let ih = came w in
        let q = calls ih.1 p in
        go ih.0 ih.1 ih.2 q.reply q.lists q.fits q.told q.words
      where
        go :
            (at : Cursor) → cursor_held ws ≡ taken at → one.Reached t bytes l c₀ at c said → (s : Listed) → ListPromise at t bytes l c old s c' new →
            NextFits s → 0 ≡ listed_number s → ws' ≡ listed_after s ws →
            (x : Cursor) × (cursor_held ws' ≡ taken x) × one.Reached t bytes l c₀ x c' (said ++ take (written_in ws') new)
        go at e w (Written n next) q fits told words =
            let count : written_in ws' ≡ n = ap written_in words ∙ written_told n next ws in (
              next,
              ap cursor_held words ∙ cursor_again n next ws fits,
              subst (λ (m : ℕ). one.Reached t bytes l c₀ next c' (said ++ take m new)) (sym count) (one.piece w q),
            )
        go at e w Nothing q fits told words =
            let count : written_in ws' ≡ 0 = ap written_in words in
            let none : said ++ take (written_in ws') new ≡ said = ap (λ (m : ℕ). said ++ take m new) count ∙ append-nil said in (
              at,
              ap cursor_held words ∙ unread ws e,
              subst (λ (xs : List ℕ). one.Reached t bytes l c₀ at c' xs) (sym none)
                  (subst (λ (d : Columns). one.Reached t bytes l c₀ at d said) (sym (nothing_writes_nothing q).0) w),
            )
        go at e w (Refused why) q fits told words = absurd (no_refusal (refusal_numbered why) told refl)
    came (again {ws = ws} {ws' = ws'} {c = c} {c' = c'} {said = said} {old = old} {new = new} {r = r} w not p) =
        let ih = came w in
        let q = calls ih.1 p in
        go ih.0 ih.1 ih.2 q.reply q.lists q.told q.words
      where
        go :
            (at : Cursor) → cursor_held ws ≡ taken at → one.Reached t bytes l c₀ at c said → (s : Listed) → ListPromise at t bytes l c old s c' new →
            r ≡ listed_number s → ws' ≡ listed_after s ws → (x : Cursor) × (cursor_held ws' ≡ taken x) × one.Reached t bytes l c₀ x c' said
        go at e w (Written n next) q told words = absurd (not told)
        go at e w Nothing q told words = absurd (not told)
        go at e w (Refused why) q told words = (at, ap cursor_held words ∙ e, one.again w q)

    module _ (long : columns_long t.units c₀ ≡ true) where
      -- WHEREVER THE CALLS HAVE COME, the front of the listing is written, and the next call gives of the rest
      pub words_listed : {ws : List ℕ} {c : Columns} {said : List ℕ} → Came ts bytes l c₀ ws c said → WordsOnTheirWay b ts bytes l ws c said
      words_listed {ws} {c} w =
          let k = came w in
          let d = book_listed h c₀ long k.2 in
          record { rest = d.rest; whole = d.whole; gives = λ p. let q = calls k.1 p in go q.told q.words (d.gives q.lists) }
        where
          go :
              {rest old new : List ℕ} {r : ℕ} {s : Listed} {ws' : List ℕ} {c' : Columns} → r ≡ listed_number s → ws' ≡ listed_after s ws →
              one.GivenOf rest c old s c' new → GaveOf rest ws c old r ws' c' new
          go {rest} {old} {new} {r} {s} {ws'} told words (one.some n next reply above fits front inside past) =
              let count : n ≡ written_in ws' =
              sym (ap written_in (words ∙ ap (λ (x : Listed). listed_after x ws) reply) ∙ written_told n next ws) in
              some (told ∙ ap listed_number reply) (subst (λ (m : ℕ). 0 < m) count above) (subst (λ (m : ℕ). m ≤ length old) count fits)
              (subst (λ (m : ℕ). take m new ≡ take m rest) count front) (subst (λ (m : ℕ). m ≤ length rest) count inside)
              (subst (λ (m : ℕ). drop m new ≡ drop m old) count past)
          go told words (one.none reply left columns text) =
              let w = words ∙ ap (λ (x : Listed). listed_after x ws) reply in
              none (told ∙ ap listed_number reply) (ap written_in w) left (ap (λ (xs : List ℕ). drop 1 xs) w) columns text
          go told words (one.no_room reply room columns text) =
              no_room (told ∙ ap listed_number reply) room (words ∙ ap (λ (x : Listed). listed_after x ws) reply) columns text

      -- WHERE A CALL IS ANSWERED AND WRITES NO BYTE the whole listing is written
      pub words_whole :
          {ws ws' : List ℕ} {c c' : Columns} {said old new : List ℕ} → Came ts bytes l c₀ ws c said → ListingCalled ts ws bytes l c old 0 ws' c' new →
          written_in ws' ≡ 0 → said ≡ listing b
      words_whole {said = said} w p e =
          let d = words_listed w in
          sym (d.whole ∙ ap (λ (xs : List ℕ). said ++ xs) (ended (d.gives p) e) ∙ append-nil said)
        where
          ended :
              {rest ws old ws' new : List ℕ} {c c' : Columns} → GaveOf rest ws c old 0 ws' c' new → written_in ws' ≡ 0 → rest ≡ []
          ended (some told above fits front inside past) z = absurd (omega (arith, above, z))
          ended (none told count left words columns text) z = left
          ended (no_room told room words columns text) z = absurd (omega (arith, told))

      -- and then every call writes no byte, in whatever text
      pub whole_words :
          {ws ws' : List ℕ} {c c' : Columns} {said old new : List ℕ} {r : ℕ} → Came ts bytes l c₀ ws c said → said ≡ listing b →
          ListingCalled ts ws bytes l c old r ws' c' new → (r ≡ 0) × (written_in ws' ≡ 0)
      whole_words {ws = ws} w e p =
          let k = came w in
          let q = calls k.1 p in
          let n = whole_listed h c₀ long k.2 e q.lists in
          (q.told ∙ ap listed_number n, ap written_in (q.words ∙ ap (λ (x : Listed). listed_after x ws) n))
