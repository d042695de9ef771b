-- Laws of how far a listing has come: a run behind a run, a line, a move that says none, and a halt.
use mathlib.Core.Path.{◌≡◌, sym, ◌∙◌, ap, subst}
use mathlib.Core.List.{List, [], ◌++◌, append_assoc, append-nil}
use Prim.Native.Nat.{ℕ, ◌+◌, ◌-◌, ◌≤◌, ◌<◌}
use native.Mathlib.Decide.{dec_le}
use native.Mathlib.Omega.{arith}
use lib.ListN.{length, take, drop, length-append, take-append-drop}
use Rattle.interval.specs.declared.Tally.{Tally}
use Rattle.interval.specs.Lent.{Lent}
use Rattle.answer.specs.Promises.{Columns}
use Rattle.lister.specs.declared.Cursor.{Cursor}
use Rattle.lister.specs.declared.Halt.{Halt}
use Rattle.lister.specs.declared.Halt.TheVariants as halt
use Rattle.lister.specs.declared.Step.{Step}
use Rattle.lister.specs.Move.{moves, move}
use Rattle.lister.specs.Promises.{Goes, stays, and_then}
use Rattle.lister.specs.Said.{Said}
use Rattle.lister.specs.Steps.{Halted, Runs}
use Rattle.lister.proofs.SaidLaws.{with_lines_at, same_size, lines_behind}

nothing_written : (done : ℕ) (old : List ℕ) → old ≡ with_lines_at done [] old
nothing_written done old = sym (ap (λ (k : ℕ). take done old ++ drop k old) (omega_zero done) ∙ take-append-drop done old)
  where
    omega_zero : (n : ℕ) → n + 0 ≡ n
    omega_zero n = omega arith

-- ---- a line has room or none, as its length told says
said_none : {line old new : List ℕ} {done r : ℕ} → Said line done old r new → r ≡ 0 → length old < done + length line
said_none {line} {old} {done = done} w e = go (dec_le (done + length line) (length old))
  where
    go : Dec (done + length line ≤ length old) → length old < done + length line
    go (yes h) = absurd (omega (arith, (w.said h).0, e, w.some))
    go (no h) = omega arith

pub said_some : {line old new : List ℕ} {done r : ℕ} → Said line done old r new → (r ≡ 0 → ⊥) → done + length line ≤ length old
said_some {line} {old} {done = done} w e = go (dec_le (done + length line) (length old))
  where
    go : Dec (done + length line ≤ length old) → done + length line ≤ length old
    go (yes h) = h
    go (no h) = absurd (e (w.unsaid (omega arith)).0)

-- in either case no more is said than has room
pub said_within : {line old new : List ℕ} {done r : ℕ} → Said line done old r new → done ≤ length old → done + r ≤ length old
said_within {line} {old} {done = done} {r = r} w h = go (dec_le (done + length line) (length old))
  where
    go : Dec (done + length line ≤ length old) → done + r ≤ length old
    go (yes k) = omega (arith, (w.said k).0, k)
    go (no k) = omega (arith, (w.unsaid (omega arith)).0, h)

-- and the text stays as long as it was
pub said_fits : {line old new : List ℕ} {done r : ℕ} → Said line done old r new → done ≤ length old → done + r ≤ length new
said_fits {line} {old} {new} {done} {r} w h = go (dec_le (done + length line) (length old))
  where
    go : Dec (done + length line ≤ length old) → done + r ≤ length new
    go (yes k) = omega (arith, (w.said k).0, k, ap length (w.said k).1 ∙ same_size done line old k)
    go (no k) = omega (arith, (w.unsaid (omega arith)).0, ap length (w.unsaid (omega arith)).1, h)

module _ {t : Tally} {bytes : List ℕ} {l : Lent} where
  pub goes_then :
      {at mid last : Cursor} {c c₁ c₂ : Columns} {first second : List ℕ} → Goes t bytes l at c first mid c₁ → Goes t bytes l mid c₁ second last c₂ →
      Goes t bytes l at c (first ++ second) last c₂
  goes_then stays g = g
  goes_then {at} {mid} {last} {c} {c₁} {c₂} {second = second} (and_then {line = line} {lines = lines} e f) g =
      subst (λ (x : List ℕ). Goes t bytes l at c x last c₂) (sym (append_assoc line lines second)) (and_then e (goes_then f g))

  goes_once : {at next : Cursor} {c c₁ : Columns} {line : List ℕ} → move t bytes l at c ≡ moves line next c₁ → Goes t bytes l at c line next c₁
  goes_once {at} {next} {c} {c₁} {line} e = subst (λ (x : List ℕ). Goes t bytes l at c x next c₁) (append-nil line) (and_then e stays)

  -- a run leaves a text as long as it was
  pub run_size : {at : Cursor} {c c' : Columns} {done : ℕ} {old new : List ℕ} {s : Step} → Runs t bytes l at c done old s c' new → length new ≡ length old
  run_size {done = done} {old = old} r = ap length r.text ∙ same_size done r.lines old (omega (arith, r.count, r.fits))

  -- one run behind another
  pub run_then :
      {at : Cursor} {c c₁ c₂ : Columns} {done : ℕ} {old mid new : List ℕ} {s s' : Step} → Runs t bytes l at c done old s c₁ mid →
      Runs t bytes l s.at c₁ s.done mid s' c₂ new → Runs t bytes l at c done old s' c₂ new
  run_then {at} {c} {c₁} {c₂} {done} {old} {mid} {new} {s} {s'} p q =
      let long = length-append p.lines q.lines in
      let within : done + length p.lines ≤ length old = omega (arith, p.count, p.fits) in
      record {
        lines = p.lines ++ q.lines;
        goes = goes_then p.goes q.goes;
        count = omega (arith, p.count, q.count, long);
        fits = omega (arith, q.fits, run_size p);
        text =
            q.text ∙ ap (λ (k : ℕ). with_lines_at k q.lines mid) p.count
            ∙ ap (with_lines_at (done + length p.lines) q.lines) p.text ∙ lines_behind done p.lines q.lines old within;
        halts = subst (λ (n : ℕ). Halted s'.halt (n - s'.done) (move t bytes l s'.at c₂)) (run_size p) q.halts;
      }

  -- one line that has room
  pub run_said :
      {at next : Cursor} {c c₁ : Columns} {line : List ℕ} {done r : ℕ} {old new : List ℕ} → move t bytes l at c ≡ moves line next c₁ →
      Said line done old r new → done + length line ≤ length old →
      Runs t bytes l at c done old (record { at = next; done = done + r; halt = halt.On }) c₁ new
  run_said {line = line} {done = done} {r = r} {old = old} e w fits =
      let x = w.said fits in
      record { lines = line; goes = goes_once e; count = ap (λ (k : ℕ). done + k) x.0; fits = omega (arith, x.0); text = x.1; halts = tt }

  -- a move that says no line
  pub run_silent :
      {at next : Cursor} {c c₁ : Columns} {done : ℕ} {old : List ℕ} → move t bytes l at c ≡ moves [] next c₁ → done ≤ length old →
      Runs t bytes l at c done old (record { at = next; done = done; halt = halt.On }) c₁ old
  run_silent {done = done} {old = old} e fits =
      record { lines = []; goes = goes_once e; count = omega arith; fits = fits; text = nothing_written done old; halts = tt }

  -- no move at all
  pub run_halts :
      {at : Cursor} {c : Columns} {done : ℕ} {old : List ℕ} (h : Halt) → done ≤ length old → Halted h (length old - done) (move t bytes l at c) →
      Runs t bytes l at c done old (record { at = at; done = done; halt = h }) c old
  run_halts {done = done} {old = old} h fits why =
      record { lines = []; goes = stays; count = omega arith; fits = fits; text = nothing_written done old; halts = why }

  -- a line that has no room halts it
  pub run_full :
      {at next : Cursor} {c c₁ : Columns} {line : List ℕ} {done r : ℕ} {old new : List ℕ} → move t bytes l at c ≡ moves line next c₁ →
      Said line done old r new → r ≡ 0 → done ≤ length old →
      Runs t bytes l at c done old (record { at = at; done = done; halt = halt.Full }) c new
  run_full {at} {next} {c} {c₁} {line} {done} {old = old} {new = new} e w z fits =
      let k = said_none w z in
      let same : old ≡ new = sym (w.unsaid k).1 in
      subst (λ (x : List ℕ). Runs t bytes l at c done old (record { at = at; done = done; halt = halt.Full }) c x) same
      (run_halts halt.Full fits (record { line = line; next = next; columns = c₁; comes = e; longer = omega (arith, k, fits) }))
