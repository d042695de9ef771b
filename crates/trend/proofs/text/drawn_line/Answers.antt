-- A unit's record was read, so its deviations are within the limit, and so is their span.
use mathlib.Core.Path.{◌≡◌, sym, ◌∙◌, ap, subst}
use mathlib.Core.List.{List}
use Prim.Native.Nat.{ℕ, ◌<◌}
use native.Mathlib.Omega.{arith}
use borrow.Author.Rules.{sfits_of}
use lib.IntN.{ℤ, pos}
use lib.ListN.{get_or}
use mir.Syntax.{w64}
use mir.Val.{SFits, to_z, of_z}
use mir.Facts.{to_z-of_z}
use Rattle.integers.specs.Bounds.{Within}
use Rattle.integers.proofs.Fills.{filled_at}
use Rattle.rules.specs.Quantities.{points, deviation_limit}
use Rattle.trend.specs.declared.numbers.Span.{Span}
use Rattle.book.specs.Unit.{reading_at}
use Rattle.strip.specs.Drawing.{deviated}
use Rattle.trend.specs.Spans.{spanned, Spans}
use Rattle.trend.proofs.SpansLaws.{Spanned, spans_all, read_within}
use Rattle.trend.proofs.text.drawn_line.Goals as goal
use Rattle.trend.proofs.text.drawn_line.Goals.{After-span_of-span, After-struct_told-1, After-struct_told-2-1, After-struct_told-3-1, Start}

module _ (p : After-span_of-span) where
  abbrev s : Start
  s = (goal.at.After-span_of-span p).Start

  abbrev dev : ℕ → ℤ
  dev t = get_or p.write_deviations.new.deviations t (pos 0)

  abbrev of_unit : ℕ → ℤ
  of_unit = deviated s.args.fields (reading_at s.args.part.now)

  written : (t : ℕ) → t < points → dev t ≡ of_unit t
  written t h = ap (λ (l : List ℤ). get_or l t (pos 0)) p.write_deviations.ensures ∙ filled_at points of_unit _ t (pos 0) h h

  within : (t : ℕ) → t < points → Within deviation_limit (dev t)
  within t h = subst (Within deviation_limit) (sym (written t h)) (read_within s.args.fields s.args.part.now s.requires t h)

  spans : Spanned deviation_limit dev 74
  spans = spans_all deviation_limit dev 74 (λ t h. within t (omega arith))

  span_is : p.span_of-span.result ≡ spanned 74 dev
  span_is = p.span_of-span.ensures

  -- a number of the span, as it is read again
  of_span : (g : Span → ℤ) → SFits w64 (g p.span_of-span.result) → Within deviation_limit (g (spanned 74 dev)) →
      Within deviation_limit (to_z w64 (of_z w64 (g p.span_of-span.result)))
  of_span g f w = rw (to_z-of_z f, span_is) w

  all_spans : (t : ℕ) → t < 75 → Spans p.span_of-span.result.lowest p.span_of-span.result.highest (dev t)
  all_spans t h =
      rw span_is
      (record {
        low = spans.low t (omega arith);
        high = spans.high t (omega arith);
        lowest_fits = spans.lowest;
        highest_fits = spans.highest;
        fits = within t h;
      })

-- the span, seen from where its numbers are put
abbrev lowest_told : After-struct_told-1 → After-span_of-span
lowest_told c = (goal.at.After-struct_told-1 c).After-span_of-span

abbrev highest_told : After-struct_told-2-1 → After-span_of-span
highest_told c = lowest_told (goal.at.After-struct_told-2-1 c).After-struct_told-1

abbrev last_told : After-struct_told-3-1 → After-span_of-span
last_told c = highest_told (goal.at.After-struct_told-3-1 c).After-struct_told-2-1

pub put_megawatts-at-requires : goal.put_megawatts-at-requires
put_megawatts-at-requires c = let p = lowest_told (goal.at.put_megawatts-at-requires c).After-struct_told-1 in of_span p (λ r. r.lowest) (sfits_of c.type_inv.span.0.1) (spans p).lowest

pub put_megawatts-at-requires-2 : goal.put_megawatts-at-requires-2
put_megawatts-at-requires-2 c = let p = highest_told (goal.at.put_megawatts-at-requires-2 c).After-struct_told-2-1 in of_span p (λ r. r.highest) (sfits_of c.type_inv.span.1.0.1) (spans p).highest

pub put_megawatts-at-requires-3 : goal.put_megawatts-at-requires-3
put_megawatts-at-requires-3 c = let p = last_told (goal.at.put_megawatts-at-requires-3 c).After-struct_told-3-1 in of_span p (λ r. r.last) (sfits_of c.type_inv.span.1.1.0.1) (spans p).last

pub put_strip-at-requires : goal.put_strip-at-requires
put_strip-at-requires c t h =
    let p = last_told (goal.at.put_strip-at-requires c).After-struct_told-3-1 in
    rw (to_z-of_z (sfits_of c.type_inv.span.0.1), to_z-of_z (sfits_of c.type_inv.span.1.0.1)) (all_spans p t h)
