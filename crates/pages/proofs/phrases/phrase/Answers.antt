-- Each single number's phrase is computed; a range has one phrase, and what is left is unknown.
use mathlib.Core.Path.{◌≡◌, sym, ap}
use mathlib.Core.Bool.{false}
use mathlib.Core.List.{List}
use Prim.Native.Nat.{ℕ}
use native.Mathlib.Omega.{arith}
use Rattle.rules.specs.Text.{text}
use Rattle.rules.specs.Panel.{repeated, at_left}
use Rattle.rules.specs.Phrases.{phrase, between}
use Rattle.pages.proofs.PhraseLaws.{below_range, above_range, phrase_frequency, phrase_unit, NoSingle, phrase_unknown}
use Rattle.pages.proofs.phrases.phrase.Goals as goal
use Rattle.pages.proofs.phrases.phrase.Goals.{in_default-via-then-number-lt71, in_default-via-else-number-lt71+else-number-lt75+then-number-lt81, in_default-via-else-number-lt71+else-number-lt75+else-number-lt81+else-number-lt85}

-- a number's line, from an equal number and from the phrase
abbrev line : ℕ → List ℕ
line n = at_left 20 (phrase n)

pub returns-in-1 : goal.returns-in-1
unfolding text repeated phrase
returns-in-1 c = ap line (sym c.in-1.is)

pub returns-in-2 : goal.returns-in-2
unfolding text repeated phrase
returns-in-2 c = ap line (sym c.in-2.is)

pub returns-in-3 : goal.returns-in-3
unfolding text repeated phrase
returns-in-3 c = ap line (sym c.in-3.is)

pub returns-in-4 : goal.returns-in-4
unfolding text repeated phrase
returns-in-4 c = ap line (sym c.in-4.is)

pub returns-in-5 : goal.returns-in-5
unfolding text repeated phrase
returns-in-5 c = ap line (sym c.in-5.is)

pub returns-in-6 : goal.returns-in-6
unfolding text repeated phrase
returns-in-6 c = ap line (sym c.in-6.is)

pub returns-in-9 : goal.returns-in-9
unfolding text repeated phrase
returns-in-9 c = ap line (sym c.in-9.is)

pub returns-in-10 : goal.returns-in-10
unfolding text repeated phrase
returns-in-10 c = ap line (sym c.in-10.is)

pub returns-in-11 : goal.returns-in-11
unfolding text repeated phrase
returns-in-11 c = ap line (sym c.in-11.is)

pub returns-in-12 : goal.returns-in-12
unfolding text repeated phrase
returns-in-12 c = ap line (sym c.in-12.is)

pub returns-in-14 : goal.returns-in-14
unfolding text repeated phrase
returns-in-14 c = ap line (sym c.in-14.is)

pub returns-in-15 : goal.returns-in-15
unfolding text repeated phrase
returns-in-15 c = ap line (sym c.in-15.is)

pub returns-in-16 : goal.returns-in-16
unfolding text repeated phrase
returns-in-16 c = ap line (sym c.in-16.is)

pub returns-in-17 : goal.returns-in-17
unfolding text repeated phrase
returns-in-17 c = ap line (sym c.in-17.is)

pub returns-in-18 : goal.returns-in-18
unfolding text repeated phrase
returns-in-18 c = ap line (sym c.in-18.is)

pub returns-in-71-to-74 : goal.returns-in-71-to-74
unfolding text repeated
returns-in-71-to-74 c =
    sym (ap (at_left 20) (phrase_frequency c.args.number (omega arith) (omega arith)))

pub returns-in-81-to-84 : goal.returns-in-81-to-84
unfolding text repeated
returns-in-81-to-84 c =
    sym (ap (at_left 20) (phrase_unit c.args.number (omega arith) (omega arith)))

pub returns-in_default : goal.returns-in_default
unfolding text repeated
returns-in_default c =
    let n = c.args.number in
    let none : NoSingle n = record {
      not_one = omega arith;
      not_two = omega arith;
      not_three = omega arith;
      not_four = omega arith;
      not_five = omega arith;
      not_six = omega arith;
      not_nine = omega arith;
      not_ten = omega arith;
      not_eleven = omega arith;
      not_twelve = omega arith;
      not_fourteen = omega arith;
      not_fifteen = omega arith;
      not_sixteen = omega arith;
      not_seventeen = omega arith;
      not_eighteen = omega arith;
    } in
    -- neither range has it: before the first, between the two, or past the second
    let outside : (between 71 74 n ≡ false) × (between 81 84 n ≡ false) =
    elim c.in_default.branch [
      | in_default-via-then-number-lt71 w ↦ (below_range 71 74 n (omega arith), below_range 81 84 n (omega arith))
      | in_default-via-else-number-lt71+else-number-lt75+then-number-lt81 w ↦ (above_range 71 74 n (omega arith), below_range 81 84 n (omega arith))
      | in_default-via-else-number-lt71+else-number-lt75+else-number-lt81+else-number-lt85 w ↦ (above_range 71 74 n (omega arith), above_range 81 84 n (omega arith))
    ] in
    sym (ap (at_left 20) (phrase_unknown n none outside.0 outside.1))
