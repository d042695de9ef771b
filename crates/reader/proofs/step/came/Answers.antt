-- What came is held against what was wanted; what is there goes to its call.
use mathlib.Core.Path.{◌≡◌, refl, ◌∙◌, ap, subst}
use mathlib.Core.List.{List}
use Prim.Native.Nat.{ℕ, ◌+◌, ◌-◌}
use native.Mathlib.Omega.{arith}
use lib.ListN.{length, take, drop}
use Rattle.interval.specs.Lent.{Lent, lent_unit}
use Rattle.reader.specs.declared.Wanted.{Wanted}
use Rattle.reader.specs.declared.Came as n
use Rattle.reader.specs.Reading.{All, Some, TooMany, all, some, span_of, there_of, too_many, wanted_part, with_got}
use Rattle.reader.proofs.ReadingLaws.{handed_contents, handed_record, some_got, there_is}
use Rattle.reader.proofs.step.came.Goals as goal
use Rattle.reader.proofs.step.came.Goals.{After-wanted-place, Joined-count-gt0, Start, «then-count-gt0+else-until-to», else-count-gt0}

abbrev start_in : After-wanted-place → Start
start_in c = (goal.at.After-wanted-place c).Start

abbrev wanted_in_joined : Joined-count-gt0 → After-wanted-place
wanted_in_joined c = (goal.at.Joined-count-gt0 c).After-wanted-place

abbrev lent : After-wanted-place → Lent
lent c =
    let a = (start_in c).args in
    lent_unit a.measures.now a.sums.now a.figures.now a.numbers.now a.homes.now a.rows.now a.groups.now a.deviations.now

-- what is there of the record
abbrev there_in : Joined-count-gt0 → List ℕ
there_in c =
    let a = (start_in (wanted_in_joined c)).args in
    there_of (span_of a.reading a.alone) (wanted_part a.reading a.alone (length a.bytes.now)) a.count a.bytes.now

-- all came, or none
all_in : (c : Joined-count-gt0) → let a = (start_in (wanted_in_joined c)).args in All (wanted_part a.reading a.alone (length a.bytes.now)) a.count
all_in c =
    let w = wanted_in_joined c in
    subst (λ (x : Wanted). All x (start_in w).args.count) w.wanted-place.ensures.reply
    (omega (arith, c.if-to-place.false), elim c.if-count-gt0.branch [ «then-count-gt0+else-until-to» w ↦ λ h. omega (arith, w.if-until-to.false, c.if-to-place.false) | else-count-gt0 w ↦ λ h. absurd (omega (arith, w.if-count-gt0.false, h)) ])

part_in :
    (c : Joined-count-gt0) →
    let w = wanted_in_joined c in
    let a = (start_in w).args in
    let until = w.wanted-place.result.from + a.count in
    take (until - c.within-start.result) (drop c.within-start.result a.bytes.now) ≡ there_in c
part_in c =
    let w = wanted_in_joined c in
    let a = (start_in w).args in
    there_is (length a.bytes.now) a.count w.span-span.ensures.value w.wanted-place.ensures.reply c.within-start.ensures a.bytes.now

pub returns-then-to-place : goal.returns-then-to-place
returns-then-to-place c =
    let w = (goal.at.returns-then-to-place c).After-wanted-place in
    let a = (start_in w).args in
    let more = subst (λ (w : Wanted). TooMany w a.count) c.wanted-place.ensures.reply c.if-to-place.true in
    too_many more (ap n.TheVariants.Refused c.locate.ensures) (refl {a = lent w})

pub returns-then-until-to : goal.returns-then-until-to
returns-then-until-to c =
    let w = (goal.at.returns-then-until-to c).After-wanted-place in
    let a = (start_in w).args in
    let got = some_got (length a.bytes.now) a.count c.span-span.ensures.value c.wanted-place.ensures.reply c.within-start.ensures c.if-until-to.true in
    some (subst (λ (w : Wanted). Some w a.count) c.wanted-place.ensures.reply (omega (arith, c.if-count-gt0.true), c.if-until-to.true))
    (ap n.TheVariants.Wants (c.with_got.ensures ∙ ap (λ (g : ℕ). with_got g a.reading) got)) (refl {a = lent w})

pub returns-in-Contents : goal.returns-in-Contents
returns-in-Contents c =
    all (all_in (goal.at.returns-in-Contents c).Joined-count-gt0) (handed_contents (lent (wanted_in_joined (goal.at.returns-in-Contents c).Joined-count-gt0)) c.in-Contents.is (part_in (goal.at.returns-in-Contents c).Joined-count-gt0) c.«open».ensures)

pub returns-in-Record : goal.returns-in-Record
returns-in-Record c =
    all (all_in (goal.at.returns-in-Record c).Joined-count-gt0) (handed_record c.in-Record.is (part_in (goal.at.returns-in-Record c).Joined-count-gt0) c.take_record.ensures)
