-- The invariant: what has come is an input, and the reading of it a walk that wants more. Each turn that wants more again has come further.
use mathlib.Core.Path.{◌≡◌, sym, ◌∙◌, ap, subst}
use mathlib.Core.List.{List, []}
use Prim.Native.Nat.{ℕ, ◌-◌, ◌≤◌}
use native.Mathlib.Omega.{arith}
use lib.ListN.{length, take}
use Rattle.interval.specs.Tally.{book_end}
use Rattle.interval.specs.Lent.{Lent, lent_unit}
use Rattle.reader.specs.declared.Wanted.{Wanted}
use Rattle.reader.specs.declared.Came.{Came}
use Rattle.reader.specs.Reading.{CamePromise, wanted_part}
use Rattle.reader.specs.Arrives.{ReadFrom, starts}
use Rattle.reader.proofs.ReadsBook.{reads_size}
use Rattle.reader.proofs.ReadFrom.{read_falls, read_further}
use Rattle.intake.specs.declared.whole.Next as n
use Rattle.intake.specs.declared.whole.Next.{Next}
use Rattle.intake.specs.Came.{ReadTo, TakenTo}
use Rattle.intake.proofs.Came.{read_took, room_for}
use Rattle.intake.proofs.whole.take_book.Goals as goal
use Rattle.intake.proofs.whole.take_book.Goals.{After-came-said}
use Rattle.intake.proofs.whole.take_book.Given.{Over}

-- a turn's call, seen from behind it
module _ (g : Over) (c : After-came-said g) where
  abbrev lent : Lent
  lent =
      let a = c.args in
      lent_unit a.measures.now a.sums.now a.figures.now a.numbers.now a.homes.now a.rows.now a.groups.now a.deviations.now

  -- the place and the lists behind the call
  abbrev place : List ℕ
  place = c.read_between-got.new.bytes

  abbrev lists : Lent
  lists = let l = c.came-said.new in lent_unit l.measures l.sums l.figures l.numbers l.homes l.rows l.groups l.deviations

  abbrev loop_lists : Lent
  loop_lists = let l = c.loop-reading in lent_unit l.measures l.sums l.figures l.numbers l.homes l.rows l.groups l.deviations

  old_long : length c.loop-reading.bytes ≡ 769
  old_long = omega (arith, c.told-bytes, reads_size c.loop-reading.invariant.walk)

  long : 769 ≤ length c.args.bytes.now
  long = omega (arith, c.told-bytes)

  size : length place ≡ length c.loop-reading.bytes
  size = c.read_between-got.auto.bytes

  abbrev wants : Wanted
  wants = wanted_part c.loop-reading.reading c.args.alone (length c.loop-reading.bytes)

  asks : c.wanted-place.result ≡ wants
  asks = c.wanted-place.ensures.reply ∙ ap (wanted_part c.loop-reading.reading c.args.alone) (sym old_long)

  inside : c.read_between-got.result.count ≤ wants.to - wants.from
  inside = subst (λ (w : Wanted). c.read_between-got.result.count ≤ w.to - w.from) asks c.read_between-got.ensures.inside

  before : take wants.from place ≡ take wants.from c.loop-reading.bytes
  before = subst (λ (w : Wanted). take w.from place ≡ take w.from c.loop-reading.bytes) asks c.read_between-got.ensures.before

  further : ReadFrom c.args.alone c.args.bytes.now lent c.came-said.result place lists
  further = read_further c.loop-reading.invariant long inside before size c.came-said.ensures c.read_between-got.ensures.bytes

  -- what was said
  said : (x : Came) → c.came-said.result ≡ x → ReadFrom c.args.alone c.args.bytes.now lent x place lists
  said x e = subst (λ (x : Came). ReadFrom c.args.alone c.args.bytes.now lent x place lists) e further

  taken : (x : Next) → ReadTo c.args.alone c.args.bytes.now lent x place lists → TakenTo book_end lent x lists
  taken x w = read_took c.args.alone c.args.bytes.now lent x place lists long w

pub loop-reading-init : goal.loop-reading-init
loop-reading-init g c = record { input = []; arrivals = 0; walk = starts; bytes = λ i. omega arith }

pub loop-reading-smaller : goal.loop-reading-smaller
loop-reading-smaller g c =
    let k = (goal.at.loop-reading-smaller g c).After-came-said in
    let said = subst (λ (x : Came). CamePromise c.loop-reading.reading c.args.alone c.read_between-got.result.count (place g k) (loop_lists g k) x (lists g k))
    c.in-Wants.is c.came-said.ensures in
    read_falls c.loop-reading.invariant (long g k) (inside g k) (before g k) (size g k) said

pub loop-reading-preserved : goal.loop-reading-preserved
loop-reading-preserved g c = said g (goal.at.loop-reading-preserved g c).After-came-said _ c.in-Wants.is

pub returns-in-Taken : goal.returns-in-Taken
returns-in-Taken g c =
    let k = (goal.at.returns-in-Taken g c).After-came-said in
    let w = said g k _ c.in-Taken.is in
    let x = n.TheVariants.Taken c.in-Taken.tally in
    let all = taken g k x w in
    record { book_came = record { taken_to = all; read_to = w }; room_for = room_for book_end (lent g k) (lists g k) x all }

pub returns-in-Refused : goal.returns-in-Refused
returns-in-Refused g c =
    let k = (goal.at.returns-in-Refused g c).After-came-said in
    let w = said g k _ c.in-Refused.is in
    let x = n.TheVariants.Refused c.in-Refused.why in
    let all = taken g k x w in
    record { book_came = record { taken_to = all; read_to = w }; room_for = room_for book_end (lent g k) (lists g k) x all }
