-- Eight stores in a row are the eight numbers; each is within 64 bits.
use mathlib.Core.Path.{◌∙◌}
use Prim.Native.Nat.{◌<◌, ◌^◌}
use native.Mathlib.Nat.{lt_of_lt_of_le}
use native.Mathlib.Omega.{arith}
use lib.Dec.{lit<}
use lib.ListN.{length-set}
use mir.Syntax.{w64}
use mir.Facts.{to_z-of_z}
use borrow.Author.Rules.{sfits_of}
use Rattle.integers.proofs.Casts.{back, toZ_small}
use Rattle.dullavane.proofs.WordsLaws.{eight_stores}
use borrow.Author.Rules.{rules}
use Rattle.dullavane.proofs.reports.put_numbers.Goals as goal
use Rattle.dullavane.proofs.reports.put_numbers.Goals.{Start}

few : (s : Start) → s.args.row.version < 2 ^ 16
few s = search rules

pub bounds-numbers-1 : goal.bounds-numbers-1
bounds-numbers-1 c = simp length-set (lt_of_lt_of_le (lit< tt) c.requires)

pub bounds-numbers-2 : goal.bounds-numbers-2
bounds-numbers-2 c = simp length-set (lt_of_lt_of_le (lit< tt) c.requires)

pub bounds-numbers-3 : goal.bounds-numbers-3
bounds-numbers-3 c = simp length-set (lt_of_lt_of_le (lit< tt) c.requires)

pub bounds-numbers-4 : goal.bounds-numbers-4
bounds-numbers-4 c = simp length-set (lt_of_lt_of_le (lit< tt) c.requires)

pub bounds-numbers-5 : goal.bounds-numbers-5
bounds-numbers-5 c = simp length-set (lt_of_lt_of_le (lit< tt) c.requires)

pub bounds-numbers-6 : goal.bounds-numbers-6
bounds-numbers-6 c = simp length-set (lt_of_lt_of_le (lit< tt) c.requires)

pub bounds-numbers-7 : goal.bounds-numbers-7
bounds-numbers-7 c = simp length-set (lt_of_lt_of_le (lit< tt) c.requires)

pub returns : goal.returns
returns c =
    let row = c.args.row in
    let xs = c.args.numbers.now in
    eight_stores xs _ _ _ _ _ _ _ _ c.requires
    ∙ rw (
      toZ_small w64 {n = row.interval} (omega arith),
      back w64 c.residual_number.type_inv c.residual_number.ensures,
      back w64 c.number_told.type_inv c.number_told.ensures,
      to_z-of_z (sfits_of c.struct_told-1.given.0.1),
      back w64 c.type_number.type_inv c.type_number.ensures,
      to_z-of_z (sfits_of c.struct_told-2-1.given.0.1),
      back w64 c.type_number-2.type_inv c.type_number-2.ensures,
      toZ_small w64 {n = row.version} (omega (arith, few (goal.at.returns c).Start)),
    )
