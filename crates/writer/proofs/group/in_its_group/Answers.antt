-- Case by case, as the laws of where a unit stands have it; region and group of the unit before are its row's.
use mathlib.Core.Path.{◌≡◌, sym, ◌∙◌}
use mathlib.Core.Bool.{◌&&◌}
use mathlib.Core.List.{List}
use Prim.Native.Nat.{◌+◌, ◌*◌, ◌-◌}
use lib.Dec.{eqb}
use lib.IntN.{ℤ, pos}
use lib.ListN.{get_or}
use mir.Syntax.{w64}
use borrow.Author.Tests.{eq-eqb, ne_eqb}
use Rattle.rules.specs.Layout.{unit_region, unit_group}
use Rattle.rules.specs.Laid.{word}
use Rattle.book.specs.declared.UnitFields.{UnitFields}
use Rattle.book.specs.Defaults.{none_in_three}
use Rattle.writer.specs.Judged.{row_region, row_group, stands}
use Rattle.writer.proofs.LayLaws.{read}
use Rattle.writer.proofs.StandsLaws.{stands_first, stands_alone, stands_behind, stands_new}
use Rattle.writer.proofs.group.in_its_group.Goals as goal
use Rattle.writer.proofs.group.in_its_group.Goals.{After-one_byte, After-two_bytes, Else-fields-eq0, Else-two_bytes-fields, Start}

abbrev fields : Start → UnitFields
fields s = s.args.fields

abbrev rows : Start → List ℤ
rows s = s.args.rows.now

abbrev start : Else-fields-eq0 → Start
start c = (goal.at.Else-fields-eq0 c).Start

group_is : (c : After-two_bytes) → let s = start (goal.at.After-two_bytes c).Else-fields-eq0 in c.two_bytes.result ≡ row_group (rows s) (s.args.unit - 1)
group_is c =
    let s = start (goal.at.After-two_bytes c).Else-fields-eq0 in
    read w64 (word unit_group) (get_or (rows s) (12 * (s.args.unit - 1) + 5) (pos 0)) c.two_bytes-arg-1.given c.two_bytes.ensures

region_is : (c : After-one_byte) → let s = start (goal.at.After-one_byte c).Else-fields-eq0 in
    c.one_byte.result ≡ row_region (rows s) (s.args.unit - 1)
region_is c =
    let s = start (goal.at.After-one_byte c).Else-fields-eq0 in
    read w64 (word unit_region) (get_or (rows s) (12 * (s.args.unit - 1) + 1) (pos 0)) c.one_byte-arg-1.given c.one_byte.ensures

behind : (c : Else-two_bytes-fields) → let s = start (goal.at.Else-two_bytes-fields c).Else-fields-eq0 in let f = fields s in
    stands f (rows s) s.args.unit ≡ eqb (row_region (rows s) (s.args.unit - 1)) f.region && (none_in_three f.raise && none_in_three f.lower)
behind c =
    let s = start (goal.at.Else-two_bytes-fields c).Else-fields-eq0 in
    stands_behind (fields s) (rows s) _ c.if-unit-eq0.false c.if-fields-eq0.false (sym (group_is (goal.at.Else-two_bytes-fields c).After-two_bytes) ∙ c.if-two_bytes-fields.false)

pub returns-then-unit-eq0 : goal.returns-then-unit-eq0
returns-then-unit-eq0 c = sym (stands_first (fields (goal.at.returns-then-unit-eq0 c).Start) (rows (goal.at.returns-then-unit-eq0 c).Start) _ c.if-unit-eq0.true)

pub returns-then-fields-eq0 : goal.returns-then-fields-eq0
returns-then-fields-eq0 c =
    sym (stands_alone (fields (goal.at.returns-then-fields-eq0 c).Start) (rows (goal.at.returns-then-fields-eq0 c).Start) _ c.if-unit-eq0.false c.if-fields-eq0.true)

pub returns-then-two_bytes-fields : goal.returns-then-two_bytes-fields
returns-then-two_bytes-fields c =
    let s = start (goal.at.returns-then-two_bytes-fields c).Else-fields-eq0 in
    c.new_group.ensures
    ∙ sym (stands_new (fields s) (rows s) _ c.if-unit-eq0.false c.if-fields-eq0.false (λ e. c.if-two_bytes-fields.true (group_is (goal.at.returns-then-two_bytes-fields c).After-two_bytes ∙ e)))

pub returns-then-one_byte-fields : goal.returns-then-one_byte-fields
returns-then-one_byte-fields c = rw (behind (goal.at.returns-then-one_byte-fields c).Else-two_bytes-fields, ne_eqb _ _ (λ e. c.if-one_byte-fields.true (region_is (goal.at.returns-then-one_byte-fields c).After-one_byte ∙ e)))

pub returns-then-not-no_three : goal.returns-then-not-no_three
returns-then-not-no_three c =
    rw (behind (goal.at.returns-then-not-no_three c).Else-two_bytes-fields, eq-eqb _ _ (sym (region_is (goal.at.returns-then-not-no_three c).After-one_byte) ∙ c.if-one_byte-fields.false), sym c.no_three.ensures ∙ c.if-not-no_three.true)

pub returns : goal.returns
returns c =
    rw (
      behind (goal.at.returns c).Else-two_bytes-fields,
      eq-eqb _ _ (sym (region_is (goal.at.returns c).After-one_byte) ∙ c.if-one_byte-fields.false),
      sym c.no_three.ensures ∙ c.if-not-no_three.false,
    ) c.no_three-2.ensures
