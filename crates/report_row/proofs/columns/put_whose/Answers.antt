-- A number's digits; or the region's name, and the word before it.
use Prim.Native.Nat.{◌<◌, ◌^◌}
use native.Mathlib.Omega.{arith}
use lib.Dec.{lit≤}
use Rattle.rules.specs.Text.{text}
use Rattle.listing.proofs.PiecesLaws.{put_before}
use Rattle.report_row.proofs.PieceLaws.{number_long}
use Rattle.report_row.proofs.PutLaws.{put_in, first_put, region_most}
use borrow.Author.Rules.{rules}
use Rattle.report_row.proofs.columns.put_whose.Goals as goal
use Rattle.report_row.proofs.columns.put_whose.Goals.{After-put_region-to, In-Unit, Start}

abbrev S : After-put_region-to → Start
S c = (goal.at.After-put_region-to c).Start

few : (k : In-Unit) → k.in-Unit.number < 2 ^ 16
few k = search rules

pub returns-in-Unit : goal.returns-in-Unit
returns-in-Unit c =
    let put = put_in {j = 20} (lit≤ tt) c.requires c.put_number.ensures in
    record { put = rw c.in-Unit.is put; at_bound = omega (arith, put.place, number_long c.in-Unit.number (omega (arith, few (goal.at.returns-in-Unit c).In-Unit))) }

pub returns-in-Residual : goal.returns-in-Residual
unfolding text
returns-in-Residual c =
    let name = first_put 4 16 (S (goal.at.returns-in-Residual c).After-put_region-to).requires (region_most c.in-Residual.name) c.put_region-to.ensures in
    let put = put_before name.put (put_in {j = 16} (lit≤ tt) name.room c.put_word.ensures) in
    record { put = rw c.in-Residual.is put; at_bound = omega (arith, put.place, region_most c.in-Residual.name) }
