-- The text at the right end, spaces, and the text at the left before them.
use Prim.Native.Nat.{◌-◌}
use lib.ListN.{length}
use native.Mathlib.Omega.{arith}
use Rattle.listing.specs.Pieces.{Put}
use Rattle.listing.proofs.PiecesLaws.{put_there}
use Rattle.pages.proofs.RepeatedLaws.{repeated_long}
use Rattle.pages.proofs.DrawLaws.{ends_put, ends_start}
use Rattle.pages.proofs.lines.put_top.Goals as goal
use Rattle.pages.proofs.lines.put_top.Goals.{After-put_word-end}

right_put : (w : After-put_word-end) →
    Put w.args.right.now 20 w.args.text.now w.put_word-end.result w.put_word-end.new.line
right_put w =
    put_there (record { free = omega (arith, w.requires.1); inside = w.requires.0 }) w.put_word-end.ensures

pub overflow_sub-end : goal.overflow_sub-end
overflow_sub-end c =
    omega (arith, (right_put (goal.at.overflow_sub-end c).After-put_word-end).place, c.requires.1)

pub put_repeated-start-requires : goal.put_repeated-start-requires
put_repeated-start-requires c =
    record { free = omega arith; inside = omega (arith, (right_put (goal.at.put_repeated-start-requires c).After-put_word-end).place, (right_put (goal.at.put_repeated-start-requires c).After-put_word-end).size, c.requires.0) }

pub returns : goal.returns
returns c =
    let q = c.put_repeated-start.ensures in
    let left = c.args.left.now in
    let right = c.args.right.now in
    let put = ends_put left right c.requires.1 (right_put (goal.at.returns c).After-put_word-end) q
    (put_there
    (record {
      free = omega (arith, q.place, repeated_long 32 (c.put_word-end.result - length left), (right_put (goal.at.returns c).After-put_word-end).place, c.requires.1);
      inside = omega (arith, q.place, q.size, (right_put (goal.at.returns c).After-put_word-end).place, (right_put (goal.at.returns c).After-put_word-end).size, c.requires.0);
    })
    c.put_word.ensures)
    in
    record { put = put; value = ends_start left right c.requires.1 put }
