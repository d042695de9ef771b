-- The three figures from the last line up, and line one before them.
use mathlib.Core.Path.{refl}
use lib.Dec.{lit≤}
use mir.Facts.{to_z-of_z}
use Rattle.rules.specs.Text.{text}
use Rattle.listing.specs.Pieces.{Room, Put}
use Rattle.listing.proofs.PiecesLaws.{room_less, put_before}
use Rattle.rules.specs.Panel.{labelled, member_page}
use Rattle.pages.proofs.DrawLaws.{line_room, three_start, page_put, drawn_not}
use Rattle.pages.proofs.page.member_page.Goals as goal
use Rattle.pages.proofs.page.member_page.Goals.{After-put_labelled-fourth, After-put_labelled-third, Start}

abbrev S : After-put_labelled-fourth → Start
S p = (goal.at.After-put_labelled-fourth p).Start

abbrev P : After-put_labelled-third → After-put_labelled-fourth
P q = (goal.at.After-put_labelled-third q).After-put_labelled-fourth

fourth_put : (p : After-put_labelled-fourth) →
    Put (labelled (text "IDLE") (S p).args.unused) 80 (S p).args.text.now p.put_labelled-fourth.result p.put_labelled-fourth.new.text
unfolding text
fourth_put p = simp (to_z-of_z, (S p).ranges.unused) at p.put_labelled-fourth.ensures

third_put : (q : After-put_labelled-third) →
    Put (labelled (text "USED") (S (P q)).args.used) (P q).put_labelled-fourth.result (P q).put_labelled-fourth.new.text q.put_labelled-third.result
    q.put_labelled-third.new.text
unfolding text
third_put q = simp (to_z-of_z, (S (P q)).ranges.used) at q.put_labelled-third.ensures

below_last : (p : After-put_labelled-fourth) → Room 60 p.put_labelled-fourth.result p.put_labelled-fourth.new.text
unfolding text
below_last p =
    line_room (text "IDLE") (S p).args.unused 60 refl (record { free = lit≤ tt; inside = p.if-text-lt-PAGE.false }) (fourth_put p)

below_third : (q : After-put_labelled-third) → Room 40 q.put_labelled-third.result q.put_labelled-third.new.text
unfolding text
below_third q = line_room (text "USED") (S (P q)).args.used 40 refl (below_last (P q)) (third_put q)

pub returns-then-text-lt-PAGE : goal.returns-then-text-lt-PAGE
returns-then-text-lt-PAGE c = drawn_not c.if-text-lt-PAGE.true

pub put_labelled-third-requires : goal.put_labelled-third-requires
unfolding text
put_labelled-third-requires c = (room_less (lit≤ tt) (below_last (goal.at.put_labelled-third-requires c).After-put_labelled-fourth), refl)

pub put_labelled-requires : goal.put_labelled-requires
unfolding text
put_labelled-requires c = (room_less (lit≤ tt) (below_third (goal.at.put_labelled-requires c).After-put_labelled-third), refl)

pub returns : goal.returns
unfolding text member_page
returns c =
    let s = S (P (goal.at.returns c).After-put_labelled-third) in
    let a = s.args in
    let put = put_before (put_before (fourth_put (P (goal.at.returns c).After-put_labelled-third)) (third_put (goal.at.returns c).After-put_labelled-third)) (simp (to_z-of_z, s.ranges.payment) at c.put_labelled.ensures) in
    page_put (three_start (text "PAY ") (text "USED") (text "IDLE") a.payment a.used a.unused refl refl refl put) c.put_member.ensures.value
    (P (goal.at.returns c).After-put_labelled-third).if-text-lt-PAGE.false put
    c.put_member.ensures.put
