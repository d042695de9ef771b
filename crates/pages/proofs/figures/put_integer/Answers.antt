-- The digits of the size, and a minus before them where the number is below zero.
use borrow.Author.Tests.{not-true, not-false}
use Rattle.rules.specs.Text.{text, natural}
use Rattle.listing.specs.Pieces.{Put}
use Rattle.listing.proofs.PiecesLaws.{put_there}
use Rattle.pages.proofs.FigureLaws.{digits_alone, digits_of_none, sign_put, positive}
use Rattle.pages.proofs.figures.put_integer.Goals as goal
use Rattle.pages.proofs.figures.put_integer.Goals.{After-put_number-digits, Start}

module _ (p : After-put_number-digits) where
  abbrev S : Start
  S = (goal.at.After-put_number-digits p).Start

  digits_put : Put (natural S.args.x.size) S.args.at S.args.text.now p.put_number-digits.result p.put_number-digits.new.line
  digits_put = put_there S.requires.0 p.put_number-digits.ensures

pub returns-then-not-x : goal.returns-then-not-x
returns-then-not-x c =
    let x = (S (goal.at.returns-then-not-x c).After-put_number-digits).args.x in
    digits_alone x.below x.size (digits_put (goal.at.returns-then-not-x c).After-put_number-digits) (not-true x.below c.if-not-x.true)

pub returns-then-x-eq0 : goal.returns-then-x-eq0
returns-then-x-eq0 c =
    let x = (S (goal.at.returns-then-x-eq0 c).After-put_number-digits).args.x in
    digits_of_none x.below x.size (digits_put (goal.at.returns-then-x-eq0 c).After-put_number-digits) c.if-x-eq0.true

pub returns : goal.returns
unfolding text
returns c =
    let x = (S (goal.at.returns c).After-put_number-digits).args.x in
    sign_put x.below x.size (digits_put (goal.at.returns c).After-put_number-digits) (not-false x.below c.if-not-x.false) (positive x.size c.if-x-eq0.false) (S (goal.at.returns c).After-put_number-digits).requires.1 (S (goal.at.returns c).After-put_number-digits).requires.0
    c.put_word.ensures
