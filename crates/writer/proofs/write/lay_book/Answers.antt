-- The table of contents and four bodies, one behind the other, are the book.
use Rattle.rules.specs.Given.{Given}
use Rattle.writer.specs.Values.{values}
use Rattle.writer.proofs.BookLaws.{book_put}
use Rattle.writer.proofs.write.lay_book.Goals as goal
use Rattle.writer.proofs.write.lay_book.Goals.{Start}

abbrev given : Start → Given
given s =
    values s.args.settings s.args.region_rows.now s.args.region_qualities.now s.args.frequencies.now s.args.units
    s.args.unit_rows.now s.args.unit_qualities.now s.args.readings.now s.args.requirements s.args.requirement_rows.now

pub returns : goal.returns
returns c =
    book_put (given (goal.at.returns c).Start) c.args.book.now c.requires.requirements_in_bounds c.lay_contents.ensures c.lay_settings.ensures c.lay_regions.ensures
    c.lay_units.ensures c.lay_requirements.ensures
