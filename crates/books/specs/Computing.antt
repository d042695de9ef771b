-- Opens every definition that a theorem by computing goes through: such a theorem says `unfolding computing` and is proved by `refl`.
use Rattle.integers.specs.Sums.{sum, sumℕ, every, first_wrong, largest}
use Rattle.integers.specs.Totals.{total, totalℕ, those, numbered}
use Rattle.rules.specs.Bytes.{little, listed}
use Rattle.rules.specs.Contents.{contents}
use Rattle.rules.specs.SettingsRecord.{settings}
use Rattle.rules.specs.FrequencyRecord.{region_in, frequency_record}
use Rattle.rules.specs.UnitRecord.{unit_in, unit_record}
use Rattle.rules.specs.RequirementRecord.{requirement_in, requirement_record}
use Rattle.rules.specs.WholeBook.{frequency_body, unit_body, requirement_body, book}
use Rattle.rules.specs.Measure.{measure_after}
use Rattle.rules.specs.Dropped.{dropped_at}
use Rattle.rules.specs.Reliability.{reliable, reliable_in}
use Rattle.rules.specs.Deviation.{deviation, good}
use Rattle.rules.specs.Groups.{new_among, group_fine}
use Rattle.rules.specs.Plants.{plants_from, plants}
use Rattle.rules.specs.Performance.{weight, performance, plant_performance, residual_performance}
use Rattle.rules.specs.Standings.{some_good_or_none}
use Rattle.rules.specs.Members.{plant_member, residual_member, members}
use Rattle.rules.specs.Share.{left_over, gets_one, amount, unplaced, share_reply}
use Rattle.rules.specs.Rcr.{weighed_measure, response, all_reliable, rcr}
use Rattle.rules.specs.Answer.{lines_of, answered, answer}
use Rattle.rules.specs.Text.{text, digits, words}
use Rattle.rules.specs.Listing.{joined, answer_lines, listing, settle}
use Rattle.rules.specs.Laid.{bytes, strung, laid}
use Rattle.rules.specs.Written.{book_laid, regions_given, units_given, requirements_given, book_given, written}
use Rattle.rules.specs.Said.{chained}
use Rattle.books.specs.Writing.{book_bytes}

unfoldable pub computing : Unit {0}
unfolding sum sumℕ every first_wrong largest total totalℕ those numbered little listed contents settings region_in frequency_record unit_in
    unit_record requirement_in requirement_record frequency_body unit_body requirement_body book measure_after dropped_at reliable reliable_in
    deviation good new_among group_fine plants_from plants weight performance plant_performance residual_performance some_good_or_none plant_member
    residual_member members left_over gets_one amount unplaced share_reply weighed_measure response all_reliable rcr lines_of answered answer text
    digits words joined answer_lines listing settle bytes strung laid book_laid regions_given
    units_given requirements_given book_given written chained book_bytes
computing = tt
