-- The bytes that the theorems on worked books speak of are those that the second program was given (tests/worked/): how many they are, and the number that
-- they hold, the lowest byte first, modulo 2^61 - 1.
use Rattle.std.specs.Prelude.{◌≡◌, refl, List, ℕ, ◌-◌, ◌%◌, ◌^◌, length}
use Rattle.rules.specs.Bytes.{little}
use Rattle.rules.specs.Book.{Book}
use Rattle.books.specs.Writing.{book_bytes}
use Rattle.books.specs.PaperBook.{paper_book}
use Rattle.books.specs.Computing.{computing}
use Rattle.books.specs.WorkedBooks.{
  lower_two_regions,
  default_reasons,
  bad_frequency_points,
  sign_turned,
  unplaced,
  ramp,
  ties,
  larger_first,
  no_units,
  one_side,
  lower_defaults,
  edges_of_reliability,
  every_field,
  dropped_edges,
  dropped_reliability,
  table_15,
}
use Rattle.books.specs.GroupBooks.{groups, ungrouped, bad_groups, group_of_13, groups_of_one}

abbrev sum_of : List ℕ → ℕ
sum_of bs = little (length bs) bs % (2 ^ 61 - 1)

pub record Written (b : Book) (size sum : ℕ) : Type 0 where
  pub long : length (book_bytes b) ≡ size
  pub same : sum_of (book_bytes b) ≡ sum

pub listing_bytes : Written (paper_book 7) 2_672 582_451_421_918_691_198
unfolding computing
listing_bytes = record { long = refl; same = refl }

pub lower_two_regions_bytes : Written lower_two_regions 3_464 942_753_594_471_135_770
unfolding computing
lower_two_regions_bytes = record { long = refl; same = refl }

pub default_reasons_bytes : Written default_reasons 3_464 1_408_655_570_152_634_540
unfolding computing
default_reasons_bytes = record { long = refl; same = refl }

pub bad_frequency_points_bytes : Written bad_frequency_points 3_068 1_779_637_715_067_170_037
unfolding computing
bad_frequency_points_bytes = record { long = refl; same = refl }

pub sign_turned_bytes : Written sign_turned 3_488 203_926_729_283_603_556
unfolding computing
sign_turned_bytes = record { long = refl; same = refl }

pub unplaced_bytes : Written unplaced 3_092 1_197_791_322_603_962_170
unfolding computing
unplaced_bytes = record { long = refl; same = refl }

pub ramp_bytes : Written ramp 3_068 410_175_134_122_094_869
unfolding computing
ramp_bytes = record { long = refl; same = refl }

pub ties_bytes : Written ties 3_788 620_946_666_678_711_222
unfolding computing
ties_bytes = record { long = refl; same = refl }

pub larger_first_bytes : Written larger_first 4_556 2_023_227_419_592_788_107
unfolding computing
larger_first_bytes = record { long = refl; same = refl }

pub no_units_bytes : Written no_units 1_952 158_308_877_779_805_867
unfolding computing
no_units_bytes = record { long = refl; same = refl }

pub one_side_bytes : Written one_side 3_536 1_316_617_328_195_734_302
unfolding computing
one_side_bytes = record { long = refl; same = refl }

pub lower_defaults_bytes : Written lower_defaults 3_512 1_428_601_350_260_363_853
unfolding computing
lower_defaults_bytes = record { long = refl; same = refl }

pub edges_of_reliability_bytes : Written edges_of_reliability 2_768 1_269_543_760_970_343_735
unfolding computing
edges_of_reliability_bytes = record { long = refl; same = refl }

pub every_field_bytes : Written every_field 2_696 1_573_966_949_096_326_953
unfolding computing
every_field_bytes = record { long = refl; same = refl }

pub dropped_edges_bytes : Written dropped_edges 3_068 1_956_781_453_118_845_645
unfolding computing
dropped_edges_bytes = record { long = refl; same = refl }

pub dropped_reliability_bytes : Written dropped_reliability 2_696 1_013_002_347_676_891_062
unfolding computing
dropped_reliability_bytes = record { long = refl; same = refl }

pub table_15_bytes : Written table_15 3_440 572_737_380_810_571_913
unfolding computing
table_15_bytes = record { long = refl; same = refl }

pub groups_bytes : Written groups 5_324 711_819_952_014_808_377
unfolding computing
groups_bytes = record { long = refl; same = refl }

pub ungrouped_bytes : Written (ungrouped groups) 5_324 702_805_192_694_848_821
unfolding computing
ungrouped_bytes = record { long = refl; same = refl }

pub bad_groups_bytes : Written bad_groups 6_860 815_170_138_266_670_363
unfolding computing
bad_groups_bytes = record { long = refl; same = refl }

pub group_of_13_bytes : Written group_of_13 7_136 1_448_965_914_848_333_592
unfolding computing
group_of_13_bytes = record { long = refl; same = refl }

pub groups_of_one_bytes : Written groups_of_one 2_672 744_578_809_480_773_502
unfolding computing
groups_of_one_bytes = record { long = refl; same = refl }
