-- The limits of the quantities (01, Quantities and The book). A point is named by its index: index 0 is the paper's t = 1, index 74 its t = 75.
use Rattle.std.specs.Prelude.{ℕ}

-- points of an interval, and regions
abbrev pub points : ℕ
points = 75

abbrev pub regions : ℕ
regions = 5

-- items of a book
abbrev pub most_units : ℕ
most_units = 512

abbrev pub most_requirements : ℕ
most_requirements = 32

-- frequency, in µHz: what is aimed at, and the limits
abbrev pub nominal : ℕ
nominal = 50_000_000

abbrev pub lowest_frequency : ℕ
lowest_frequency = 45_000_000

abbrev pub highest_frequency : ℕ
highest_frequency = 55_000_000

-- the primary frequency control band (02, R-3): its lowest and its highest frequency
abbrev pub band_lowest : ℕ
band_lowest = 49_985_000

abbrev pub band_highest : ℕ
band_highest = 50_015_000

-- sizes: the measure in µHz, power in hundredths of a MW, generation and amounts in the same, defaults, money in cents
abbrev pub measure_limit : ℕ
measure_limit = 5_000_000

abbrev pub power_limit : ℕ
power_limit = 100_000

abbrev pub amount_limit : ℕ
amount_limit = 2_000_000

abbrev pub unit_default_limit : ℕ
unit_default_limit = 5_625_000_000_000_000

abbrev pub residual_default_limit : ℕ
residual_default_limit = 50_000_000_000_000_000

abbrev pub price_limit : ℕ
price_limit = 10_000_000

abbrev pub cost_limit : ℕ
cost_limit = 1_000_000_000_000

-- what a unit can reach: a deviation in 75ths of a cMW, a performance
abbrev pub deviation_limit : ℕ
deviation_limit = 15_000_000

abbrev pub performance_limit : ℕ
performance_limit = 5_625_000_000_000_000

-- the share: the largest total, the largest sum of weights; a factor's whole, in billionths
abbrev pub total_limit : ℕ
total_limit = 1_000_000_000_000

abbrev pub weight_limit : ℕ
weight_limit = 6_010_000_000_000_000_000

abbrev pub billion : ℕ
billion = 1_000_000_000

-- members of a requirement: every unit, and its residual
abbrev pub most_members : ℕ
most_members = 513
