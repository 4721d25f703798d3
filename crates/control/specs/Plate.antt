-- What a plate says of a reading. A faulty reading is none of these.
use Rattle.std.specs.Prelude.{◌+◌, ◌-◌, Bool, false, ◌&&◌, ◌||◌, Ok, Err, nat_le, nat_lt, refl}
use Rattle.gauges.specs.Model.{Reading}
use Rattle.control.specs.declared.plate.Plate.{Plate}
use Rattle.control.specs.declared.plate_numbers.PlateNumbers.{PlateNumbers}

-- the published water level monitor's plate
abbrev standard_numbers : PlateNumbers
standard_numbers = record { low_mark = 1300000; low_limit = 1400000; high_limit = 2600000; high_mark = 2700000; hysteresis = 50000 }

abbrev pub standard : Plate
standard = record { numbers = standard_numbers; ok = refl }

-- below the low mark or above the high mark
abbrev pub past_mark : Plate → Reading → Bool
past_mark p (Ok u) = nat_lt u p.numbers.low_mark || nat_lt p.numbers.high_mark u
past_mark p (Err f) = false

-- at or above the high limit
abbrev pub high : Plate → Reading → Bool
high p (Ok u) = nat_le p.numbers.high_limit u
high p (Err f) = false

-- at or below the low limit
abbrev pub low : Plate → Reading → Bool
low p (Ok u) = nat_le u p.numbers.low_limit
low p (Err f) = false

abbrev pub out_of_limits : Plate → Reading → Bool
out_of_limits p r = low p r || high p r

-- within the limits by the hysteresis
abbrev pub settled : Plate → Reading → Bool
settled p (Ok u) = nat_le (p.numbers.low_limit + p.numbers.hysteresis) u && nat_le u (p.numbers.high_limit - p.numbers.hysteresis)
settled p (Err f) = false
