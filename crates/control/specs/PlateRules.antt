-- The rules that a plate's five numbers keep.
use Rattle.std.specs.Prelude.{◌+◌, ◌*◌, Bool, ◌&&◌, nat_le, nat_lt}
use Rattle.control.specs.declared.plate_numbers.PlateNumbers.{PlateNumbers}

abbrev pub keeps_rules : PlateNumbers → Bool
keeps_rules n =
    nat_lt n.low_mark n.low_limit
    && (nat_le (n.low_limit + 2 * n.hysteresis) n.high_limit
    && (nat_lt n.high_limit n.high_mark
    && (nat_le n.high_mark 9990000
    && nat_le 1 n.hysteresis)))
