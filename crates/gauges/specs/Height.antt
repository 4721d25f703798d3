-- Heights of the echo gauge, in cm as an `f32` and in units of 0.00001 cm.
use Rattle.std.specs.Prelude.{ℕ, ◌*◌, ◌/◌, Bool, ◌&&◌, from_bits, Float}
use Rattle.std.specs.Float.{binary32}
use Rattle.std.specs.Float.Ieee.{le}
use Rattle.std.specs.Float.Ieee.Positive.{num, den}

-- 0.0, 1.0 and 100.0
abbrev pub cm_0 : Float
cm_0 = from_bits binary32 0

abbrev pub cm_1 : Float
cm_1 = from_bits binary32 0x3f80_0000

abbrev pub cm_100 : Float
cm_100 = from_bits binary32 0x42c8_0000

-- where the gauge can be mounted
abbrev pub in_mount : Float → Bool
in_mount m = le cm_1 m && le m cm_100

-- what a mount less a gap in reach can be
abbrev pub in_height : Float → Bool
in_height h = le cm_0 h && le h cm_100

-- 100,000 times the exact size of a float, `num` / `den`, rounded down
abbrev pub units : Float → ℕ
units h = num h * 100000 / den h
