-- Facts about tests alone, over variables.
use Rattle.std.proofs.Common.{◌≡◌, Bool, true, false, cond, not, ◌&&◌, ◌||◌, Ok, Err, is_err, refl, arith}
use Rattle.control.specs.Modes.{allok}
use Rattle.control.specs.Plate.{past_mark}
use Rattle.control.specs.State.{watched}
use Rattle.control.specs.Transition.{bad_reading, worse}
use Rattle.control.specs.declared.mode.FailureMode.{FailureMode}
use Rattle.control.specs.declared.mode.FailureMode.TheVariants.{Allok, Badlevdev, Hardfail}
use Rattle.control.specs.declared.mode.Watchdog.{Watchdog}
use Rattle.control.specs.declared.mode.Watchdog.TheVariants as watchdog
use Rattle.control.specs.declared.plate.Plate.{Plate}
use Rattle.gauges.specs.Model.{Reading}
use Rattle.std.proofs.lemmas.Bool.Decides.{nat_tests}

pub allok_worse : (f : FailureMode) (failed bad : Bool) → allok (worse f failed bad) ≡ (allok f && (not failed && not bad))
allok_worse Allok true bad = refl
allok_worse Allok false true = refl
allok_worse Allok false false = refl
allok_worse Badlevdev true bad = refl
allok_worse Badlevdev false bad = refl
allok_worse Hardfail true bad = refl
allok_worse Hardfail false bad = refl

pub allok_is : (f : FailureMode) → allok f ≡ true → f ≡ Allok
allok_is Allok a = refl
allok_is Badlevdev a = cc
allok_is Hardfail a = cc

pub watched_unless : (late : Bool) (w : Watchdog) → watched (cond late watchdog.Shut w) ≡ (not late && watched w)
watched_unless late w = grind (arith, nat_tests)

pub bad_is : (p : Plate) (r : Reading) → bad_reading p r ≡ (is_err r || past_mark p r)
bad_is p (Ok u) = refl
bad_is p (Err f) = refl

-- the start's own faults decide
pub key_start : (o st mem clk flt pst ill fl : Bool) → o ≡ true → st ≡ true
    → ((true && (not (mem || clk) && not (flt || pst))) && true) ≡ (o && (not (o && (mem || (clk || ((o && flt) || ((o && pst) || (not st && ill)))))) && (st || fl)))
key_start o st mem clk flt pst ill fl lit starts = grind (arith, nat_tests)

-- a later step adds its faults to those before
pub key_moved : (o pw st mem clk back late flt pst f w fl : Bool) → o ≡ true → st ≡ false → pw ≡ true → (f && w) ≡ (pw && fl)
    → ((f && (not (mem || (clk || back)) && not (flt || pst))) && (not late && w))
    ≡ (o && (not (o && (mem || (clk || ((o && flt) || ((o && pst) || (not st && (back || late))))))) && (st || fl)))
key_moved o pw st mem clk back late flt pst f w fl lit going powers before = grind (arith, nat_tests)

-- with power on and no fault, past the start: none before, and neither a faulty reading nor an ill-timed step
pub clean_parts : (o mem clk flt pst st ill fl : Bool) → o ≡ true → st ≡ false
    → (o && (not (o && (mem || (clk || (flt || (pst || (not st && ill)))))) && (st || fl))) ≡ true
    → (fl ≡ true) × ((flt ≡ false) × (ill ≡ false))
clean_parts o mem clk flt pst st ill fl lit going clean = grind (arith, nat_tests)

-- what drives the pump has no fault
pub still_well : (o f w y : Bool) → (o && w) ≡ true → (f ≡ false → o ≡ false) → (f && w) ≡ y → y ≡ true
still_well o f w y drives silent key = grind (arith, nat_tests)

pub quiet_parts : (o f s t : Bool) → (o && (not f && (s && not t))) ≡ true → (s ≡ true) × (t ≡ false)
quiet_parts o f s t quiet = (grind (arith, nat_tests), grind (arith, nat_tests))
