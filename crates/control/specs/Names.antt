-- The words of the modes.
use Rattle.std.specs.Prelude.{ℕ, List, codes}
use Rattle.control.specs.declared.mode.FailureMode.{FailureMode}
use Rattle.control.specs.declared.mode.FailureMode.TheVariants.{Allok, Badlevdev, Hardfail}
use Rattle.control.specs.declared.mode.Mode.{Mode}
use Rattle.control.specs.declared.mode.Mode.TheVariants.{Dark, Standby, Operating, Shutdown, Test}

abbrev pub mode_name : Mode → List ℕ
mode_name Dark = codes "dark"
mode_name Standby = codes "standby"
mode_name Operating = codes "operating"
mode_name Shutdown = codes "shutdown"
mode_name Test = codes "test"

abbrev pub failure_name : FailureMode → List ℕ
failure_name Allok = codes "allok"
failure_name Badlevdev = codes "badlevdev"
failure_name Hardfail = codes "hardfail"
