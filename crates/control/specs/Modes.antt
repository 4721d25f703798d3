-- Telling modes apart.
use Rattle.std.specs.Prelude.{ℕ, Bool, true, false, ◌==◌}
use Rattle.control.specs.declared.mode.FailureMode.{FailureMode}
use Rattle.control.specs.declared.mode.FailureMode.TheVariants.{Allok, Badlevdev, Hardfail}
use Rattle.control.specs.declared.mode.Mode.{Mode}
use Rattle.control.specs.declared.mode.Mode.TheVariants.{Dark, Standby, Operating, Shutdown, Test}

abbrev rank : Mode → ℕ
rank Dark = 0
rank Standby = 1
rank Operating = 2
rank Shutdown = 3
rank Test = 4

abbrev pub is : Mode → Mode → Bool
is m n = rank m == rank n

abbrev pub allok : FailureMode → Bool
allok Allok = true
allok Badlevdev = false
allok Hardfail = false
