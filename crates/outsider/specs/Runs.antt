-- Runs of calls, and what the promises say at the end of one.
use Rattle.std.specs.Prelude.{◌≡◌, true, false, List, [], ◌∷◌, fold}
use Rattle.control.specs.declared.plate.Plate.{Plate}
use Rattle.gauges.specs.Model as gauge
use Rattle.monitor.specs.History.{Call, accepted_steps, after_calls, history, step}
use Rattle.monitor.specs.Promises.{ClosedRightly, Promises}
use Rattle.monitor.specs.Words.{amiss, lasted}
use Rattle.monitor.specs.declared.monitor.Monitor.{Monitor}
use Rattle.records.specs.declared.step.Step.{Step}
use Rattle.switches.specs.Model as switch

-- a list of steps as calls, the newest first
abbrev pub told : List Step → List Call
told = fold (λ cs s. step s ∷ cs) []

-- of a monitor m after these calls, once set up with plate p and gauge g
module _ {G S : Type 0} (gm : gauge.Model G) (sm : switch.Model S) (p : Plate) (g : G) (cs : List Call) (m : Monitor G S) where
  -- the calls led to it from a monitor that keeps the promises
  pub record Run : Type 0 where
    pub start : Monitor G S
    pub promises : Promises gm sm p g start
    pub reached : m ≡ after_calls gm sm start cs

  -- a closed contact is right, and after 2,700 ms of bad level the contact is open
  pub record Kept : Type 0 where
    pub closed_rightly : sm.contact m.switch ≡ true → ClosedRightly p (history gm g (accepted_steps cs))
    pub opens : lasted (amiss p) 2700 (history gm g (accepted_steps cs)) ≡ true → sm.contact m.switch ≡ false
