-- Runs of calls on a monitor, and the history that they leave: the accepted steps, each with its reading.
use Rattle.std.specs.Prelude.{ℕ, cond, List, [], ◌∷◌, Some, None, Option, filter_map, nat_lt}
use Rattle.base.specs.Limits.{time_limit}
use Rattle.gauges.specs.Model as gauge
use Rattle.gauges.specs.Model.{Reading}
use Rattle.records.specs.Record.{read_at}
use Rattle.records.specs.declared.step.Step.{Step}
use Rattle.std.specs.Result.{result_ok}
use Rattle.switches.specs.Model as switch
use Rattle.monitor.specs.Calls.{after_step, after_feed, gauge_after}
use Rattle.monitor.specs.declared.monitor.Monitor.{Monitor}

-- a call on a monitor: with the step; with the buffer and the place; with the output
pub data Call : Type 0 where
  step : Step → Call
  feed : List ℕ → ℕ → Call
  readout : List ℕ → Call

-- the monitor after a call, and after a list of calls, the newest first
abbrev pub after_call : {G S : Type 0} → gauge.Model G → switch.Model S → Monitor G S → Call → Monitor G S
after_call gm sm m (step s) = after_step gm sm m s
after_call gm sm m (feed bytes place) = after_feed gm sm m bytes place
after_call gm sm m (readout out) = m

abbrev pub after_calls : {G S : Type 0} → gauge.Model G → switch.Model S → Monitor G S → List Call → Monitor G S
after_calls gm sm m [] = m
after_calls gm sm m (c ∷ cs) = after_call gm sm (after_calls gm sm m cs) c

-- the step that a call brings, if it brings one that is not refused
abbrev pub brings : Call → Option Step
brings (step s) = cond (nat_lt time_limit s.time) None (Some s)
brings (feed bytes place) = result_ok (read_at bytes place)
brings (readout out) = None

-- the accepted steps of a list of calls, the newest first
abbrev pub accepted_steps : List Call → List Step
accepted_steps = filter_map brings

-- the gauge after these steps: it took the words of those with power
abbrev pub gauge_at : {G : Type 0} → gauge.Model G → G → List Step → G
gauge_at gm g [] = g
gauge_at gm g (s ∷ ss) = gauge_after gm (gauge_at gm g ss) s

-- an accepted step with its reading: the gauge's, once it took that step's words
pub record Event : Type 0 where
  pub step : Step
  pub reading : Reading

abbrev pub event : {G : Type 0} → gauge.Model G → G → Step → List Step → Event
event gm g s ss = record { step = s; reading = gm.reading (gauge_at gm g (s ∷ ss)) }

abbrev pub history : {G : Type 0} → gauge.Model G → G → List Step → List Event
history gm g [] = []
history gm g (s ∷ ss) = event gm g s ss ∷ history gm g ss
