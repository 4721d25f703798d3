-- What the calls of the boundary answer and do, over any gauge and any switch.
use Rattle.std.specs.Prelude.{ℕ, Bool, cond, ◌&&◌, List, ◌++◌, length, drop, Ok, Err, Result, nat_lt}
use Rattle.base.specs.Refusals.{refusal_number}
use Rattle.base.specs.declared.refusal.Refusal.{Refusal}
use Rattle.gauges.specs.Model as gauge
use Rattle.monitor.specs.Calls.{accepted, feed_answer}
use Rattle.monitor.specs.declared.monitor.Monitor.{Monitor}
use Rattle.records.specs.Record.{flagged}
use Rattle.records.specs.declared.fault.RecordFault.{RecordFault}
use Rattle.records.specs.declared.step.Step.{Step}
use Rattle.report.specs.Lines.{Lines, lines_from}
use Rattle.switches.specs.Model as switch
use Rattle.sukepina.specs.declared.call_error.CallError.{CallError}
use Rattle.sukepina.specs.declared.call_error.CallError.TheVariants.{Refused, NoMonitor}
use Rattle.sukepina.specs.declared.numbers.StepNumbers.{StepNumbers}

-- the answer to numbers that no monitor can have
abbrev pub no_monitor : ℕ
no_monitor = 7

-- 0, or the refusal's number
abbrev pub answered : {A : Type 0} → Result A Refusal → ℕ
answered (Ok x) = 0
answered (Err why) = refusal_number why

-- what C is told of a call: 0, the refusal's number, or 7
abbrev pub call_number : Result (Unit {0}) CallError → ℕ
call_number (Ok done) = 0
call_number (Err (Refused why)) = refusal_number why
call_number (Err NoMonitor) = no_monitor

-- Step: the step in the numbers, or its refusal.
abbrev pub told : StepNumbers → Result Step Refusal
told s = flagged s.facts s.time s.a s.b

abbrev pub with_step : {G S : Type 0} → gauge.Model G → switch.Model S → Result Step Refusal → Monitor G S → Monitor G S
with_step gm sm (Ok s) m = accepted gm sm m s
with_step gm sm (Err why) m = m

-- Feed: the number, and the place afterwards.
abbrev pub placed : ℕ → Result ℕ RecordFault → ℕ × ℕ
placed place (Ok next) = (0, next)
placed place (Err e) = (refusal_number e.refusal, place)

abbrev pub fed : List ℕ → ℕ → ℕ × ℕ
fed bytes place = placed place (feed_answer bytes place)

-- Readout: the number, the output and the length afterwards.
abbrev pub shown : List ℕ → List ℕ → ℕ → ℕ × List ℕ × ℕ
shown line out len = cond (nat_lt (length out) (length line)) (5, out, len) (0, line ++ drop (length line) out, length line)

-- Lines: there is a record, and no room for its line.
abbrev pub cramped : List ℕ → ℕ → List ℕ → Bool
cramped bytes place out = nat_lt place (length bytes) && nat_lt (length out) 64

-- the number, the place, the output and how much was written, afterwards
abbrev pub listed : {G S : Type 0} → Lines G S → List ℕ → ℕ × ℕ × List ℕ × ℕ
listed l out = (0, l.place, l.text ++ drop (length l.text) out, length l.text)

abbrev pub batch : {G S : Type 0} → gauge.Model G → switch.Model S → List ℕ → ℕ → List ℕ → ℕ → Monitor G S → ℕ × ℕ × List ℕ × ℕ
batch gm sm bytes place out written m = cond (cramped bytes place out) (5, place, out, written) (listed (lines_from gm sm m bytes place (length out)) out)

abbrev pub after_batch : {G S : Type 0} → gauge.Model G → switch.Model S → List ℕ → ℕ → List ℕ → Monitor G S → Monitor G S
after_batch gm sm bytes place out m = cond (cramped bytes place out) m (lines_from gm sm m bytes place (length out)).monitor
