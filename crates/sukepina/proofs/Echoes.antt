-- The echo monitor's numbers tell all of what it can be, and calls keep it so.
use Rattle.std.proofs.Common.{None, cond, ◌≡◌, ℕ, ◌<◌, ◌≤◌, Bool, true, false, ◌&&◌, leb, Some, sym, ap, ◌∙◌, arith}
use mathlib.Core.Bool.{Bool-set}
use mathlib.Core.HLevel.{is_prop→PathP}
use native.Mathlib.Bridge.{le_prop}
use lib.Ieee.{Float}
use Rattle.std.proofs.lemmas.Bool.{and_parts, and_from}
use Rattle.std.proofs.lemmas.Bool.Decides.{nat_tests}
use Rattle.base.specs.Limits.{time_limit}
use Rattle.control.specs.State.{dark, drives}
use Rattle.control.specs.Transition.{next_state}
use Rattle.control.specs.declared.mode.Mode.{Mode}
use Rattle.control.specs.declared.mode.Mode.TheVariants.{Dark}
use Rattle.control.specs.declared.plate.Plate.{Plate}
use Rattle.control.specs.declared.state.State.{State}
use Rattle.display.specs.Panel.{dark_panel}
use Rattle.gauges.specs.Echo.{echo}
use Rattle.gauges.specs.EchoWord.{echo_reading}
use Rattle.gauges.specs.Height.{in_mount}
use Rattle.gauges.specs.Model.{Reading, fresh, is_in_range}
use Rattle.gauges.specs.declared.echo.Echo.{Echo}
use Rattle.gauges.specs.declared.reading.Cause.TheVariants.{Nothing}
use Rattle.monitor.specs.Calls.{accepted, gauge_after, set_up, worked}
use Rattle.records.specs.declared.step.Step.{Step}
use Rattle.switches.specs.Drive.{drive, word_at}
use Rattle.switches.specs.Rest.{new_rest, resting}
use Rattle.switches.specs.declared.rest_time.RestTime.{RestTime}
use Rattle.sukepina.proofs.Cores.{core_one}
use Rattle.sukepina.specs.Core.{core_of}
use Rattle.sukepina.proofs.Kept.{panel_kept, powered, reading_kept, state_kept}
use Rattle.sukepina.proofs.Serving.{stands}
use Rattle.sukepina.specs.Boundary.{StandsFor}
use Rattle.sukepina.proofs.Missing.{missing_one}
use Rattle.sukepina.specs.Echo.{EchoMonitor, Resting, echo_numbers, echo_possible, echo_read, fault_number, gauge_possible, level_number, reading_numbers, rest_possible, switch_possible}
use Rattle.sukepina.specs.declared.core_numbers.Core.{Core}
use Rattle.sukepina.specs.declared.numbers.EchoNumbers.{EchoNumbers}
use Rattle.sukepina.specs.Core.{numbers_of}
use Rattle.sukepina.specs.Maybe.{or_0, there}
use Rattle.sukepina.specs.Possible.{core_possible, state_possible}

-- ---- gauges and rests that tell the same are the same: ghost fields add nothing

pub same_echo : (p q : Echo) → p.mount ≡ q.mount → p.last ≡ q.last → p ≡ q
same_echo p q e f = λ i. record {
  mount = e i;
  last = f i;
  mounted = is_prop→PathP (λ j. in_mount (e j) ≡ true) (λ j. Bool-set (in_mount (e j)) true) p.mounted q.mounted i;
  ranged = is_prop→PathP (λ j. is_in_range (f j) ≡ true) (λ j. Bool-set (is_in_range (f j)) true) p.ranged q.ranged i;
}

pub same_rest : (p q : RestTime) → p.millis ≡ q.millis → p ≡ q
same_rest p q e = λ i. record { millis = e i; within = is_prop→PathP (λ j. e j ≤ 86400000) (λ j. le_prop) p.within q.within i }

-- ---- readings and words as numbers, and back

-- what an echo gauge reads tells itself by its numbers
reading_one : (r q : Reading) → echo_read r ≡ true → echo_read q ≡ true → fault_number r ≡ fault_number q → level_number r ≡ level_number q → r ≡ q
reading_one r q can can' fault level = grind (arith, nat_tests)

-- ---- numbers and monitors

module _ (m : EchoMonitor) (can : echo_possible m ≡ true) where
  core_can : core_possible m.plate m.state m.panel m.gauge.last ≡ true
  core_can = (and_parts (core_possible m.plate m.state m.panel m.gauge.last) _ can).0

  gauge_can : gauge_possible m.gauge.last m.state.mode ≡ true
  gauge_can = (and_parts (gauge_possible m.gauge.last m.state.mode) (switch_possible m.switch m.state) (and_parts (core_possible m.plate m.state m.panel m.gauge.last) _ can).1).0

  switch_can : switch_possible m.switch m.state ≡ true
  switch_can = (and_parts (gauge_possible m.gauge.last m.state.mode) (switch_possible m.switch m.state) (and_parts (core_possible m.plate m.state m.panel m.gauge.last) _ can).1).1

  pub echo_reads : echo_read m.gauge.last ≡ true
  echo_reads = (and_parts (echo_read m.gauge.last) _ gauge_can).0

  resting_can : rest_possible m.switch m.state.time ≡ true
  resting_can = (and_parts (rest_possible m.switch m.state.time) _ switch_can).0

-- monitors that read as an echo gauge does and have the same numbers are the same
pub echo_one : (m m' : EchoMonitor) → echo_read m.gauge.last ≡ true → echo_read m'.gauge.last ≡ true → echo_numbers m ≡ echo_numbers m' → m ≡ m'
echo_one m m' read read' e =
    let core = core_one (core_of m) (core_of m') (ap (λ n. n.core) e) in
    λ i. record {
      gauge = same_echo m.gauge m'.gauge (ap (λ n. n.mount) e) (reading_one m.gauge.last m'.gauge.last read read' (ap (λ n. n.fault) e) (ap (λ n. n.level) e)) i;
      switch = record {
        below = record { word = (e i).drive };
        rest = same_rest m.switch.rest m'.switch.rest (ap (λ n. n.rest) e) i;
        last = (e i).last_tick;
        opening = missing_one m.switch.opening m'.switch.opening (ap (λ n. n.opened) e) (ap (λ n. n.opening) e) i;
      };
      plate = (core i).plate;
      state = (core i).state;
      panel = (core i).panel;
    }

-- what n stands for, where each part of a monitor stands for one of n
pub echo_stands : (n : EchoNumbers) (m : EchoMonitor) (x : Core) → core_of m ≡ x → numbers_of x ≡ n.core
    → m.gauge.mount ≡ n.mount → (reading_numbers m.gauge.last ≡ (n.fault, n.level)) × (echo_read m.gauge.last ≡ true) → m.switch.rest.millis ≡ n.rest → m.switch.last ≡ n.last_tick
    → there m.switch.opening ≡ n.opened → or_0 m.switch.opening ≡ n.opening → m.switch.below.word ≡ n.drive
    → (can : Bool) → echo_possible m ≡ can → StandsFor echo_numbers echo_possible n (cond can (Some m) None)
echo_stands n m x parts core mount reading rest last opened opening drive =
    let has : echo_numbers m ≡ n = λ i. record {
      core = (ap numbers_of parts ∙ core) i;
      rest = rest i;
      last_tick = last i;
      opening = opening i;
      opened = opened i;
      mount = mount i;
      fault = (reading.0 i).0;
      level = (reading.0 i).1;
      drive = drive i;
    } in
    stands echo_numbers echo_possible n m has (λ k can e. echo_one k m (echo_reads k can) reading.1 (e ∙ sym has))

-- a drive's word has 16 bits
pub word_in_16 : (m : EchoMonitor) → echo_possible m ≡ true → m.switch.below.word < 65536
word_in_16 m can = let can = switch_can m can in grind (arith, nat_tests)

-- ---- what a step keeps of the gauge

-- what is read once words were taken: never nothing
taken_possible : (mount : Float) (a : ℕ) (mode : Mode) → gauge_possible (echo_reading mount a) mode ≡ true
taken_possible mount a mode = grind (arith, nat_tests)

-- ---- what a step keeps of the switch

ticked_kept : (s : Resting) (t was : ℕ) → rest_possible s was ≡ true → rest_possible ((resting drive).ticked s t) t ≡ true
ticked_kept s t was e = grind (arith, nat_tests)

-- the switch worked: closed only where it was asked to
worked_kept : (s : Resting) (t : ℕ) (st : State) (close : Bool) → st.time ≡ t → (close ≡ true → drives st ≡ true) → rest_possible s t ≡ true → switch_possible (worked (resting drive) s close) st ≡ true
worked_kept s t st close time asked e = grind (arith, nat_tests)

next_time : (p : Plate) (st : State) (s : Step) (r : Reading) → (next_state p st s r).time ≡ s.time
next_time p st s r = grind (arith, nat_tests)

-- ---- an accepted step leaves what a monitor can be

echo_gauge_kept : (m : EchoMonitor) (s : Step) (power : Bool) → gauge_possible m.gauge.last m.state.mode ≡ true
    → let after = accepted echo (resting drive) m (powered power s) in gauge_possible after.gauge.last after.state.mode ≡ true
echo_gauge_kept m s true e = taken_possible m.gauge.mount s.a (accepted echo (resting drive) m (powered true s)).state.mode
echo_gauge_kept m s false e = grind (arith, nat_tests)

pub echo_kept : (m : EchoMonitor) (s : Step) → leb s.time time_limit ≡ true → echo_possible m ≡ true → echo_possible (accepted echo (resting drive) m s) ≡ true
echo_kept m s t can =
    let reading = echo.reading (gauge_after echo m.gauge s) in
    let st = next_state m.plate m.state s reading in
    let before = (and_parts (state_possible m.state) _ (core_can m can)).0 in
    and_from _ _
    (and_from _ _ (state_kept m.plate m.state s reading before t) (and_from _ _ (reading_kept m.plate m.state s reading) (panel_kept m.plate m.panel m.state.mode st reading)))
    (and_from _ _
    (echo_gauge_kept m s s.power (gauge_can m can))
    (worked_kept ((resting drive).ticked m.switch s.time) s.time st (s.power && drives st) (next_time m.plate m.state s reading)
    (λ close. (and_parts s.power (drives st) close).1)
    (ticked_kept m.switch s.time m.state.time (resting_can m can))))

-- a new monitor
pub echo_dark : (p : Plate) (g : Echo) (t : RestTime) → g.last ≡ fresh Nothing → echo_possible (set_up (resting drive) g (new_rest (word_at 0xFF00) t) p) ≡ true
echo_dark p g t last = ap (λ r. core_possible p (dark 0) dark_panel r && (gauge_possible r Dark && true)) last
