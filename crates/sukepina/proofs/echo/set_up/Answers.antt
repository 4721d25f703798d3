use Rattle.std.proofs.Common.{◌≡◌, sym, refl, ap, ◌∙◌, subst}
use Rattle.std.proofs.lemmas.Bool.{and_from, false≢true, le-leb}
use Rattle.sukepina.proofs.Cores.{same_plate}
use Rattle.control.specs.declared.plate.Plate.{Plate}
use Rattle.gauges.specs.Echo.{echo}
use Rattle.gauges.specs.declared.echo.Echo.{Echo}
use Rattle.monitor.specs.Calls.{set_up}
use Rattle.monitor.specs.Promises.{Promises}
use Rattle.switches.specs.Drive.{drive, word_at}
use Rattle.switches.specs.Rest.{new_rest, resting}
use Rattle.switches.specs.declared.rest_time.RestTime.{RestTime}
use Rattle.sukepina.proofs.Echoes.{echo_dark, same_echo, same_rest}
use Rattle.sukepina.proofs.echo.set_up.Goals as goal
use Rattle.sukepina.specs.Echo.{EchoMonitor, echo_numbers, echo_possible}

abbrev new_monitor : Plate → Echo → RestTime → EchoMonitor
new_monitor p g t = set_up (resting drive) g (new_rest (word_at 0xFF00) t) p

pub returns : goal.returns
returns c =
    let plate = c.in_ok-plate.plate in
    let gauge = c.in_ok-gauge.gauge in
    let rest = c.in_ok-rest.rest in
    let new-plate = c.in_ok-plate.ensures in
    let new-gauge = c.in_ok-gauge.ensures in
    let new-time = c.in_ok-rest.ensures in
    let made : c.set_up-monitor.result ≡ new_monitor plate gauge rest =
    c.set_up-monitor.ensures.value
    ∙ ap (λ s. set_up (resting drive) gauge s plate) (c.new-switch.ensures ∙ ap (λ b. new_rest b rest) c.new-4.ensures)
    in
    record {
      refused = λ bad. absurd (false≢true (sym bad ∙ and_from _ _ new-plate.1 (and_from _ _ new-gauge.0 (le-leb _ _ new-time.1))));
      made = λ p g t ep eg el et. (
        refl,
        c.of.ensures
            ∙ ap echo_numbers made
            ∙ (λ i. echo_numbers (new_monitor (same_plate plate p (new-plate.0 ∙ sym ep) i) (same_echo gauge g (new-gauge.1 ∙ sym eg) (new-gauge.2 ∙ sym el) i) (same_rest rest t (new-time.0 ∙ sym et) i))),
      );
      promises = λ p g t ep eg el et.
          subst (λ q. Promises echo (resting drive) q g (new_monitor q g t)) (same_plate plate p (new-plate.0 ∙ sym ep))
          (subst (λ h. Promises echo (resting drive) plate h (new_monitor plate h t)) (same_echo gauge g (new-gauge.1 ∙ sym eg) (new-gauge.2 ∙ sym el))
          (subst (λ u. Promises echo (resting drive) plate gauge (new_monitor plate gauge u)) (same_rest rest t (new-time.0 ∙ sym et))
          (subst (Promises echo (resting drive) plate gauge) made c.set_up-monitor.ensures.promises)));
      leaves = λ _. (c.set_up-monitor.result, (sym c.of.ensures, ap echo_possible made ∙ echo_dark plate gauge rest new-gauge.2));
    }
