use Rattle.std.proofs.Common.{arith, true, false, ◌≡◌, ◌<◌, sym, ap, ◌∙◌, subst, true≢false, rules}
use Rattle.std.proofs.lemmas.Bool.Decides.{nat_tests}
use Rattle.sukepina.specs.Core.{core_of}
use Rattle.sukepina.proofs.Cores.{flag_same}
use Rattle.sukepina.proofs.Echoes.{echo_reads, echo_stands, word_in_16}
use Rattle.sukepina.proofs.Missing.{none_if, ok_at, ok_is, there_flag}
use Rattle.sukepina.proofs.Serving.{none_stands}
use Rattle.sukepina.proofs.echo.EchoNumbersMonitorNumbers.monitor.Goals as goal
use Rattle.sukepina.specs.Echo.{echo_numbers, echo_possible}

pub returns-in_err-core : goal.returns-in_err-core
returns-in_err-core c =
    none_stands echo_numbers echo_possible _ (λ m _ e. true≢false (c.in_err-core.ensures (core_of m) (ap (λ n. n.core) e))) _ c.from_residual.ensures

pub returns-in_err-reading_of : goal.returns-in_err-reading_of
returns-in_err-reading_of c =
    none_stands echo_numbers echo_possible _
    (λ m can e. true≢false (sym (echo_reads m can) ∙ c.in_err-reading_of.ensures m.gauge.last (ap (λ n. (n.fault, n.level)) e))) _ c.from_residual-in_err-reading_of.ensures

pub returns-in_err-ok : goal.returns-in_err-ok
returns-in_err-ok c =
    none_stands echo_numbers echo_possible _
    (λ m can e. let small : c.args.self.now.drive < 65536 = subst (λ w. w < 65536) (ap (λ n. n.drive) e) (word_in_16 m can) in none_if _ _ c.try_from.result c.try_from.ensures (sym c.ok-2.ensures.value ∙ c.in_err-ok.was) small)
    _ c.from_residual-in_err-ok.ensures

pub returns-then-not-is_echo_possible : goal.returns-then-not-is_echo_possible
returns-then-not-is_echo_possible c =
    let rest : c.in_ok-rest.rest.millis ≡ c.args.self.now.rest = (ok_is _ _ c.new.result c.in_ok-rest.rest c.in_ok-rest.ensures.value c.new.ensures).0 in
    let drive : c.in_ok-ok.field-0 ≡ c.args.self.now.drive = ok_at _ _ c.try_from.result c.in_ok-ok.field-0 c.try_from.ensures c.in_ok-ok.ensures.value in
    echo_stands c.args.self.now c.restore-monitor.result c.in_ok-core.core (search rules) c.in_ok-core.ensures.0 (search rules) (search rules) (search rules) (search rules)
    (grind (arith, nat_tests, there_flag, flag_same)) (grind (arith, nat_tests)) (search rules) false (sym c.if-not-is_echo_possible.ensures)

pub returns : goal.returns
returns c =
    let rest : c.in_ok-rest.rest.millis ≡ c.args.self.now.rest = (ok_is _ _ c.new.result c.in_ok-rest.rest c.in_ok-rest.ensures.value c.new.ensures).0 in
    let drive : c.in_ok-ok.field-0 ≡ c.args.self.now.drive = ok_at _ _ c.try_from.result c.in_ok-ok.field-0 c.try_from.ensures c.in_ok-ok.ensures.value in
    echo_stands c.args.self.now c.restore-monitor.result c.in_ok-core.core (search rules) c.in_ok-core.ensures.0 (search rules) (search rules) (search rules) (search rules)
    (grind (arith, nat_tests, there_flag, flag_same)) (grind (arith, nat_tests)) (search rules) true (sym c.if-not-is_echo_possible.ensures)
