use Rattle.sukepina.proofs.Echoes.{echo_kept, echo_one, echo_reads}
use Rattle.sukepina.proofs.echo.EchoNumbersMonitorNumbers.laws.Goals as goal

pub returns-clause-distinct : goal.returns-clause-distinct
returns-clause-distinct c = λ m m' can can'. echo_one m m' (echo_reads m can) (echo_reads m' can')

pub returns-clause-stays : goal.returns-clause-stays
returns-clause-stays c = echo_kept
