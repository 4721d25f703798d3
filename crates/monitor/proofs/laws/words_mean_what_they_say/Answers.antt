use Rattle.monitor.proofs.Meanings.{began_means, lately_means}
use Rattle.monitor.proofs.laws.words_mean_what_they_say.Goals as goal

pub returns : goal.returns
returns c = record { lately = lately_means; began = began_means }
