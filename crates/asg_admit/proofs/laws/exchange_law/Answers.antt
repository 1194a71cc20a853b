use Rattle.asg_admit.proofs.ExchangedMarks.{exchanged_counted}
use Rattle.asg_admit.proofs.laws.exchange_law.Goals as goal

pub returns : goal.returns
returns c = exchanged_counted
