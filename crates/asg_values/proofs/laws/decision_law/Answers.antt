use Rattle.asg_values.proofs.Decisions.{dec_hall, dec_valid}
use Rattle.asg_values.proofs.laws.decision_law.Goals as goal

pub returns : goal.returns
returns c = record { valid = dec_valid; hall = dec_hall }
