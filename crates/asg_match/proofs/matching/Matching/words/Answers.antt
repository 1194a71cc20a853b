use Rattle.asg_match.proofs.Common.{length, ap, arith}
use Rattle.asg_match.proofs.matching.Matching.words.Goals as goal

pub returns : goal.returns
returns c = omega (arith, ap length c.self.view_is, c.self.invariant.0.columns_len, c.div_ceil.ensures)
