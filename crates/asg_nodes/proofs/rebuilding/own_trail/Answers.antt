use Rattle.asg_nodes.proofs.Common.{ℕ, ◌≢◌, Some, None, Option, refl, inr, rules, IsOwn}
use Rattle.asg_nodes.proofs.rebuilding.own_trail.Goals as goal

-- a trail that isn't the one before is its own, if it is one
own_other : (before trail : Option ℕ) → trail ≢ before → IsOwn before trail trail
own_other before None other = inr refl
own_other before (Some t) other = (refl, other)

pub returns-else-eq : goal.returns-else-eq
returns-else-eq c = own_other c.args.before c.args.trail (search rules)
