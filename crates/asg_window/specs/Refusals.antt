-- Why no outcome is given.
use Rattle.std.specs.Prelude.{◌<◌}
use Rattle.asg_model.specs.DifferentCosts.{HasCosts, most_costs}
use Rattle.asg_model.specs.Problem.{Problem}
use Rattle.asg_window.specs.declared.outcomes.BalancedRefusal.{BalancedRefusal}
use Rattle.asg_window.specs.declared.outcomes.BalancedRefusal.TheVariants.{TooManyCosts, NoMemory}

-- a refusal is true: `TooManyCosts` tells the number of different costs, which is more than 20,000
abbrev pub IsRefusal : Problem → BalancedRefusal → Type 0
IsRefusal X (TooManyCosts n) = HasCosts X n × (most_costs < n)
IsRefusal X NoMemory = Unit {0}
