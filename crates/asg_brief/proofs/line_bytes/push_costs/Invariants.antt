use Rattle.asg_brief.proofs.Common.{◌≡◌, ◌++◌, take, spaced_costs}
use Rattle.asg_brief.proofs.line_bytes.push_costs.Given as goal

-- the costs so far stand behind the line
abbrev pub invariant-costs : goal.invariant-costs
invariant-costs l = l.line.items ≡ l.fn.line.items ++ spaced_costs (take l.cost-index l.costs)
