use Rattle.asg_text.proofs.FormulaCommon.{◌≡◌, map, pos, range_with_len, cost_of_place}
use Rattle.asg_text.proofs.formulas.costs.Given as goal

abbrev pub invariant-loop-place : goal.invariant-loop-place
invariant-loop-place l = l.costs.items ≡ map (λ k. pos (cost_of_place l.seed l.side k)) (range_with_len 0 l.place)
