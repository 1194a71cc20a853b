use Rattle.asg_model.proofs.Common.{◌≡◌, length}
use Rattle.asg_model.proofs.ShapeLemmas.{CapacitiesTo}
use Rattle.asg_model.proofs.shapes.set_capacities.Given as goal

abbrev pub invariant-loop-place : goal.invariant-loop-place
invariant-loop-place l =
    (length l.columns.items ≡ length l.fn.columns.items)
    × CapacitiesTo l.fn.columns.items l.columns.items l.each l.place
