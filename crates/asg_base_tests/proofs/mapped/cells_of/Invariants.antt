use Rattle.asg_model.specs.Instances.{AreCellsOf}
use Rattle.asg_base_tests.proofs.mapped.cells_of.Given as goal

abbrev pub invariant-loop-place : goal.invariant-loop-place
invariant-loop-place l = AreCellsOf 3 3 l.cells.entries
