-- An insert of a cell within keeps the cells within.
use Rattle.std.proofs.Common.{ℕ, ◌/◌, ◌%◌, sym, subst, List, arith}
use Rattle.asg_model.specs.declared.parts.Cost.{Cost}
use Rattle.asg_model.specs.Instances.{AreCellsOf}
use Rattle.asg_base_tests.proofs.mapped.put.Goals as goal

pub returns : goal.returns
returns c =
    subst (λ (cells : List ((ℕ × ℕ) × Cost)). AreCellsOf 3 3 cells) (sym c.in_ok-insert.ensures.entries)
    (c.insert_law.ensures 3 3 c.args.cells.now.entries (c.args.place / 3, c.args.place % 3) _ c.requires.kept (omega arith) (omega arith) c.in-Some.ensures.in_range)
