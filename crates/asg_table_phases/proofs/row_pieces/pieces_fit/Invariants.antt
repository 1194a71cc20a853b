use Rattle.asg_table_phases.proofs.Common.{◌*◌, FitsCosts}
use Rattle.asg_table_phases.proofs.row_pieces.pieces_fit.Given as goal

-- the pieces so far fit
abbrev pub invariant-pieces : goal.invariant-pieces
invariant-pieces l = FitsCosts l.objective l.costs l.columns l.raise 0 (l.number * 16)
