use Rattle.asg_table_phases.proofs.row_pieces.piece_fits.Goals as goal

pub returns-then-are_absent : goal.returns-then-are_absent
returns-then-are_absent c = λ _ k from below there. absurd (there (c.are_absent.ensures c.if-are_absent.true k from below))
