use Rattle.asg_cell_tables.proofs.Common.{subst, AreKnownAs}
use Rattle.asg_cell_tables.proofs.pieces.counted_piece.Goals as goal

pub plain_piece-requires-clause-known : goal.plain_piece-requires-clause-known
plain_piece-requires-clause-known g c = subst (λ l. AreKnownAs l c.args.first c.args.columns.now) c.in-Plain.is c.requires.known

pub extra_piece-requires-clause-known : goal.extra_piece-requires-clause-known
extra_piece-requires-clause-known g c = subst (λ l. AreKnownAs l c.args.first c.args.columns.now) c.in-Extra.is c.requires.known

pub returns-in-Extra-clause-values : goal.returns-in-Extra-clause-values
returns-in-Extra-clause-values g c = λ entered _. c.extra_piece.ensures.values entered
