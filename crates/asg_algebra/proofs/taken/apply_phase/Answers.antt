use Rattle.asg_algebra.proofs.taken.apply_phase.Goals as goal

pub settle-requires-clause-admitted : goal.settle-requires-clause-admitted
settle-requires-clause-admitted g c = c.requires.known c.if-not-is_known.false

pub returns-clause-admitted : goal.returns-clause-admitted
returns-clause-admitted g c = λ _. c.requires.known c.if-not-is_known.false
