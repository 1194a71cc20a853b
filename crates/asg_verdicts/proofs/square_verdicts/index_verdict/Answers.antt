use Rattle.asg_verdicts.proofs.Common.{sym, refl, ◌∙◌, inl, inr, false≢true}
use Rattle.asg_verdicts.proofs.square_verdicts.index_verdict.Goals as goal

pub returns-then-is_same : goal.returns-then-is_same
returns-then-is_same g c = inl (c.is_same.ensures.0 c.if-is_same.true, refl)

pub returns-else-is_same : goal.returns-else-is_same
returns-else-is_same g c = inr (λ same. false≢true (sym c.if-is_same.false ∙ c.is_same.ensures.1 same), c.verdict.ensures)
