use Rattle.asg_table_phases.proofs.Common.{◌≡◌, ℕ, List, ◌∷◌, ap, ◌∙◌, subst, AreTotals, PhaseOf, phase_of}
use Rattle.asg_table_phases.proofs.phase_sums.take_in.Goals as goal

-- a phase is that of its lists
same : (steps enters leaves : List ℕ) (phase : PhaseOf ℕ) → steps ≡ phase.steps → enters ≡ phase.enters → leaves ≡ phase.leaves → phase_of steps enters leaves ≡ phase
same steps enters leaves phase s e l = ap (λ xs. phase_of xs enters leaves) s ∙ ap (λ es. phase_of phase.steps es leaves) e ∙ ap (λ ls. phase_of phase.steps phase.enters ls) l

pub returns-clause-taken : goal.returns-clause-taken
returns-clause-taken c = λ yes rest are.
    subst (λ (p : PhaseOf ℕ). AreTotals (p ∷ rest) c.put_before.new.self)
    (same c.steps-steps.result.now c.enters.result.now c.leaves.result.now c.args.phase.now c.steps-steps.ensures c.enters.ensures.enters c.leaves.ensures.leaves)
    (c.put_before.ensures.totals yes rest are)
