use Rattle.asg_kept_cells.proofs.Common.{ℕ, List, sym, subst, phase_of, IsAdmittedPhase, HasValues, cell_at, masked_grid}
use Rattle.asg_kept_cells.proofs.single_steps.admits_rows.Goals as goal

pub admits_within-requires : goal.admits_within-requires
admits_within-requires g c =
    let Q = c.args.square.now in
    subst (λ words. HasValues (g.M.Ordered.monoid_of c.args.m.now) Q.side (cell_at (masked_grid Q words))) (sym c.words-words.ensures.words) c.requires.values

pub returns : goal.returns
returns g c =
    let m = c.args.m.now in
    let Q = c.args.square.now in
    let by = λ (words : List ℕ). IsAdmittedPhase (g.M.Ordered.monoid_of m) (g.M.DMonoid.difference m) Q.side (phase_of c.args.steps.now c.args.enters.now c.args.leaves.now) (cell_at (masked_grid Q words)) in (
      λ ok. subst by c.words-words.ensures.words (c.admits_within.ensures.0 ok),
      λ is. c.admits_within.ensures.1 (subst by (sym c.words-words.ensures.words) is),
    )
