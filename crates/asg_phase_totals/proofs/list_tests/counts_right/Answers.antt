use Rattle.asg_phase_totals.proofs.Common.{◌≡◌, ℕ, List, length, sym, ap, ◌∙◌, subst, AreCounted, count_is}
use Rattle.asg_phase_totals.proofs.list_tests.counts_right.Goals as goal

pub returns : goal.returns
returns g c =
    let N = g.N.SumNumber in
    let law = g.met.N.SumNumber.numbers_law in
    let p = c.args.phase.now in
    let enters = c.enters-2.result.now in
    let leaves = c.leaves-2.result.now in
    let from_enters = c.enters-2.ensures.enters in
    let from_leaves = c.leaves-2.ensures.leaves in
    let steps : length c.steps.result.now ≡ length (N.numbers p.steps) = ap length c.steps.ensures ∙ sym (count_is law p.steps) in (
      λ yes. record {
        rows = ap length (sym c.enters.ensures.enters) ∙ c.if-enters-side.false;
        columns = ap length (sym c.leaves.ensures.leaves) ∙ c.if-leaves-side.false;
        counted =
            subst (λ (xs : List ℕ). AreCounted xs p.leaves (length (N.numbers p.steps))) from_enters
            (subst (λ (xs : List ℕ). AreCounted enters xs (length (N.numbers p.steps))) from_leaves
            (subst (AreCounted enters leaves) steps (c.are_counted.ensures.0 yes)));
      },
      λ right. c.are_counted.ensures.1
          (subst (AreCounted enters leaves) (sym steps)
          (subst (λ (xs : List ℕ). AreCounted enters xs (length (N.numbers p.steps))) (sym from_leaves)
          (subst (λ (xs : List ℕ). AreCounted xs p.leaves (length (N.numbers p.steps))) (sym from_enters) right.counted))),
    )
