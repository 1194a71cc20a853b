use Rattle.asg_kept.proofs.Common.{◌≡◌, ℕ, ◌^◌, IfOk, IsTrue, sym, subst, arith, bounded_sums, bounded_difference, AreAdmittedPhases, cell_at}
use Rattle.asg_kept.proofs.keeping.BoundedKeeps.knows_admitted.Goals as goal

pub returns : goal.returns
returns c =
    let stops : c.args.self.now.top ≡ 2 ^ 120 = omega arith in
    subst (λ (top : ℕ). IfOk c.are_admitted.result (λ told. IsTrue told → AreAdmittedPhases (bounded_sums top) bounded_difference c.args.square.now.side c.args.phases.now (cell_at c.args.square.now))) (sym stops) c.are_admitted.ensures
