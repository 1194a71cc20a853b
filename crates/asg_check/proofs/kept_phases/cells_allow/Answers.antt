use Rattle.asg_check.proofs.Common.{◌≡◌, ◌<◌, ◌≤◌, Some, subst, arith, ⊎_elim, cases_lt}
use Rattle.asg_check.specs.KnownPhases.{AllowsWords}
use Rattle.asg_check.proofs.kept_phases.cells_allow.Goals as goal

pub columns-init : goal.columns-init
columns-init g c = λ k from below. absurd (omega (arith, from, below))

pub columns-preserved : goal.columns-preserved
columns-preserved g c = λ k from below.
    let m = c.args.m.now in
    let i = c.columns.column in
    ⊎_elim
    (λ (less : k < i). c.columns.invariant k from less)
    (λ (last : i ≤ k).
    let same : i ≡ k = omega (arith, last, below) in
    subst (λ n. AllowsWords (g.M.Ordered.monoid_of m) (g.M.DMonoid.difference m) (g.M.Written.word_of m) c.args.phases.now c.args.row n (Some c.args.x)) same
    (c.in_ok-cell_allows.ensures c.if-not-branch.false))
    (cases_lt k i)

pub returns : goal.returns
returns g c = λ _ k from below. c.columns.invariant k from (omega (arith, below, c.columns-test.false))
