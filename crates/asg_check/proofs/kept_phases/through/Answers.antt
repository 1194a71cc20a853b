use Rattle.asg_check.proofs.Common.{◌≡◌, All, map, sym, ap, ◌∙◌, subst}
use Rattle.std.specs.Prelude.{slice_index}
use Rattle.asg_check.proofs.KnownWords.{through-words}
use Rattle.asg_order.specs.Monoid.{IsValue}
use Rattle.asg_check.proofs.kept_phases.through.Goals as goal

pub returns-clause-allowed : goal.returns-clause-allowed
returns-clause-allowed g c =
    let m = c.args.m.now in
    let M = g.M.Ordered.monoid_of m in
    let values = c.as_slice.result.now in
    let items = c.as_slice.ensures.value in
    let written : map (g.M.Written.word_of m) values ≡ c.args.phase.now.steps = ap (map (g.M.Written.word_of m)) items ∙ c.in_ok-read_steps.ensures.words c.if-not-branch.false ∙ c.steps.ensures in
    let are : All (IsValue M) values = subst (All (IsValue M)) (sym items) (c.in_ok-read_steps.ensures.values c.if-not-branch.false) in
    through-words M (g.M.Written.word_of m) (g.M.Written.value_of m) (g.met.M.Written.word_laws m) (g.M.DMonoid.difference m) c.args.row c.args.column c.args.phase.now values c.args.x
    are written _ _ (ap (λ xs. slice_index xs c.args.row) c.enters-enters.ensures.enters) (ap (λ xs. slice_index xs c.args.column) c.leaves-leaves.ensures.leaves) c.replay_cell.result c.replay_cell.ensures.settled c.replay_cell.ensures.allowed
