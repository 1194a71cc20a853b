use Rattle.asg_cell_tables.proofs.Common.{◌+◌, true, refl, subst, arith, ChangesValues}
use Rattle.asg_cell_tables.proofs.ChangeLemmas.{changes_none, changes_more, may_more}
use Rattle.asg_cell_tables.proofs.row_changes.change_all.Goals as goal

pub loop-k-init : goal.loop-k-init
loop-k-init g c = changes_none c.args.values.now c.args.start c.args.from (λ _. true) _

pub change_if-requires-clause-changes : goal.change_if-requires-clause-changes
change_if-requires-clause-changes g c =
    may_more c.args.values.now c.loop-k.values c.args.start c.args.from c.loop-k.k (c.loop-k.k + 1) c.args.to (λ _. true) (λ _. true) _ _
    c.loop-k.auto.k (omega (arith, c.loop-k-test.true)) (λ k low high. refl) c.loop-k.invariant c.requires.changes

pub loop-k-preserved : goal.loop-k-preserved
loop-k-preserved g c =
    changes_more c.args.values.now c.loop-k.values c.change_if.new.values c.args.start c.args.from c.loop-k.k (c.loop-k.k + 1) (λ _. true) _
    c.loop-k.auto.k (omega arith) c.loop-k.invariant c.change_if.ensures

pub returns : goal.returns
returns g c =
    let end = c.loop-k.auto.k-end c.requires.order in
    subst (λ n. ChangesValues c.args.values.now c.loop-k.values c.args.start c.args.from n (λ _. true) (goal.F-post g c.args.change.now)) (omega (arith, c.loop-k-test.false, end)) c.loop-k.invariant
