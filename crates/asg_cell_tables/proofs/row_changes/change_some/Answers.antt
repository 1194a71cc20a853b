use Rattle.asg_cell_tables.proofs.Common.{◌≡◌, ℕ, ◌+◌, ◌-◌, ◌<◌, ◌≤◌, ap, ◌∙◌, subst, arith, is_bit_set, ChangesValues}
use Rattle.asg_cell_tables.proofs.ChangeLemmas.{changes_none, changes_more, changes_by, may_more}
use Rattle.asg_cell_tables.proofs.row_changes.change_some.Goals as goal

here : (word from mid k : ℕ) → mid ≤ k → k < mid + 1 → is_bit_set word (mid - from) ≡ is_bit_set word (k - from)
here word from mid k low high = ap (λ n. is_bit_set word (n - from)) (omega (arith, low, high))

pub loop-k-init : goal.loop-k-init
loop-k-init g c = changes_none c.args.values.now c.args.start c.args.from (λ k. is_bit_set c.args.word (k - c.args.from)) _

pub change_if-requires-clause-changes : goal.change_if-requires-clause-changes
change_if-requires-clause-changes g c =
    may_more c.args.values.now c.loop-k.values c.args.start c.args.from c.loop-k.k (c.loop-k.k + 1) c.args.to (λ k. is_bit_set c.args.word (k - c.args.from)) (λ _. c.is_set.result) _ _
    c.loop-k.auto.k (omega (arith, c.loop-k-test.true))
    (λ k low high. c.is_set.ensures ∙ here c.args.word c.args.from c.loop-k.k k low high)
    c.loop-k.invariant c.requires.changes

pub loop-k-preserved : goal.loop-k-preserved
loop-k-preserved g c =
    changes_more c.args.values.now c.loop-k.values c.change_if.new.values c.args.start c.args.from c.loop-k.k (c.loop-k.k + 1) (λ k. is_bit_set c.args.word (k - c.args.from)) _
    c.loop-k.auto.k (omega arith) c.loop-k.invariant
    (changes_by c.loop-k.values c.change_if.new.values c.args.start c.loop-k.k (c.loop-k.k + 1) (λ k. is_bit_set c.args.word (k - c.args.from)) (λ _. c.is_set.result) _
    (λ k low high. c.is_set.ensures ∙ here c.args.word c.args.from c.loop-k.k k low high)
    c.change_if.ensures)

pub returns : goal.returns
returns g c =
    let end = c.loop-k.auto.k-end c.requires.order in
    subst (λ n. ChangesValues c.args.values.now c.loop-k.values c.args.start c.args.from n (λ k. is_bit_set c.args.word (k - c.args.from)) (goal.F-post g c.args.change.now)) (omega (arith, c.loop-k-test.false, end)) c.loop-k.invariant
