use Rattle.asg_levels.proofs.Common.{◌≡◌, ◌%◌, ◌<◌, not, ◌&&◌, sym, ap, ◌∙◌, subst, ⊎_elim, arith, cases_eq, has_bit, is_bit_set, word_count}
use Rattle.asg_levels.proofs.NextSteps.{cleared_inside, cleared_here, cleared_else}
use Rattle.asg_levels.proofs.next_step.clear_word.Goals as goal

pub put_word-requires-clause-inside : goal.put_word-requires-clause-inside
put_word-requires-clause-inside c k h set =
    let below : c.args.number < word_count c.loop-row.marks.columns = subst (λ n. c.args.number < word_count n) (sym c.loop-row.invariant.columns) c.requires in
    cleared_inside c.loop-row.marks c.loop-row.marks c.row.result.now c.loop-row.row c.args.number c.args.left c.without-word.result c.row.ensures.words below c.without-word.ensures c.row.ensures.table k h set

pub loop-row-preserved : goal.loop-row-preserved
loop-row-preserved c =
    let inv = c.loop-row.invariant in
    let row = c.loop-row.row in
    let after = c.put_word.new.self in
    let before = c.args.marks.now in
    let below : c.args.number < word_count c.loop-row.marks.columns = subst (λ n. c.args.number < word_count n) (sym inv.columns) c.requires in
    let here = cleared_here c.loop-row.marks after c.row.result.now row c.args.number c.args.left c.without-word.result c.row.ensures.words below c.without-word.ensures c.put_word.ensures in
    let else = cleared_else c.loop-row.marks after c.row.result.now row c.args.number c.args.left c.without-word.result c.row.ensures.words below c.without-word.ensures c.put_word.ensures in
    record {
      rows = c.put_word.ensures.rows ∙ inv.rows;
      columns = c.put_word.ensures.columns ∙ inv.columns;
      end = inv.end;
      here = λ r k h e.
          ⊎_elim
          (λ (same : r ≡ row).
          subst (λ s. has_bit after s k ≡ (has_bit before s k && not (is_bit_set c.args.left (k % 64)))) (sym same)
          (here k e ∙ ap (λ b. b && not (is_bit_set c.args.left (k % 64))) (inv.later row k (omega arith))))
          (λ other. else r k (λ s _. other s) ∙ inv.here r k (omega (arith, h, other)) e)
          (cases_eq r row);
      later = λ r k h. else r k (λ s _. absurd (omega (arith, s, h))) ∙ inv.later r k (omega (arith, h));
      others = λ r k far. else r k (λ _ e. far e) ∙ inv.others r k far;
    }
