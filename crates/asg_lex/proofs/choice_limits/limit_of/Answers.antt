use Rattle.asg_lex.proofs.Common.{◌≡◌, Some, subst, ⊎_elim, arith, cases_eq, slice_get_within, live_at, Chooses}
use Rattle.asg_lex.proofs.choice_limits.limit_of.Goals as goal

pub loop-row-preserved : goal.loop-row-preserved
loop-row-preserved c =
    let inv = c.loop-row.invariant in
    let row = c.loop-row.row in
    let more = c.above_row-limit.ensures.more in
    record {
      some = omega (arith, inv.some, more);
      few = c.above_row-limit.ensures.few;
      under = λ r d cost h chooses live.
          ⊎_elim
          (λ (here : r ≡ row). c.above_row-limit.ensures.above d cost (subst (λ s. Chooses c.args.choice.now s d) here chooses) (subst (λ s. live_at c.args.inst.now s d ≡ Some cost) here live))
          (λ other. let before = inv.under r d cost (omega (arith, h, other)) chooses live in omega (arith, before, more))
          (cases_eq r row);
    }

pub returns-clause-under : goal.returns-clause-under
returns-clause-under c r d cost chooses live =
    let all = c.loop-row-test.false in
    c.loop-row.invariant.under r d cost (omega (arith, all, c.loop-row.auto.row-end, slice_get_within c.args.choice.now r (Some d) chooses)) chooses live
