use Rattle.asg_dual_bounds.proofs.Common.{◌≡◌, ◌+◌, ◌≤◌, ◌≢◌, get_or, set, sym, ap, ◌∙◌, subst, ⊎_elim, arith, length-set, get_or-set_other, get_or-set_same, All-set, cases_eq, number_at, absent, number_of}
use Rattle.asg_dual_bounds.proofs.number_tables.fill_parts.Goals as goal

pub columns-preserved : goal.columns-preserved
columns-preserved c =
    let l = c.columns in
    let items = l.slots.items in
    let start = c.args.start in
    let place = start + l.column in
    let slot = c.slot_at.result in
    record {
      count = length-set items place slot ∙ l.invariant.count;
      low = All-set (λ x. x ≤ absent) items place slot c.slot_at.ensures.low l.invariant.low;
      filled = λ k h.
          ⊎_elim
          (λ (here : k ≡ l.column).
          subst (λ n. number_of (get_or (set items place slot) (start + n) 0) ≡ number_at c.args.objective c.args.inst.now c.args.row n) (sym here)
          (ap number_of (get_or-set_same items place slot 0 (omega (arith, c.columns-test.true, l.invariant.count, c.requires.room)))
          ∙ c.slot_at.ensures.number))
          (λ (apart : k ≢ l.column).
          ap number_of (get_or-set_other items place (start + k) slot 0 (λ (e : start + k ≡ place). apart (omega (arith, e))))
          ∙ l.invariant.filled k (omega (arith, h, apart)))
          (cases_eq k l.column);
      before = λ k h.
          get_or-set_other items place k slot 0 (λ (e : k ≡ place). absurd (omega (arith, e, h)))
          ∙ l.invariant.before k h;
    }
