use Rattle.asg_hall_windows.proofs.Common.{length, ◌≡◌, ℕ, ◌<◌, ◌≤◌, true, get_or, sym, ap, ◌∙◌, subst, ⊎_elim, arith, below_more, cases_lt, get_or_default, Some, is_counted_id, row_place_of}
use Rattle.asg_hall_windows.proofs.CellLemmas.{counted_there}
use Rattle.asg_hall_windows.proofs.MarkLemmas.{keeps_both, marked_on}
use Rattle.asg_hall_windows.proofs.named.name_rows.Goals as goal

pub loop-id-preserved : goal.loop-id-preserved
loop-id-preserved c =
    let X = c.args.inst.now in
    let ids = c.args.ids.now in
    let i = c.loop-id.id-index in
    let within = c.loop-id-test.true in
    let before = c.loop-id.named in
    let after = c.name_row.new.named in
    let kept = c.name_row.ensures.kept in
    let names = c.name_row.ensures.names c.if-not-name_row.false in
    let same = λ (j d : ℕ). λ (h : j < length ids). get_or_default ids j d 0 h in
    record {
      kept = keeps_both c.args.named.now before after c.loop-id.invariant.kept kept;
      counted = below_more _ _ c.loop-id.invariant.counted (λ d. subst (λ id. is_counted_id X id ≡ true) (sym (same i d within)) names.counted);
      marked = below_more _ _ (λ k early d r place. marked_on before after r c.args.window kept (c.loop-id.invariant.marked k early d r place))
          (λ d r place. names.marked r (subst (λ id. row_place_of X id ≡ Some r) (same i d within) place));
      different = λ j k d first last.
          ⊎_elim
          (λ (early : k < i). c.loop-id.invariant.different j k d first early)
          (λ (late : i ≤ k). λ (equal : get_or ids j d ≡ get_or ids k d).
          let at : k ≡ i = omega (arith, late, last) in
          let earlier : j < i = omega (arith, at, first) in
          let id : get_or ids j d ≡ get_or ids i 0 = equal ∙ ap (λ n. get_or ids n d) at ∙ same i d within in
          let found = counted_there X (get_or ids i 0) names.counted in
          names.fresh found.0 found.1 (c.loop-id.invariant.marked j earlier d found.0 (subst (λ n. row_place_of X n ≡ Some found.0) (sym id) found.1)))
          (cases_lt k i);
    }
