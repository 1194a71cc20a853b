use Rattle.asg_dual_bounds.proofs.Common.{◌≡◌, ℕ, get_or, slice_index, is_some, sym, ap, ◌∙◌, arith, get_or_default}
use Rattle.asg_dual_bounds.proofs.answer_tests.is_answer.Goals as goal

pub returns-clause-answer : goal.returns-clause-answer
returns-clause-answer c h objective X of =
    let columns = c.args.columns.now in
    let rows = c.write_rows.new.row_of in
    let over = c.if-columns-rows.false ∙ c.rows.ensures.rows in
    let own = c.are_placed.ensures.own h in
    record {
      over = over ∙ of.rows;
      alive = λ r below. ap is_some (of.numbers r (slice_index columns r)) ∙ c.are_placed.ensures.there h r (omega (arith, below, of.rows));
      different = λ r s d less within same.
          let first : get_or columns r d ≡ slice_index columns r = get_or_default columns r d 0 (omega (arith, less, within)) in
          let second : get_or columns s d ≡ slice_index columns s = get_or_default columns s d 0 within in
          let equal : r ≡ s = sym (own r (omega (arith, less, within, over))) ∙ ap (slice_index rows) (sym first ∙ same ∙ second) ∙ own s (omega (arith, within, over)) in
          absurd (omega (arith, less, equal));
    }
