use Rattle.asg_model.proofs.Common.{◌≡◌, ◌*◌, true, length, sym, ap, ◌∙◌, shaped, is_range_of}
use Rattle.asg_model.proofs.ShapeLemmas.{shaped_is_stored, range_in, range_out, total_shaped}
use Rattle.asg_model.proofs.instances.Instance.shape.Goals as goal

pub invariant_of-self : goal.invariant_of-self
invariant_of-self c =
    let s = c.self.inside in
    let place = c.args.place in
    let each = c.args.each in
    let range : is_range_of place (length s.rows.items) (length s.columns.items * each) ≡ true =
    ap (λ xs. is_range_of place (length xs) (length s.columns.items * each)) (ap (λ X. X.rows) c.self.view_is ∙ sym c.rows.ensures.rows)
    ∙ ap (λ xs. is_range_of place (length c.rows.result.now) (length xs * each)) (ap (λ X. X.columns) c.self.view_is ∙ sym c.columns.ensures.columns)
    ∙ sym c.is_in_range.ensures
    ∙ c.if-is_in_range.true in
    shaped_is_stored s.rows.items s.columns.items c.set_capacities.new.columns.items s.store s.place place each c.self.invariant c.requires.some c.requires.few range c.set_capacities.ensures

pub returns-then-is_in_range-clause-in_range : goal.returns-then-is_in_range-clause-in_range
returns-then-is_in_range-clause-in_range c =
    let X = c.args.self.now in
    let place = c.args.place in
    let each = c.args.each in
    range_in (shaped X place each) place (length c.rows.result.now) (length c.columns.result.now * each)
    (ap length c.rows.ensures.rows)
    (ap (λ xs. length xs * each) c.columns.ensures.columns ∙ sym (total_shaped X place each))
    (sym c.is_in_range.ensures ∙ c.if-is_in_range.true)

pub returns-else-is_in_range-clause-out_of_range : goal.returns-else-is_in_range-clause-out_of_range
returns-else-is_in_range-clause-out_of_range c =
    let X = c.args.self.now in
    let place = c.args.place in
    let each = c.args.each in
    range_out (shaped X place each) place (length c.rows.result.now) (length c.columns.result.now * each)
    (ap length c.rows.ensures.rows)
    (ap (λ xs. length xs * each) c.columns.ensures.columns ∙ sym (total_shaped X place each))
    (sym c.is_in_range.ensures ∙ c.if-is_in_range.false)
