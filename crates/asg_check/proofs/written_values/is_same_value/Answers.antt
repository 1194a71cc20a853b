use Rattle.asg_check.proofs.Common.{◌≡◌, sym, ◌∙◌}
use Rattle.std.specs.Cmp.Rules.{signed_items}
use Rattle.asg_check.proofs.written_values.is_same_value.Goals as goal

pub returns-in-Many-Many : goal.returns-in-Many-Many
returns-in-Many-Many c =
    let told = signed_items c.as_slice.result.now c.as_slice-in-Many-Many.result.now in
    (λ same. let items = told.0 (sym c.eq.ensures ∙ same) in cc, λ same. let items : c.as_slice.result.now ≡ c.as_slice-in-Many-Many.result.now = cc in c.eq.ensures ∙ told.1 items)
