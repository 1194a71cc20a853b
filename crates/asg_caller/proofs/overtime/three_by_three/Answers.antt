use Rattle.std.proofs.Common.{[], ◌∷◌, ◌∙◌}
use Rattle.asg_caller.proofs.ThreeByThree.{are_well_formed, has_small_side}
use Rattle.asg_caller.proofs.overtime.three_by_three.Goals as goal

pub of_table-requires-clause-parts : goal.of_table-requires-clause-parts
of_table-requires-clause-parts c = are_well_formed _ _
    (c.in_ok-rows.ensures.items ∙ (λ i. c.row.ensures i ∷ c.row-2.ensures i ∷ c.row-3.ensures i ∷ []))
    (c.in_ok-columns.ensures.items ∙ (λ i. c.column.ensures i ∷ c.column-2.ensures i ∷ c.column-3.ensures i ∷ []))

pub returns-clause-side : goal.returns-clause-side
returns-clause-side c = has_small_side _ _
    (c.in_ok-rows.ensures.items ∙ (λ i. c.row.ensures i ∷ c.row-2.ensures i ∷ c.row-3.ensures i ∷ []))
    (c.in_ok-columns.ensures.items ∙ (λ i. c.column.ensures i ∷ c.column-2.ensures i ∷ c.column-3.ensures i ∷ []))
    _ _ c.of_table.ensures
