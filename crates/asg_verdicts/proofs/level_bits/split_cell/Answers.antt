use Rattle.asg_verdicts.proofs.LevelCommon.{◌≡◌, ◌≤◌, true, not, ◌&&◌, Some, sym, ap, ◌∙◌, to_z-of_z, w64, to_z, of_z, rules, has_bit, value_in, value_of, level_value, passes_cost, is_between, cell_at}
use Rattle.asg_verdicts.proofs.BitSquares.{one_by_test, value_none}
use Rattle.asg_verdicts.proofs.LevelStarts.{value_small}
use Rattle.asg_verdicts.proofs.level_bits.split_cell.Goals as goal

-- the cell isn't left
pub returns-then-not-has-clause-here : goal.returns-then-not-has-clause-here
returns-then-not-has-clause-here c =
    let walk = c.args.walk.now in
    let cell = cell_at c.args.square.now c.args.row c.args.column in
    c.requires.clear ∙ value_none (has_bit walk.left c.args.row c.args.column) walk.before c.args.level.now.cost cell (sym c.has.ensures ∙ c.if-not-has.true)

-- it holds 0 or 1
pub returns-in-Some-clause-here : goal.returns-in-Some-clause-here
returns-in-Some-clause-here c =
    let walk = c.args.walk.now in
    let level = c.args.level.now in
    let there = cell_at c.args.square.now c.args.row c.args.column in
    let cost : to_z w64 (of_z w64 level.cost) ≡ level.cost = to_z-of_z w64 level.cost (search rules) in
    let held : c.level_cell.result ≡ value_in c.args.square.now walk level c.args.row c.args.column =
    c.level_cell.ensures
    ∙ ap (λ z. level_value c.stays-is_left.result z c.at-cell.result) cost
    ∙ ap (λ b. level_value b level.cost c.at-cell.result) (c.stays-is_left.ensures ∙ ap (λ z. true && not (passes_cost (is_between walk.before z) c.at-cell.result)) cost)
    ∙ ap (λ b. value_of b walk.before level.cost c.at-cell.result) (sym (sym c.has.ensures ∙ c.if-not-has.false))
    ∙ ap (λ o. value_of (has_bit walk.left c.args.row c.args.column) walk.before level.cost o) c.at-cell.ensures in
    let small : c.in-Some.value ≤ 1 = value_small _ _ _ c.in-Some.value (sym c.level_cell.ensures ∙ c.in-Some.is) in
    c.put_value.ensures.here ∙ ap Some (one_by_test c.in-Some.value small) ∙ sym c.in-Some.is ∙ held

-- it holds nothing
pub returns-in-None-clause-here : goal.returns-in-None-clause-here
returns-in-None-clause-here c =
    let walk = c.args.walk.now in
    let level = c.args.level.now in
    let there = cell_at c.args.square.now c.args.row c.args.column in
    let cost : to_z w64 (of_z w64 level.cost) ≡ level.cost = to_z-of_z w64 level.cost (search rules) in
    let held : c.level_cell.result ≡ value_in c.args.square.now walk level c.args.row c.args.column =
    c.level_cell.ensures
    ∙ ap (λ z. level_value c.stays-is_left.result z c.at-cell.result) cost
    ∙ ap (λ b. level_value b level.cost c.at-cell.result) (c.stays-is_left.ensures ∙ ap (λ z. true && not (passes_cost (is_between walk.before z) c.at-cell.result)) cost)
    ∙ ap (λ b. value_of b walk.before level.cost c.at-cell.result) (sym (sym c.has.ensures ∙ c.if-not-has.false))
    ∙ ap (λ o. value_of (has_bit walk.left c.args.row c.args.column) walk.before level.cost o) c.at-cell.ensures in
    c.requires.clear ∙ sym c.in-None.is ∙ held
