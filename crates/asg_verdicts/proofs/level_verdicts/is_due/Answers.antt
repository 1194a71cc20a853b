use Rattle.asg_verdicts.proofs.LevelCommon.{◌≡◌, ◌≤◌, length, sym, ap, ◌∙◌, arith, to_z-of_z, w64, to_z, of_z, rules, eq-eqb, eqb-true, false≢true, costs_at, costs_of, is_after}
use Rattle.asg_verdicts.proofs.level_verdicts.is_due.Goals as goal

-- the cost isn't less
pub returns-then-not-is_after : goal.returns-then-not-is_after
returns-then-not-is_after c =
    let cost : to_z w64 (of_z w64 c.args.level.now.cost) ≡ c.args.level.now.cost = to_z-of_z w64 c.args.level.now.cost (search rules) in (
      λ yes. absurd (false≢true yes),
      λ due. absurd (false≢true (sym c.if-not-is_after.true ∙ c.is_after.ensures ∙ ap (is_after c.args.before) cost ∙ due.0)),
    )

-- no cell is counted
pub returns-then-level-eq0 : goal.returns-then-level-eq0
returns-then-level-eq0 c = (
  λ yes. absurd (false≢true yes),
  λ due. absurd (let some = due.1.0 in omega (arith, some, c.if-level-eq0.true)),
)

-- as many are chosen
pub returns : goal.returns
returns c =
    let X = c.args.inst.now in
    let level = c.args.level.now in
    let cost : to_z w64 (of_z w64 level.cost) ≡ level.cost = to_z-of_z w64 level.cost (search rules) in
    let after = c.is_after.ensures ∙ ap (is_after c.args.before) cost in
    let cells = c.count_of.ensures ∙ ap (λ z. length (costs_at z (costs_of X c.args.chosen.now))) cost in
    let some : 1 ≤ level.count = omega (arith, c.if-level-eq0.false) in (
      λ h. (sym after ∙ c.if-not-is_after.false, (some, sym cells ∙ eqb-true c.count_of.result level.count h)),
      λ due. eq-eqb c.count_of.result level.count (cells ∙ due.1.1),
    )
