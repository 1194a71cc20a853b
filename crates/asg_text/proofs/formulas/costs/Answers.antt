use Rattle.asg_text.proofs.FormulaCommon.{◌≡◌, ℕ, [], ◌∷◌, ◌++◌, ℤ, pos, FitsSigned, sym, ap, ◌∙◌, arith, to_z-of_z, w64, to_z, of_z, rules, map-range_with_len_more, cost_of_place}
use Rattle.asg_text.proofs.formulas.costs.Goals as goal

pub loop-place-preserved : goal.loop-place-preserved
loop-place-preserved c =
    let f : ℕ → ℤ = λ k. pos (cost_of_place c.args.seed c.args.side k) in
    let fits : FitsSigned w64 c.from.result = search rules in
    let value : to_z w64 (of_z w64 c.from.result) ≡ f c.loop-place.place = to_z-of_z w64 c.from.result fits ∙ c.from.ensures ∙ ap pos c.cost.ensures in
    c.in_ok-push.ensures.items ∙ (λ i. c.loop-place.invariant i ++ value i ∷ []) ∙ sym (map-range_with_len_more f 0 c.loop-place.place c.loop-place.place (omega arith))
