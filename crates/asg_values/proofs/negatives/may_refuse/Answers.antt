use Rattle.asg_values.proofs.Common.{◌≡◌, ℕ, false, sym, subst, OnFalse_at, OnFalse_from, is_refused_at}
use Rattle.asg_values.proofs.RefusedParts.{passes_if_capped, passes_time_cost}
use Rattle.asg_values.proofs.negatives.may_refuse.Goals as goal

pub returns-in-Capped : goal.returns-in-Capped
returns-in-Capped c =
    OnFalse_from c.has_negative.result ((k : ℕ) → is_refused_at c.args.objective c.args.inst.now c.args.row k ≡ false)
    (λ none. passes_if_capped c.args.objective _ c.args.inst.now c.args.row _ _ c.in-Capped.is c.in-Some.ensures.parts (OnFalse_at none c.has_negative.ensures))

pub returns-in-TimeCost : goal.returns-in-TimeCost
returns-in-TimeCost c =
    OnFalse_from c.has_negative-in-TimeCost.result ((k : ℕ) → is_refused_at c.args.objective c.args.inst.now c.args.row k ≡ false)
    (λ none.
    subst (λ o. (k : ℕ) → is_refused_at o c.args.inst.now c.args.row k ≡ false) (sym c.in-TimeCost.is)
    (passes_time_cost c.args.inst.now c.args.row _ _ c.in-Some.ensures.parts (OnFalse_at none c.has_negative-in-TimeCost.ensures)))
