-- Live costs enter as values, and the fold of a choice, row by row.
use Rattle.std.proofs.Common.{◌≡◌, ℕ, ◌+◌, false, List, [], ◌∷◌, ◌++◌, map, Option, Some, None, sym, ap, ◌∙◌}
use Rattle.std.specs.Prelude.{IfSome, MatchOption, filter_map, option_to_list}
use Rattle.std.specs.List.{range_with_len}
use Rattle.std.proofs.lemmas.List.{append-nil, map-append}
use Rattle.std.proofs.lemmas.List.Sums.{fold-append}
use Rattle.asg_model.specs.declared.objectives.Objective.{Objective}
use Rattle.asg_model.specs.declared.parts.Cost.{Cost}
use Rattle.asg_model.specs.Live.{live_at}
use Rattle.asg_model.specs.Problem.{Problem}
use Rattle.asg_model.specs.Refused.{is_refused, PassesNegative}
use Rattle.asg_order.specs.Entering.{IsWithin, LiesWithin, MayEnter}
use Rattle.asg_order.specs.Monoid.{Monoid, IsValue, fold_of}
use Rattle.asg_proof.specs.PhaseProofs.{EntersValues}
use Rattle.asg_model.specs.laws.Listing.{filter_map-range_more}

enters_at : (objective : Objective) (reach : ℕ) (P : Cost → Type 0) (o : Option Cost) → ((cost : Cost) → MayEnter objective reach cost → P cost) → IfSome o (IsWithin reach) → IfSome o (λ cost. is_refused objective cost ≡ false) → IfSome o P
enters_at objective reach P None each near passes = tt
enters_at objective reach P (Some cost) each near passes = each cost (record { within = near; passes = passes })

-- live costs within the reach that aren't refused enter as values
pub live_values : {V : Type 0} (M : Monoid V) (enter : Cost → V) (objective : Objective) (reach : ℕ) (X : Problem) → ((cost : Cost) → MayEnter objective reach cost → IsValue M (enter cost)) → LiesWithin reach X → PassesNegative objective X → EntersValues M enter X
live_values M enter objective reach X each near passes r c = enters_at objective reach (λ cost. IsValue M (enter cost)) (live_at X r c) each (near r c) (passes r c)

-- the product with one more row
pub fold_more : {V : Type 0} (M : Monoid V) (enter : Cost → V) (chosen : ℕ → Option Cost) (n : ℕ) (before after : V)
    → before ≡ fold_of M (map enter (filter_map chosen (range_with_len 0 n)))
    → MatchOption (chosen n) (after ≡ before) (λ cost. after ≡ M.product before (enter cost))
    → after ≡ fold_of M (map enter (filter_map chosen (range_with_len 0 (n + 1))))
fold_more {V} M enter chosen n before after is step =
    by (chosen n) step
    ∙ ap (λ costs. fold_of M (map enter costs)) (sym (filter_map-range_more chosen n))
  where
    xs : List Cost
    xs = filter_map chosen (range_with_len 0 n)

    by : (o : Option Cost) → MatchOption o (after ≡ before) (λ cost. after ≡ M.product before (enter cost)) → after ≡ fold_of M (map enter (xs ++ option_to_list o))
    by None same = same ∙ is ∙ ap (λ costs. fold_of M (map enter costs)) (sym (append-nil xs))
    by (Some cost) more =
        more ∙ ap (λ z. M.product z (enter cost)) is
        ∙ sym (ap (fold_of M) (map-append enter xs (cost ∷ [])) ∙ fold-append M.product M.unit (map enter xs) (enter cost ∷ []))
