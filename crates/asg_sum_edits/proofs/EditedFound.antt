-- What was found goes on to hold where a cell got a cost.
use Rattle.asg_sum_edits.proofs.Common.{◌≡◌, ℕ, zero, suc, ◌+◌, ◌≤◌, Bool, true, false, cond, ◌&&◌, ◌≢◌, List, length, get_or, replicate, IsSome, IsTrue, slice_get, slice_index, Some, None, sum_by, sum, Option, filter_map, sym, refl, ap, ◌∙◌, subst, ⊎_elim, arith, cases_eq, false≢true, length-replicate, range_with_len, IsInstance, cost_at, is_active, is_open, live_at, Problem, IsValid, choice_value, costs_of, value_of, Objective, One, Cost, sum_entered, is_narrow_objective, Follows, IsSession, AreAbove, IsBestSum, IsOneToOne, chosen_sum, option_and_then}
use Rattle.std.proofs.Common.{unwrap_or}
use Rattle.asg_model.specs.Edits.{edited, place_of, with_cell_of}
use Rattle.asg_model.specs.HallSet.{row_place_of, column_place_of}
use Rattle.asg_model.specs.Limits.{most_side}
use Rattle.asg_model.specs.Shapes.{square_side}
use Rattle.asg_sum_edits.specs.declared.founds.Found.{Found}
use Rattle.asg_sum_edits.proofs.LeastLaw.{least_is_best}
use Rattle.asg_values.specs.laws.WrittenCells.{other_cell, put_here}
use Rattle.asg_model.specs.declared.edits.Edit.TheVariants.{Cost as SetCost}
use Rattle.asg_values.specs.laws.Options.{there_where}
use Rattle.asg_model.proofs.Kit.{same_Some}

module _ (X : Problem) (row col r c : ℕ) (cost : Cost) (at_row : row_place_of X row ≡ Some r) (at_column : column_place_of X col ≡ Some c) where
  abbrev Y : Problem
  Y = with_cell_of X row col (Some cost)

  row_is : (place_of X row col).0 ≡ r
  row_is = ap (λ o. unwrap_or o 0) at_row

  column_is : (place_of X row col).1 ≡ c
  column_is = ap (λ o. unwrap_or o 0) at_column

  other_live : (s d : ℕ) → ((s ≡ r) × (d ≡ c) → ⊥) → live_at Y s d ≡ live_at X s d
  other_live s d other =
      ap (λ o. cond (is_active X s && is_open X d) o None)
      (other_cell (place_of X row col) s d (λ same. other (sym same.0 ∙ row_is, sym same.1 ∙ column_is)) X.cells (Some cost))

  here_live : (s d : ℕ) (x : Cost) → s ≡ r → d ≡ c → live_at Y s d ≡ Some x → x ≡ cost
  here_live s d x e f live =
      let there = put_here (place_of X row col) cost X.cells in
      let at_s : cost_at Y.cells s (place_of X row col).1 ≡ Some cost = subst (λ k. cost_at Y.cells k (place_of X row col).1 ≡ Some cost) (row_is ∙ sym e) there in
      let at_d : cost_at Y.cells s d ≡ Some cost = subst (λ k. cost_at Y.cells s k ≡ Some cost) (column_is ∙ sym f) at_s in
      let is : cost_at Y.cells s d ≡ Some x = (there_where (is_active X s && is_open X d) (cost_at Y.cells s d) x live).1 in
      same_Some x cost (sym is ∙ at_d)

  above_put : (objective : Objective) (falls after rises : List ℕ) → AreAbove objective X falls rises → ((k : ℕ) → slice_index after k ≤ slice_index falls k) → slice_index after r ≤ sum_entered objective cost + slice_index rises c → AreAbove objective Y after rises
  above_put objective falls after rises above others low s d x live =
      ⊎_elim
      (λ (e : s ≡ r).
      ⊎_elim
      (λ (f : d ≡ c).
      let number : sum_entered objective x ≡ sum_entered objective cost = ap (sum_entered objective) (here_live s d x e f live) in
      let fall : slice_index after s ≡ slice_index after r = ap (slice_index after) e in
      let rise : slice_index rises d ≡ slice_index rises c = ap (slice_index rises) f in
      omega (arith, number, fall, rise, low))
      (λ apart. away (λ same. apart same.1))
      (cases_eq d c))
      (λ apart. away (λ same. apart same.0))
      (cases_eq s r)
    where
      away : ((s ≡ r) × (d ≡ c) → ⊥) → slice_index after s ≤ sum_entered objective x + slice_index rises d
      away other =
          let before = above s d x (sym (other_live s d other) ∙ live) in
          let fall = others s in
          omega (arith, before, fall)

  module _ (f : List (Option ℕ)) (apart : slice_get f r ≢ Some (Some c)) where
    chosen_other : (s d : ℕ) → slice_get f s ≡ Some (Some d) → (s ≡ r) × (d ≡ c) → ⊥
    chosen_other s d chosen same = apart (ap (slice_get f) (sym same.0) ∙ chosen ∙ ap (λ k. Some (Some k)) same.1)

    valid_put : IsValid X f → IsValid Y f
    valid_put valid = record {
      over = valid.over;
      alive = λ s d chosen. subst IsSome (sym (other_live s d (chosen_other s d chosen))) (valid.alive s d chosen);
      within = valid.within;
      counted = valid.counted;
    }

    same_by : (k : ℕ) (o : Option (Option ℕ)) → slice_get f k ≡ o → option_and_then (λ chosen. option_and_then (live_at Y k) chosen) o ≡ option_and_then (λ chosen. option_and_then (live_at X k) chosen) o
    same_by k None is = refl
    same_by k (Some None) is = refl
    same_by k (Some (Some d)) is = other_live k d (chosen_other k d is)

    costs_put : costs_of Y f ≡ costs_of X f
    costs_put = λ i. filter_map (λ k. same_by k (slice_get f k) refl i) (range_with_len 0 (length f))

pub session_put : (objective : Objective) (X : Problem) (row col r c : ℕ) (cost : Cost) (before after : Found) (stands known knows : Bool) → row_place_of X row ≡ Some r → column_place_of X col ≡ Some c → IsSession objective X stands known before → Follows objective before after known r c cost knows → IsSession objective (edited X (SetCost row col cost)) stands knows after
session_put objective X row col r c cost before after stands known knows at_row at_column session follows = record {
  narrow = session.narrow;
  small = session.small;
  one_to_one = λ stand. let one_to_one = session.one_to_one stand in record { all = one_to_one.all; single = one_to_one.single };
  held = λ stand.
      let held = session.held stand in
      record {
        over_rows = follows.count ∙ held.over_rows;
        over_columns = ap length follows.rises ∙ held.over_columns;
        over = ap length follows.choice ∙ held.over;
        above =
            subst (λ rises. AreAbove objective (edited X (SetCost row col cost)) after.falls.items rises) (sym follows.rises)
            (above_put X row col r c cost at_row at_column objective before.falls.items after.falls.items before.rises.items held.above follows.others follows.low);
      };
  least = λ stand is.
      let least = session.least stand (follows.was is) in
      let apart = follows.apart is in
      let costs = costs_put X row col r c cost at_row at_column before.choice apart in
      let valid = valid_put X row col r c cost at_row at_column before.choice apart least.valid in
      let chosen : chosen_sum objective (edited X (SetCost row col cost)) after.choice ≡ chosen_sum objective X before.choice =
      ap (chosen_sum objective (edited X (SetCost row col cost))) follows.choice ∙ ap (sum_by (sum_entered objective)) costs in
      let rises : sum after.rises.items ≡ sum before.rises.items = ap sum follows.rises in
      let falls : sum after.falls.items ≡ sum before.falls.items = ap sum (follows.falls is) in
      record {
        valid = subst (IsValid (edited X (SetCost row col cost))) (sym follows.choice) valid;
        balance = omega (arith, chosen, rises, falls, least.balance);
        value = ap (choice_value objective (edited X (SetCost row col cost))) follows.choice ∙ ap (value_of objective) costs ∙ least.value ∙ ap One (sym follows.sum);
      };
}

-- ---- a sum that is known

pub best_sum_is : (objective : Objective) (X : Problem) (stands known : Bool) (found : Found) → IsSession objective X stands known found → IsInstance X → stands ≡ true → known ≡ true → IsBestSum objective X found.sum
best_sum_is objective X stands known found session instance stand is =
    let held = session.held stand in
    let least = session.least stand is in
    (found.choice, least_is_best objective X found.falls.items found.rises.items found.choice session.narrow instance (session.one_to_one stand) held.over_rows held.above least.valid least.balance, least.value)

-- ---- where nothing was found

zeros : (n k : ℕ) → ◌≡◌ {A = ℕ} (get_or (replicate n 0) k 0) 0
zeros zero k = refl
zeros (suc n) zero = refl
zeros (suc n) (suc k) = zeros n k

pub session_open : (objective : Objective) (X : Problem) (stands : Bool) (found : Found) → IsTrue (is_narrow_objective objective) → square_side X ≤ most_side → (stands ≡ true → IsOneToOne X) → found.falls.items ≡ replicate (length X.rows) 0 → found.rises.items ≡ replicate (length X.columns) 0 → found.choice ≡ replicate (length X.rows) None → IsSession objective X stands false found
session_open objective X stands found narrow small one_to_one falls rises choice = record {
  narrow = narrow;
  small = small;
  one_to_one = one_to_one;
  held = λ stand.
      record {
        over_rows = ap length falls ∙ length-replicate (length X.rows) 0;
        over_columns = ap length rises ∙ length-replicate (length X.columns) 0;
        over = ap length choice ∙ length-replicate (length X.rows) None;
        above = λ r c cost live.
            let none : slice_index found.falls.items r ≡ 0 = ap (λ xs. get_or xs r 0) falls ∙ zeros (length X.rows) r in
            omega (arith, none);
      };
  least = λ stand known. absurd (false≢true known);
}
