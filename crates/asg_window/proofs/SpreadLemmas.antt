-- Extremes of grades, and spreads.
use Rattle.asg_window.proofs.Common.{◌≡◌, ℕ, ◌+◌, ◌-◌, ◌*◌, ◌<◌, ◌≤◌, cond, List, get_or, is_some, IsSome, slice_index, Some, None, sym, ap, ◌∙◌, subst, ⊎_elim, arith, le-ltb, cases_lt, false≢true, same_Some, Grid, cell_at, IsPerm, IsAssignmentWithin, IsSpread, AreExtremes, IsOneMore, no_bound}
use Rattle.asg_window.specs.declared.spreads.Extremes.{Extremes}
use Rattle.asg_values.specs.laws.Options.{some_there}

-- what stands in a cell that is there
pub cell_there : (Q : Grid ℕ) (r c : ℕ) → IsSome (cell_at Q r c) → (g : ℕ) × (cell_at Q r c ≡ Some g)
cell_there Q r c h = some_there (cell_at Q r c) h

-- a cell that is there has a column of the square
pub cell_column : (Q : Grid ℕ) (r c : ℕ) → IsSome (cell_at Q r c) → c < Q.side
cell_column Q r c h =
    ⊎_elim
    (λ (below : c < Q.side). below)
    (λ (past : Q.side ≤ c). absurd (false≢true (sym (ap (λ b. is_some (cond b (get_or Q.cells (r * Q.side + c) None) None)) (le-ltb c Q.side past)) ∙ h)))
    (cases_lt c Q.side)

-- one more row
pub extremes_more : (Q : Grid ℕ) (perm : List ℕ) (row : ℕ) (before after : Extremes) → AreExtremes Q perm row before → IsOneMore before (cell_at Q row (slice_index perm row)) after → AreExtremes Q perm (row + 1) after
extremes_more Q perm row before after e more = record {
  top = more.top;
  holds = λ r grade h cell live.
      ⊎_elim
      (λ (less : r < row).
      let at = e.holds r grade less cell live in
      let low = at.0 in
      let high = at.1 in
      let lower = more.lower in
      let higher = more.higher in
      (omega (arith, low, lower), omega (arith, high, higher)))
      (λ (from : row ≤ r).
      let here : r ≡ row = omega (arith, h, from) in
      more.holds grade (subst (λ k. cell_at Q k (slice_index perm k) ≡ Some grade) here cell) live)
      (cases_lt r row);
  least = λ bound fits each.
      more.least bound (e.least bound fits (λ r grade h cell live. each r grade (omega (arith, h)) cell live))
      (λ grade cell live. each row grade (omega arith) cell live);
  greatest = λ bound each.
      more.greatest bound (e.greatest bound (λ r grade h cell live. each r grade (omega (arith, h)) cell live))
      (λ grade cell live. each row grade (omega arith) cell live);
}

module _ (Q : Grid ℕ) (perm : List ℕ) (p : IsPerm Q perm) (extremes : Extremes) (e : AreExtremes Q perm Q.side extremes) where
  abbrev spread : ℕ
  spread = extremes.greatest - extremes.least

  within_extremes : IsAssignmentWithin Q extremes.least (extremes.least + spread + 1) perm
  within_extremes = record {
    over = p.over;
    apart = p.apart;
    cells = λ r h.
        let there = cell_there Q r (slice_index perm r) (p.present r h) in
        record {
          row = h;
          column = cell_column Q r (slice_index perm r) (p.present r h);
          grade = there.0;
          cell = there.1;
          inside = λ live.
              let at = e.holds r there.0 h there.1 live in
              let low = at.0 in
              let high = at.1 in
              (low, omega (arith, low, high));
        };
  }

  -- what is known of live cells in a band
  live_in : (from count : ℕ) → IsAssignmentWithin Q from (from + count) perm → (r grade : ℕ) → r < Q.side → cell_at Q r (slice_index perm r) ≡ Some grade → 0 < grade → (from ≤ grade) × (grade < from + count)
  live_in from count a r grade h cell live =
      let w = a.cells r h in
      let same : w.grade ≡ grade = same_Some w.grade grade (sym w.cell ∙ cell) in
      subst (λ g. (from ≤ g) × (g < from + count)) same (w.inside (omega (arith, same, live)))

  least_spread : (from count : ℕ) → 0 < count → IsAssignmentWithin Q from (from + count) perm → spread < count
  least_spread from count some a =
      ⊎_elim
      (λ (fits : from < no_bound + 1).
      let low = e.least from (omega (arith, fits)) (λ r grade h cell live. (live_in from count a r grade h cell live).0) in
      let high = e.greatest (from + count - 1) (λ r grade h cell live. let less = (live_in from count a r grade h cell live).1 in omega (arith, less)) in
      omega (arith, low, high, some))
      (λ (past : no_bound + 1 ≤ from).
      let low = e.least no_bound (omega arith) (λ r grade h cell live. let upto = (live_in from count a r grade h cell live).0 in omega (arith, upto, past)) in
      let top = e.top in
      omega (arith, low, top, some))
      (cases_lt from (no_bound + 1))

  pub IsSpread-extremes : IsSpread Q perm spread
  IsSpread-extremes = record { low = extremes.least; within = within_extremes; least = least_spread }
