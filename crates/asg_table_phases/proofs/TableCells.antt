-- The cells of the square of an instance, by what its rows and columns stand for.
use Rattle.asg_table_phases.proofs.Common.{◌≡◌, ℕ, ◌<◌, Bool, true, false, cond, ◌&&◌, List, length, nat_lt, Some, None, Option, option_map, ◌⊎◌, inl, inr, sym, refl, ap, ◌∙◌, subst, ⊎_elim, arith, same_Some, is_counted, live_at, Problem, square_side, Cost, Objective, sum_entered, square_cell, column_label, row_label, labelled_cell, extra_column_cell, corner_cell, AreTops, FitCells, FitFree, FitsRows, is_free_cell}
use Rattle.asg_model.specs.declared.parts.Place.{Place}
use Rattle.asg_model.specs.declared.parts.Place.TheVariants.{All as PlaceAll, Exactly}
use Rattle.asg_square.specs.laws.Rows.{row-from_counted}

-- a live cell of a row and a column of the instance, that enters as this
pub record IsEntered {V : Type 0} (X : Problem) (enter : Cost → V) (r k : ℕ) (x : V) : Type 0 where
  pub row : row_label X r ≡ Some r
  pub column : ℕ
  pub label : column_label X k ≡ Some column
  pub cost : Cost
  pub live : live_at X r column ≡ Some cost
  pub is : enter cost ≡ x

-- a free cell, which has the value of these
pub record IsFree {V : Type 0} (X : Problem) (unit : V) (r k : ℕ) (x : V) : Type 0 where
  pub free : is_free_cell X.place (row_label X r) (column_label X k) ≡ true
  pub is : x ≡ unit

abbrev pub IsCell : {V : Type 0} → Problem → V → (Cost → V) → ℕ → ℕ → V → Type 0
IsCell X unit enter r k x = IsEntered X enter r k x ⊎ IsFree X unit r k x

inside : {V : Type 0} (b : Bool) (o : Option V) (x : V) → cond b o None ≡ Some x → o ≡ Some x
inside true o x e = e
inside false o x e = cc

-- what a row stands for is itself
own : (b : Bool) (r s : ℕ) → cond b (Some r) None ≡ Some s → s ≡ r
own true r s e = same_Some s r (sym e)
own false r s e = cc

none_free : {V : Type 0} (place : Place) (unit x : V) → extra_column_cell place unit ≡ Some x → (is_free_cell place (Some 0) None ≡ true) × (x ≡ unit)
none_free PlaceAll unit x e = cc
none_free (Exactly k) unit x e = (refl, same_Some x unit (sym e))

corner_free : {V : Type 0} (place : Place) (unit x : V) → corner_cell place unit ≡ Some x → (is_free_cell place None None ≡ true) × (x ≡ unit)
corner_free PlaceAll unit x e = (refl, same_Some x unit (sym e))
corner_free (Exactly k) unit x e = cc

module _ {V : Type 0} (X : Problem) (unit : V) (enter : Cost → V) (r k : ℕ) (x : V) where
  -- a cell of what its row and its column stand for
  by_labels : (row column : Option ℕ) → row_label X r ≡ row → column_label X k ≡ column → labelled_cell X unit enter row column ≡ Some x → IsCell X unit enter r k x
  by_labels (Some s) (Some d) row column is =
      let same : s ≡ r = own (is_counted X r) r s row in
      live (live_at X r d) refl (subst (λ n. option_map enter (live_at X n d) ≡ Some x) same is)
    where
      live : (o : Option Cost) → live_at X r d ≡ o → option_map enter o ≡ Some x → IsCell X unit enter r k x
      live None at e = absurd (cc)
      live (Some cost) at e = inl (record {
        row = row ∙ ap Some (own (is_counted X r) r s row);
        column = d;
        label = column;
        cost = cost;
        live = at;
        is = same_Some (enter cost) x e;
      })
  by_labels (Some s) None row column is =
      let found = none_free X.place unit x is in
      inr (record { free = ap (λ o. is_free_cell X.place o (column_label X k)) row ∙ ap (is_free_cell X.place (Some s)) column ∙ found.0; is = found.1 })
  by_labels None (Some d) row column is =
      inr (record { free = ap (λ o. is_free_cell X.place o (column_label X k)) row ∙ ap (is_free_cell X.place None) column; is = same_Some x unit (sym is) })
  by_labels None None row column is =
      let found = corner_free X.place unit x is in
      inr (record { free = ap (λ o. is_free_cell X.place o (column_label X k)) row ∙ ap (is_free_cell X.place None) column ∙ found.0; is = found.1 })

  -- a present cell of the square is a live cell or a free one
  pub cell_of : square_cell X unit enter r k ≡ Some x → IsCell X unit enter r k x
  cell_of is =
      by_labels (row_label X r) (column_label X k) refl refl
      (inside (nat_lt r (square_side X) && nat_lt k (square_side X)) (labelled_cell X unit enter (row_label X r) (column_label X k)) x is)

-- a row that stands for one of the instance is one
pub row_there : (X : Problem) (r : ℕ) → row_label X r ≡ Some r → r < length X.rows
row_there X r label = row-from_counted X X.place r (counted (is_counted X r) label)
  where
    counted : (b : Bool) → cond b (Some r) None ≡ Some r → b ≡ true
    counted true e = refl
    counted false e = cc

-- where the rows fit by the greatest numbers of copies, and the free cells do, all cells fit
pub cells_fit : (objective : Objective) (X : Problem) (rows columns tops : List ℕ) → length rows ≡ square_side X → length columns ≡ square_side X → AreTops X columns tops → FitsRows objective X rows tops → FitFree X rows columns → FitCells objective X rows columns
cells_fit objective X rows columns tops rows_count columns_count top live free r k x hr hk is =
    ⊎_elim
    (λ (cell : IsEntered X (sum_entered objective) r k x).
    let fits = live r (row_there X r cell.row) cell.column cell.cost cell.live in
    let above = top k cell.column (omega (arith, hk, columns_count)) cell.label in
    omega (arith, fits, above, cell.is))
    (λ (cell : IsFree X 0 r k x).
    let fits = free r k (omega (arith, hr, rows_count)) (omega (arith, hk, columns_count)) cell.free in
    omega (arith, fits))
    (cell_of X 0 (sum_entered objective) r k x is)
