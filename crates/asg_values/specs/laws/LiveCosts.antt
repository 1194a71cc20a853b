-- Each live cost of an edited instance was live, or is given by the edit.
use Rattle.std.proofs.Common.{◌≡◌, ◌⊎◌, ℕ, Bool, true, false, cond, ◌&&◌, ◌==◌, eqb, List, map, Option, Some, None, refl, sym, ap, subst, ◌∙◌, ⊎_elim, inl, inr, arith}
use Rattle.std.specs.Prelude.{IfSome, slice_get}
use Rattle.std.specs.Option.{option_map, option_map_or}
use Rattle.std.proofs.lemmas.Bool.{cases_Bool, eqb-true, eq-eqb, and_from, and_parts, false≢true}
use Rattle.std.proofs.lemmas.Option.{slice_get-map}
use Rattle.asg_model.specs.declared.edits.Edit.{Edit}
use Rattle.asg_model.specs.declared.edits.Edit.TheVariants.{Cost as SetCost, Forbid, DropRow, DropColumn}
use Rattle.asg_model.specs.declared.edits.EditRefusal.TheVariants.{NoMemory}
use Rattle.asg_model.specs.declared.objectives.Objective.{Objective}
use Rattle.asg_model.specs.declared.parts.Column.{Column}
use Rattle.asg_model.specs.declared.parts.Cost.{Cost}
use Rattle.asg_model.specs.declared.parts.Row.{Row}
use Rattle.asg_model.specs.Edits.{closed, dropped, edited, given_cost, place_of, refusal_of, with_cell}
use Rattle.asg_model.specs.Instances.{IsInstance}
use Rattle.asg_model.specs.Live.{cost_at, is_active, is_open, live_at}
use Rattle.asg_model.specs.Problem.{Problem}
use Rattle.asg_model.specs.Refused.{is_refused, PassesNegative}
use Rattle.asg_values.specs.laws.Passed.{none_applies}
use Rattle.asg_values.specs.laws.WrittenCells.{other_cell, written_cell}

put_live : (X : Problem) (place : ℕ × ℕ) (cell : Option Cost) → IsInstance X → (r c : ℕ) (x : Cost) → cond (is_active X r && is_open X c) (cost_at (with_cell X.cells place cell) r c) None ≡ Some x → (live_at X r c ≡ Some x) ⊎ (cell ≡ Some x)
put_live X place cell is r c x live =
    ⊎_elim
    (λ yes.
    let parts = and_parts (eqb place.0 r) (eqb place.1 c) yes in
    let p = eqb-true place.0 r parts.0 in
    let q = eqb-true place.1 c parts.1 in
    let here = written_cell place r c p q X.cells cell is.cells_ascend in
    inr (of_cond (is_active X r && is_open X c) cell (sym (ap (λ o. cond (is_active X r && is_open X c) o None) here) ∙ live)))
    (λ no.
    inl
    (sym
    (ap (λ o. cond (is_active X r && is_open X c) o None)
    (other_cell place r c
    (λ same. false≢true (sym no ∙ and_from (eqb place.0 r) (eqb place.1 c) (eq-eqb place.0 r same.0) (eq-eqb place.1 c same.1)))
    X.cells cell))
    ∙ live))
    (cases_Bool (eqb place.0 r && eqb place.1 c))
  where
    of_cond : (b : Bool) (o : Option Cost) → cond b o None ≡ Some x → o ≡ Some x
    of_cond true o e = e
    of_cond false o e = absurd (let none = e in cc)

fewer_rows : (a b o : Bool) (cell : Option Cost) (x : Cost) → (a ≡ true → b ≡ true) → cond (a && o) cell None ≡ Some x → cond (b && o) cell None ≡ Some x
fewer_rows true b o cell x more live = subst (λ t. cond (t && o) cell None ≡ Some x) (sym (more refl)) live
fewer_rows false b o cell x more live = absurd (let none = live in cc)

fewer_columns : (a b o : Bool) (cell : Option Cost) (x : Cost) → (a ≡ true → b ≡ true) → cond (o && a) cell None ≡ Some x → cond (o && b) cell None ≡ Some x
fewer_columns true b o cell x more live = subst (λ t. cond (o && t) cell None ≡ Some x) (sym (more refl)) live
fewer_columns false b true cell x more live = absurd (let none = live in cc)
fewer_columns false b false cell x more live = absurd (let none = live in cc)

still_active : (id : ℕ) (rows : List Row) (r : ℕ) → option_map_or (λ (row : Row). row.active) (slice_get (map (dropped id) rows) r) false ≡ true → option_map_or (λ (row : Row). row.active) (slice_get rows r) false ≡ true
still_active id rows r active =
    of_row (slice_get rows r) (sym (ap (λ (o : Option Row). option_map_or (λ row. row.active) o false) (slice_get-map (dropped id) rows r)) ∙ active)
  where
    of_test : (b : Bool) (row : Row) → (cond b (record row { active = false }) row).active ≡ true → row.active ≡ true
    of_test true row e = absurd (false≢true e)
    of_test false row e = e

    of_row : (o : Option Row) → option_map_or (λ (row : Row). row.active) (option_map (dropped id) o) false ≡ true → option_map_or (λ (row : Row). row.active) o false ≡ true
    of_row None e = e
    of_row (Some row) e = of_test (row.id == id) row e

still_open : (id : ℕ) (columns : List Column) (c : ℕ) → option_map_or (λ (column : Column). column.usable) (slice_get (map (closed id) columns) c) false ≡ true → option_map_or (λ (column : Column). column.usable) (slice_get columns c) false ≡ true
still_open id columns c usable =
    of_column (slice_get columns c) (sym (ap (λ (o : Option Column). option_map_or (λ column. column.usable) o false) (slice_get-map (closed id) columns c)) ∙ usable)
  where
    of_test : (b : Bool) (column : Column) → (cond b (record column { usable = false }) column).usable ≡ true → column.usable ≡ true
    of_test true column e = absurd (false≢true e)
    of_test false column e = e

    of_column : (o : Option Column) → option_map_or (λ (column : Column). column.usable) (option_map (closed id) o) false ≡ true → option_map_or (λ (column : Column). column.usable) o false ≡ true
    of_column None e = e
    of_column (Some column) e = of_test (column.id == id) column e

live_edited : (X : Problem) (edit : Edit) → IsInstance X → (r c : ℕ) (x : Cost) → live_at (edited X edit) r c ≡ Some x → (live_at X r c ≡ Some x) ⊎ (given_cost edit ≡ Some x)
live_edited X (SetCost row col cost) is r c x live = put_live X (place_of X row col) (Some cost) is r c x live
live_edited X (Forbid row col) is r c x live = put_live X (place_of X row col) None is r c x live
live_edited X (DropRow row) is r c x live =
    inl (fewer_rows (is_active (edited X (DropRow row)) r) (is_active X r) (is_open X c) (cost_at X.cells r c) x (still_active row X.rows r) live)
live_edited X (DropColumn col) is r c x live =
    inl (fewer_columns (is_open (edited X (DropColumn col)) c) (is_open X c) (is_active X r) (cost_at X.cells r c) x (still_open col X.columns c) live)

-- what holds of all live costs and of the one that is given holds of those after it
pub edited_costs : (P : Cost → Type 0) (X : Problem) (edit : Edit) → IsInstance X → ((x : Cost) → given_cost edit ≡ Some x → P x) → ((r c : ℕ) → IfSome (live_at X r c) P) → (r c : ℕ) → IfSome (live_at (edited X edit) r c) P
edited_costs P X edit is gives before r c =
    each (live_at (edited X edit) r c)
    (λ x live.
    ⊎_elim
    (λ (was : live_at X r c ≡ Some x). subst (λ o. IfSome o P) was (before r c))
    (λ (given : given_cost edit ≡ Some x). gives x given)
    (live_edited X edit is r c x live))
  where
    each : (o : Option Cost) → ((x : Cost) → o ≡ Some x → P x) → IfSome o P
    each None holds = tt
    each (Some x) holds = holds x refl

-- the objective refuses none after an edit that isn't refused
pub given_passes : (objective : Objective) (X : Problem) (edit : Edit) → refusal_of objective X edit ≡ None → (x : Cost) → given_cost edit ≡ Some x → is_refused objective x ≡ false
given_passes objective X edit passes x given =
    subst (λ o. option_map_or (is_refused objective) o false ≡ false) given (none_applies objective X edit passes 6 NoMemory (omega arith))

pub PassesNegative-edited : (objective : Objective) (X : Problem) (edit : Edit) → refusal_of objective X edit ≡ None → IsInstance X → PassesNegative objective X → PassesNegative objective (edited X edit)
PassesNegative-edited objective X edit passes is =
    edited_costs (λ cost. is_refused objective cost ≡ false) X edit is (given_passes objective X edit passes)
