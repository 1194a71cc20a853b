-- Cells of a row as they stand in a list: each live cell of the row is among them.
use Rattle.std.proofs.Common.{◌≡◌, ℕ, suc, ◌<◌, Bool, true, false, cond, ◌==◌, ◌&&◌, List, [], ◌∷◌, length, get_or, Some, sym, refl, ◌∙◌, arith}
use Rattle.std.proofs.lemmas.Bool.{and_parts, eqb-true}
use Rattle.std.proofs.lemmas.Option.{none-some, same_Some}
use Rattle.asg_model.specs.CellLists.{AreRowCells}
use Rattle.asg_model.specs.Live.{cost_at, live_at}
use Rattle.asg_model.specs.Problem.{Problem}
use Rattle.asg_model.specs.declared.parts.Cost.{Cost}
use Rattle.asg_values.specs.laws.LiveCells.{live_cell}

-- a list has a cell at this place, with this cost
pub record HasCellAt (cells : List ((ℕ × ℕ) × Cost)) (r c : ℕ) (x : Cost) : Type 0 where
  pub at : ℕ
  pub within : at < length cells
  pub is : (d : (ℕ × ℕ) × Cost) → get_or cells at d ≡ ((r, c), x)

found_front : (e : (ℕ × ℕ) × Cost) (cells : List ((ℕ × ℕ) × Cost)) (r c : ℕ) (x : Cost) (b : Bool) → ((e.0.0 == r) && (e.0.1 == c)) ≡ b → cond b (Some e.1) (cost_at cells r c) ≡ Some x → (cost_at cells r c ≡ Some x → HasCellAt cells r c x) → HasCellAt (e ∷ cells) r c x
found_front e cells r c x true same is later =
    let parts = and_parts (e.0.0 == r) (e.0.1 == c) same in
    record {
      at = 0;
      within = omega arith;
      is = λ d i. ((eqb-true e.0.0 r parts.0 i, eqb-true e.0.1 c parts.1 i), same_Some e.1 x is i);
    }
found_front e cells r c x false same is later =
    let found = later is in
    record { at = suc found.at; within = omega (arith, found.within); is = λ d. found.is d }

-- where a place has a cost, a cell of the list has it
pub cell_found : (cells : List ((ℕ × ℕ) × Cost)) (r c : ℕ) (x : Cost) → cost_at cells r c ≡ Some x → HasCellAt cells r c x
cell_found [] r c x is = absurd (none-some x is)
cell_found (e ∷ cells) r c x is = found_front e cells r c x ((e.0.0 == r) && (e.0.1 == c)) refl is (cell_found cells r c x)

-- a live cell of a row is one of its cells
pub live_cell_found : (X : Problem) (r c : ℕ) (x : Cost) (cells : List ((ℕ × ℕ) × Cost)) → AreRowCells X r cells → live_at X r c ≡ Some x → HasCellAt cells r c x
live_cell_found X r c x cells are live = cell_found cells r c x (sym (are.costs c) ∙ (live_cell X r c x live).2)
