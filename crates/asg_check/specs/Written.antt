-- The choices that written cells spell.
use Rattle.std.specs.Prelude.{◌≡◌, ◌≢◌, ◌==◌, if◌then◌else◌, ℕ, List, [], ◌∷◌, map, All, Option, Some, None}
use Rattle.asg_model.specs.declared.objectives.Objective.{Objective}
use Rattle.asg_model.specs.declared.parts.Row.{Row}
use Rattle.asg_model.specs.HallSet.{column_place_of}
use Rattle.asg_model.specs.Problem.{Problem}
use Rattle.asg_model.specs.ValidChoice.{IsValid}
use Rattle.asg_model.specs.Values.{choice_value}
use Rattle.asg_doc.specs.ChosenCells.{cells_by_id}
use Rattle.asg_doc.specs.declared.documents.Answer.{Answer}

-- a valid choice whose cells by id, in the order of the rows, are these
pub record IsWrittenAs (X : Problem) (cells : List (ℕ × ℕ)) (f : List (Option ℕ)) : Type 0 where
  pub valid : IsValid X f
  pub written : cells ≡ cells_by_id X f

-- valid choices whose cells by id, in the order of the rows, are those of the answers
pub record AreWrittenAs (X : Problem) (answers : List Answer) (choices : List (List (Option ℕ)))
    : Type 0 where
  pub valid : All (IsValid X) choices
  pub written : map (λ answer. answer.cells) answers ≡ map (cells_by_id X) choices

-- some valid choice has these cells, in the order of the rows
abbrev pub SpellChoice : Problem → List (ℕ × ℕ) → Type 0
SpellChoice X cells = (f : List (Option ℕ)) × IsWrittenAs X cells f

-- the cells of each answer are those of a valid choice
abbrev pub EachSpells : Problem → List Answer → Type 0
EachSpells X answers = All (λ answer. SpellChoice X answer.cells) answers

-- no valid choice has these cells, in the order of the rows
abbrev pub SpellNone : Problem → List (ℕ × ℕ) → Type 0
SpellNone X cells = (f : List (Option ℕ)) → IsWrittenAs X cells f → ⊥

-- the answer's cells are those of a valid choice, and its value is another than the choice's
abbrev pub HasWrongValue : Objective → Problem → Answer → Type 0
HasWrongValue objective X answer =
    (f : List (Option ℕ)) × IsWrittenAs X answer.cells f
    × (answer.value ≢ choice_value objective X f)

-- the answer's cells are those of a valid choice, and its value is the choice's
abbrev pub HasItsValue : Objective → Problem → Answer → Type 0
HasItsValue objective X answer =
    (f : List (Option ℕ)) × IsWrittenAs X answer.cells f
    × (answer.value ≡ choice_value objective X f)

-- the place of the column that the first of the cells gives the row: none where that names another
-- row, or no column
abbrev pub column_given : Problem → Row → List (ℕ × ℕ) → Option ℕ
column_given X row [] = None
column_given X row (cell ∷ cells) =
    if cell.0 == row.id then column_place_of X cell.1 else None

-- the cells that are left for the rows after one that chose this
abbrev pub cells_left : Option ℕ → List (ℕ × ℕ) → List (ℕ × ℕ)
cells_left (Some column) (cell ∷ cells) = cells
cells_left chosen cells = cells

-- what rows choose, each by the first of the cells that are left, and the cells that none reads
abbrev pub read_cells : Problem → List Row → List (ℕ × ℕ) → List (Option ℕ) × List (ℕ × ℕ)
read_cells X [] cells = ([], cells)
read_cells X (row ∷ rows) cells =
    let chosen = column_given X row cells in
    let more = read_cells X rows (cells_left chosen cells) in
    (chosen ∷ more.0, more.1)
