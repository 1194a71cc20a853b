-- Instances of whose cells some are taken out, by their places.
use Rattle.std.specs.Prelude.{◌≡◌, ℕ, ◌<◌, Bool, if◌then◌else◌, List, [], ◌∷◌, length, filter}
use Rattle.asg_model.specs.declared.parts.Cost.{Cost}
use Rattle.asg_model.specs.Problem.{Problem, problem_of}

-- the cells whose places are kept; a cell's place is that of its row and that of its column
abbrev pub kept_cells : (ℕ × ℕ → Bool) → List ((ℕ × ℕ) × Cost) → List ((ℕ × ℕ) × Cost)
kept_cells keeps cells = filter (λ cell. keeps cell.0) cells

-- the instance with the cells whose places are kept
abbrev pub retained : Problem → (ℕ × ℕ → Bool) → Problem
retained X keeps = problem_of X.rows X.columns (kept_cells keeps X.cells) X.place

-- each place of so many rows and columns may be asked
abbrev pub MayAskEach : ℕ → ℕ → (ℕ → ℕ → Type 0) → Type 0
MayAskEach rows columns may = (r c : ℕ) → r < rows → c < columns → may r c

-- what is answered at a place of so many rows and columns is whether it is kept
abbrev pub AnswersAs : ℕ → ℕ → (ℕ → ℕ → Bool → Type 0) → (ℕ × ℕ → Bool) → Type 0
AnswersAs rows columns answers keeps =
    (r c : ℕ) (b : Bool) → r < rows → c < columns → answers r c b → b ≡ keeps (r, c)

-- of the cells those are left, in order, at whose places the answer is true
abbrev pub RetainsCells : (ℕ → ℕ → Bool → Type 0) → List ((ℕ × ℕ) × Cost) → List ((ℕ × ℕ) × Cost) → Type 0
RetainsCells answers [] after = after ≡ []
RetainsCells answers (cell ∷ cells) after =
    (b : Bool) × (rest : List ((ℕ × ℕ) × Cost)) × answers cell.0.0 cell.0.1 b
    × RetainsCells answers cells rest × (after ≡ (if b then cell ∷ rest else rest))

-- whatever places the answers keep, the instance is that with the cells that are kept
abbrev pub Retains : (ℕ → ℕ → Bool → Type 0) → Problem → Problem → Type 0
Retains answers X after =
    (keeps : ℕ × ℕ → Bool) → AnswersAs (length X.rows) (length X.columns) answers keeps
    → after ≡ retained X keeps
