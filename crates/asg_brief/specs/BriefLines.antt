-- Brief lines: each tells an answer in place of a document.
use Rattle.std.specs.Prelude.{◌≡◌, ◌⊎◌, ℕ, List, [], ◌∷◌, ◌++◌, All, FitsSigned, codes}
use Rattle.std.specs.Fmt.{decimal}
use Rattle.std.specs.Int.{w64}
use Rattle.asg_model.specs.declared.objectives.Objective.{Objective}
use Rattle.asg_model.specs.declared.objectives.Value.{Value}
use Rattle.asg_model.specs.declared.objectives.Value.TheVariants.{Many}
use Rattle.asg_model.specs.Counts.{placed}
use Rattle.asg_model.specs.Objectives.{objective_word}
use Rattle.asg_model.specs.Problem.{Problem}
use Rattle.asg_doc.specs.Text.{value_text}
use Rattle.asg_brief.specs.declared.rankings.BriefRanking.{BriefRanking}
use Rattle.asg_brief.specs.declared.rankings.BriefRanking.TheVariants.{Ranked, Nothing}
use Rattle.asg_brief.specs.BestValues.{HasNoChoice, IsBestValue}
use Rattle.asg_brief.specs.RankedEnds.{AreRankedEnds}

-- ---- texts

-- the line of a best choice: its objective, how many cells it has, and its value as documents
-- write it
abbrev pub best_text : Objective → ℕ → Value → List ℕ
best_text objective cells value =
    codes "best " ++ (objective_word objective ++ (32 ∷ decimal cells ++ (value_text value ++ 10 ∷ [])))

-- the line that no choice is valid
abbrev pub none_text : Objective → List ℕ
none_text objective = codes "none " ++ (objective_word objective ++ 10 ∷ [])

-- the line of a ranking: how many answers it has, how many were asked for, and the values of the
-- first and the last
abbrev pub ranked_text : Objective → ℕ → ℕ → Value → Value → List ℕ
ranked_text objective answers count first last =
    codes "ranked " ++ (objective_word objective ++ (32 ∷ decimal answers ++ (32 ∷ decimal count
    ++ (value_text first ++ (value_text last ++ 10 ∷ [])))))

-- ---- lines of instances

-- the line of the best choices: they have as many cells as rows are placed, and this value
abbrev pub IsBestLine : Objective → Problem → List ℕ → Type 0
IsBestLine objective X line = (value : Value) × IsBestValue objective X value
    × (line ≡ best_text objective (placed X) value)

-- the line that no choice is valid, where none is
abbrev pub IsNoneLine : Objective → Problem → List ℕ → Type 0
IsNoneLine objective X line = HasNoChoice X × (line ≡ none_text objective)

-- the line of the rankings of so many choices
abbrev pub IsRankedLine : Objective → Problem → ℕ → List ℕ → Type 0
IsRankedLine objective X count line = (answers : ℕ) × (first last : Value)
    × AreRankedEnds objective X count answers first last
    × (line ≡ ranked_text objective answers count first last)

-- the line of an instance: of its best choices, or that it has none
abbrev pub IsBriefLine : Objective → Problem → List ℕ → Type 0
IsBriefLine objective X line = IsBestLine objective X line ⊎ IsNoneLine objective X line

-- the lines of instances, one after the other
abbrev pub AreBriefLines : Objective → List Problem → List ℕ → Type 0
AreBriefLines objective [] text = text ≡ []
AreBriefLines objective (X ∷ instances) text = (line rest : List ℕ)
    × IsBriefLine objective X line × AreBriefLines objective instances rest
    × (text ≡ line ++ rest)

-- ---- what the code makes

-- what a brief ranking tells of an instance
abbrev pub IsBriefRanking : Objective → Problem → ℕ → BriefRanking → Type 0
IsBriefRanking objective X count (Ranked line) = IsRankedLine objective X count line
IsBriefRanking objective X count (Nothing line) = IsNoneLine objective X line

-- listed costs have 64 bits
abbrev pub HasFittingCosts : Value → Type 0
HasFittingCosts (Many costs) = All (FitsSigned w64) costs
HasFittingCosts _ = Unit {0}
