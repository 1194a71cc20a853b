-- What is due for a request to make an instance.
use Rattle.std.specs.Prelude.{◌≡◌, ℕ, List}
use Rattle.asg_answers.specs.declared.status.Status.{Status}
use Rattle.asg_answers.specs.declared.status.Status.TheVariants.{Done}
use Rattle.asg_text.specs.Formula.{generated_problem}
use Rattle.asg_text.specs.RectTexts.{rect_text}

-- how a request to make the instance of a seed and a side ends: its rect text is written
abbrev pub DueToMake : ℕ → ℕ → Status → List ℕ → Type 0
DueToMake seed side status text =
    (status ≡ Done) × (text ≡ rect_text (generated_problem seed side))
