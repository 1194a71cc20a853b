-- When an instance has too many rows.
use Rattle.std.specs.Prelude.{◌≡◌, ◌<◌, length}
use Rattle.asg_model.specs.Problem.{Problem}
use Rattle.asg_proof.specs.LevelRows.{most_level_rows}
use Rattle.asg_lex.specs.declared.outcomes.LexRefusal.{LexRefusal}
use Rattle.asg_lex.specs.declared.outcomes.LexRefusal.TheVariants.{LexTooLarge, NoMemory}

-- a refusal is true: `LexTooLarge` tells the number of rows, which is more than 200
abbrev pub IsRefusal : Problem → LexRefusal → Type 0
IsRefusal X (LexTooLarge count) = (length X.rows ≡ count) × (most_level_rows < count)
IsRefusal X NoMemory = Unit {0}
