-- How many answers a ranker may have to give.
use Rattle.std.specs.Prelude.{ℕ, ◌+◌, ◌^◌, min, length}
use Rattle.asg_model.specs.Counts.{placed}
use Rattle.asg_model.specs.Problem.{Problem}

-- the greatest work of a ranking
abbrev pub most_work : ℕ
most_work = 4000000

-- one more than as many choices as give each active row any column: at least one more than are
-- valid
abbrev pub more_than_valid : Problem → ℕ
more_than_valid X = length X.columns ^ placed X + 1

-- for how many answers there is room, where so many are asked for
abbrev pub answer_room : Problem → ℕ → ℕ
answer_room X count = min count (more_than_valid X)
