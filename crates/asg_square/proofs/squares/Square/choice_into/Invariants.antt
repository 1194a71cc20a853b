use Rattle.asg_square.proofs.Common.{◌≡◌, ℕ, ◌<◌, length, get_or, None, grid_chosen}
use Rattle.asg_square.proofs.squares.Square.choice_into.Given as goal

abbrev pub invariant-loop-r : goal.invariant-loop-r
invariant-loop-r g l = (length l.out ≡ length l.fn.out) × ((k : ℕ) → k < l.r → get_or l.out k None ≡ grid_chosen l.self l.perm k)
