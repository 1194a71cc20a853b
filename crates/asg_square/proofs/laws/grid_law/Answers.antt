use Rattle.asg_square.proofs.SquareAssignments.{square_within, square_covers, perm_to, perm_from, choice_within}
use Rattle.asg_square.proofs.laws.grid_law.Goals as goal

pub returns : goal.returns
returns g c = record {
  within = λ X free enter Q square. square_within X free enter Q square;
  covers = λ X free enter Q square. square_covers X free enter Q square;
  perms = λ X free enter Q p square. (perm_to X free enter Q square p, perm_from X free enter Q square p);
  choice = λ X Q p instance within perm. choice_within X Q within p perm instance.well_formed.place_in_range;
}
