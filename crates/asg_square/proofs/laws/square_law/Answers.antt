use Rattle.asg_square.proofs.Common.{subst, IsValid, perm_list}
use Rattle.asg_square.proofs.Folds.{value_at, folds_equal}
use Rattle.asg_square.proofs.PerfectValid.{choice_is_valid}
use Rattle.asg_square.proofs.SquareAssignments.{presence}
use Rattle.asg_square.proofs.ValidPerfect.{perm_is_assignment, choice_of-perm}
use Rattle.asg_square.proofs.laws.square_law.Goals as goal

pub returns : goal.returns
returns g c = record {
  choices = λ X free enter f instance. (
    λ valid. (perm_list X f, perm_is_assignment X f valid instance.well_formed.place_in_range free enter, choice_of-perm X f valid instance.well_formed.place_in_range),
    λ some. subst (IsValid X) some.2 (choice_is_valid X free enter some.0 some.1 instance.well_formed.place_in_range),
  );
  values = λ X free enter p r a h. value_at X free enter p a r h;
  folds = λ M X enter p laws instance values a. folds_equal M laws enter X instance.well_formed.place_in_range values p a;
  presence = λ X free enter r c. presence X free enter r c;
}
