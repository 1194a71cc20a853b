use Rattle.asg_proof.proofs.Common.{◌^◌, ◌∷◌, map, refl, ◌∙◌, graded_phase, rise_phase}
use Rattle.asg_proof.proofs.GradeAmountLemmas.{phases_to_grade, phases_from_grade, phases_amounts, joined_admitted, joined_index}
use Rattle.asg_proof.proofs.laws.grades.grade_law.Goals as goal

pub returns-clause-phases : goal.returns-clause-phases
returns-clause-phases c = phases_to_grade

pub returns-clause-joined : goal.returns-clause-joined
returns-clause-joined c = λ top g side enters leaves square plain phases amounts. joined_admitted top g side enters leaves square plain amounts phases

pub returns-clause-index : goal.returns-clause-index
returns-clause-index c = joined_index

pub returns-clause-folds : goal.returns-clause-folds
returns-clause-folds c = λ g enters leaves X choice phases plain amounts within small is over admitted same. record {
  phases = rise_phase g enters leaves ∷ map (graded_phase g) phases;
  written = refl;
  proved = record {
    admitted = joined_admitted (2 ^ 120) g _ enters leaves _ plain amounts phases within small is over admitted;
    index = joined_index (2 ^ 120) g enters leaves phases ∙ same;
  };
}

pub returns-clause-back : goal.returns-clause-back
returns-clause-back c = phases_from_grade

pub returns-clause-amounts : goal.returns-clause-amounts
returns-clause-amounts c = phases_amounts
