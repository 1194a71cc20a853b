-- What a refusal of a solver tells the command that called it. The program's specification doesn't
-- cite this.
use Rattle.asg_model.specs.declared.objectives.Objective.{Objective}
use Rattle.asg_model.specs.Problem.{Problem}
use Rattle.asg_answers.specs.declared.solvers.SolverRefusal.{SolverRefusal}
use Rattle.asg_answers.specs.declared.solvers.SolverRefusal.TheVariants.{TooLarge, NoMemory}
use Rattle.asg_answers.specs.SolverLimits.{SolverRefuses}

-- a refusal of a solver is true
abbrev pub IsSolverRefusal : Objective → Problem → SolverRefusal → Type 0
IsSolverRefusal objective X (TooLarge count) = SolverRefuses objective X count
IsSolverRefusal objective X NoMemory = Unit {0}
