use Rattle.std.proofs.Common.{refl}
use Rattle.asg_model.specs.declared.edits.Edit.TheVariants.{Cost as SetCost, Forbid, DropRow, DropColumn}
use Rattle.asg_values.specs.laws.EditedShapes.{edited_side}
use Rattle.asg_values.specs.laws.LiveCosts.{PassesNegative-edited}
use Rattle.asg_values.proofs.ClosedColumns.{columns_closed}
use Rattle.asg_values.proofs.edits.edited_law.Goals as goal

pub returns-clause-side : goal.returns-clause-side
returns-clause-side c = λ X edit. edited_side X edit

pub returns-clause-place : goal.returns-clause-place
returns-clause-place c X (SetCost row col cost) = refl
returns-clause-place c X (Forbid row col) = refl
returns-clause-place c X (DropRow row) = refl
returns-clause-place c X (DropColumn col) = refl

pub returns-clause-passes : goal.returns-clause-passes
returns-clause-passes c = λ objective X edit instance before passes. PassesNegative-edited objective X edit passes instance before

pub returns-clause-closes : goal.returns-clause-closes
returns-clause-closes c = λ objective X col passes same. columns_closed objective X col passes same
