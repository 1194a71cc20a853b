-- No refusal applies to an edit that isn't refused.
use Rattle.std.proofs.Common.{◌≡◌, Bool, true, false, cond, List, [], ◌∷◌, Some, None, refl}
use Rattle.std.specs.Prelude.{All}
use Rattle.std.specs.List.{find}
use Rattle.std.proofs.lemmas.List.Elements.{All-nil, All-cons}
use Rattle.asg_model.specs.declared.edits.Edit.{Edit}
use Rattle.asg_model.specs.declared.edits.EditRefusal.{EditRefusal}
use Rattle.asg_model.specs.declared.objectives.Objective.{Objective}
use Rattle.asg_model.specs.Edits.{applies, refusals, refusal_of}
use Rattle.asg_model.specs.Problem.{Problem}

-- where none is found none passes
not_found : (p : EditRefusal → Bool) (rs : List EditRefusal) → find p rs ≡ None → All (λ r. p r ≡ false) rs
not_found p [] e = All-nil (λ r. p r ≡ false)
not_found p (r ∷ rs) e = by (p r) refl (not_found p rs) e
  where
    by : (b : Bool) → p r ≡ b → (find p rs ≡ None → All (λ x. p x ≡ false) rs) → cond b (Some r) (find p rs) ≡ None → All (λ x. p x ≡ false) (r ∷ rs)
    by true at rest none = absurd (let some = none in cc)
    by false at rest none = All-cons (λ x. p x ≡ false) r rs at (rest none)

pub none_applies : (objective : Objective) (X : Problem) (edit : Edit) → refusal_of objective X edit ≡ None → All (λ refusal. applies objective X edit refusal ≡ false) refusals
none_applies objective X edit passes = not_found (applies objective X edit) refusals passes
