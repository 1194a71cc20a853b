-- What each due status says of a request to solve.
use Rattle.asg_promises.proofs.Common.{◌≡◌, ℕ, false, ◌⊎◌, List, [], ◌∷◌, Some, Option, ap, ◌∙◌, subst, inl, inr, SolverRefuses, SolverTakes, limit_number, TellsBest, TellsNone, refused_instance_text, Status, Done, Nothing, Instance, TooLong, Problem, IsValid, DueForJob, DueForTask, Long, Refused, Held, DueToSolve, Solved, TooLarge, Unsolvable, Holds, instance_in, IsSolved, IsToldOf, IsUnsolvable, files_of, AreShort, MayHold, MayHoldAll, content_at, Job, Work, Solve}
use Rattle.asg_promises.proofs.SolverLimits.{refused_once, taken_apart}
use Rattle.asg_promises.proofs.HeldInstances.{HoldsInstances}
use Rattle.asg_promises.proofs.StageLaws.{AllShort, first_held, reached}
use Rattle.asg_promises.proofs.TellingLaws.{best_valid, none_valid}
use Rattle.asg_check.specs.declared.document_forms.Form.TheVariants as forms

-- what is due by the command itself
own : (job : Job) (contents : List (List ℕ)) (X : Problem) (status : Status) (text : List ℕ) → job.task ≡ Solve → DueForTask job.task job contents X status text → DueToSolve job X status text
own job contents X status text is due = subst (λ task. DueForTask task job contents X status text) is due

-- a request to solve ends with the status 0, 1, 3 or 10
abbrev IsEnding : Status → Type 0
IsEnding status = (status ≡ Done) ⊎ ((status ≡ Nothing) ⊎ ((status ≡ Instance) ⊎ (status ≡ TooLong)))

pub solve_statuses : (job : Job) (contents : List (List ℕ)) (status : Status) (text : List ℕ) → job.task ≡ Solve → DueForJob job contents status text
    → (status ≡ Done) ⊎ ((status ≡ Nothing) ⊎ ((status ≡ Instance) ⊎ (status ≡ TooLong)))
solve_statuses job contents status text is (Long place within long e told) = inr (inr (inr e))
solve_statuses job contents status text is (Refused short numbers none e told) = inr (inr (inl e))
solve_statuses job contents status text is (Held short X holds due) = by_ending (own job contents X status text is due)
  where
    by_ending : DueToSolve job X status text → IsEnding status
    by_ending (Solved takes told e) = inl e
    by_ending (Unsolvable takes told e) = inr (inl e)
    by_ending (TooLarge count refuses e told) = inr (inr (inl e))

-- with 0 where a choice is valid
pub solve_valid : (job : Job) (told : List ℕ → Option (List ℕ)) (contents : List (List ℕ)) (status : Status) (text bytes : List ℕ) (X : Problem) (choice : List (Option ℕ)) → AllShort told (Some (Work job)) → job.task ≡ Solve
    → told job.instance ≡ Some bytes → instance_in job bytes ≡ Holds X → SolverTakes job.objective X → IsValid X choice → MayHoldAll told (files_of (Some (Work job))) contents → DueForJob job contents status text → status ≡ Done
solve_valid job told contents status text bytes X choice shorts is found holds taken valid may due =
    by_ending (own job contents X status text is (reached job told contents status text bytes X shorts found holds may due))
  where
    by_ending : DueToSolve job X status text → status ≡ Done
    by_ending (Solved takes tells e) = e
    by_ending (Unsolvable takes tells e) = absurd (none_valid job.brief job.objective X forms.Solve text tells choice valid)
    by_ending (TooLarge count refuses e told') = taken_apart job.objective X count taken refuses

-- and 1 where none is
pub solve_nothing : (job : Job) (told : List ℕ → Option (List ℕ)) (contents : List (List ℕ)) (status : Status) (text bytes : List ℕ) (X : Problem) → AllShort told (Some (Work job)) → job.task ≡ Solve
    → told job.instance ≡ Some bytes → instance_in job bytes ≡ Holds X → SolverTakes job.objective X → ((choice : List (Option ℕ)) → ¬ IsValid X choice) → MayHoldAll told (files_of (Some (Work job))) contents → DueForJob job contents status text → status ≡ Nothing
solve_nothing job told contents status text bytes X shorts is found holds taken no_valid may due =
    by_ending (own job contents X status text is (reached job told contents status text bytes X shorts found holds may due))
  where
    by_ending : DueToSolve job X status text → status ≡ Nothing
    by_ending (Solved takes tells e) = let some = best_valid job.brief job.objective X text tells in absurd (no_valid some.0 some.1)
    by_ending (Unsolvable takes tells e) = e
    by_ending (TooLarge count refuses e told') = taken_apart job.objective X count taken refuses

-- and 3 where the objective's solver refuses the instance
pub solve_too_large : (job : Job) (told : List ℕ → Option (List ℕ)) (contents : List (List ℕ)) (status : Status) (text bytes : List ℕ) (X : Problem) (count : ℕ) → AllShort told (Some (Work job)) → job.task ≡ Solve
    → told job.instance ≡ Some bytes → instance_in job bytes ≡ Holds X → SolverRefuses job.objective X count → MayHoldAll told (files_of (Some (Work job))) contents → DueForJob job contents status text
    → (status ≡ Instance) × (text ≡ refused_instance_text (limit_number job.objective ∷ count ∷ []))
solve_too_large job told contents status text bytes X count shorts is found holds refuses may due =
    by_ending (own job contents X status text is (reached job told contents status text bytes X shorts found holds may due))
  where
    by_ending : DueToSolve job X status text → (status ≡ Instance) × (text ≡ refused_instance_text (limit_number job.objective ∷ count ∷ []))
    by_ending (Solved takes tells e) = taken_apart job.objective X count takes refuses
    by_ending (Unsolvable takes tells e) = taken_apart job.objective X count takes refuses
    by_ending (TooLarge other also e told') = (e, told' ∙ ap (λ n. refused_instance_text (limit_number job.objective ∷ n ∷ [])) (refused_once job.objective X other count also refuses))

-- a best choice is told only for a file that holds an instance, which has it
pub solved_told : (job : Job) → HoldsInstances job → (told : List ℕ → Option (List ℕ)) (contents : List (List ℕ)) (text : List ℕ) → job.task ≡ Solve → MayHoldAll told (files_of (Some (Work job))) contents
    → DueForJob job contents Done text → MayHold told job.instance (content_at contents 0) × IsToldOf job (content_at contents 0) text (TellsBest job.brief job.objective) × AreShort contents
solved_told job keeps told contents text is may due = by_case due
  where
    by_ending : (X : Problem) → AreShort contents → instance_in job (content_at contents 0) ≡ Holds X → DueToSolve job X Done text
        → MayHold told job.instance (content_at contents 0) × IsToldOf job (content_at contents 0) text (TellsBest job.brief job.objective) × AreShort contents
    by_ending X short holds (Solved takes tells e) =
        (first_held told job contents may, record { problem = X; held = holds; instance = keeps (content_at contents 0) X holds; tells = tells }, short)
    by_ending X short holds (Unsolvable takes tells e) = cc
    by_ending X short holds (TooLarge count refuses e told') = cc

    by_case : DueForJob job contents Done text → MayHold told job.instance (content_at contents 0) × IsToldOf job (content_at contents 0) text (TellsBest job.brief job.objective) × AreShort contents
    by_case (Long place within long e told') = cc
    by_case (Refused short numbers none e told') = cc
    by_case (Held short X holds owed) = by_ending X short holds (own job contents X Done text is owed)

-- that no choice is valid only for one whose instance has none
pub unsolvable_told : (job : Job) → HoldsInstances job → (told : List ℕ → Option (List ℕ)) (contents : List (List ℕ)) (text : List ℕ) → job.task ≡ Solve → MayHoldAll told (files_of (Some (Work job))) contents
    → DueForJob job contents Nothing text → MayHold told job.instance (content_at contents 0) × IsToldOf job (content_at contents 0) text (λ X. TellsNone job.brief job.objective X forms.Solve) × AreShort contents
unsolvable_told job keeps told contents text is may due = by_case due
  where
    by_ending : (X : Problem) → AreShort contents → instance_in job (content_at contents 0) ≡ Holds X → DueToSolve job X Nothing text
        → MayHold told job.instance (content_at contents 0) × IsToldOf job (content_at contents 0) text (λ Y. TellsNone job.brief job.objective Y forms.Solve) × AreShort contents
    by_ending X short holds (Solved takes tells e) = cc
    by_ending X short holds (TooLarge count refuses e told') = cc
    by_ending X short holds (Unsolvable takes tells e) =
        (first_held told job contents may, record { problem = X; held = holds; instance = keeps (content_at contents 0) X holds; tells = tells }, short)

    by_case : DueForJob job contents Nothing text → MayHold told job.instance (content_at contents 0) × IsToldOf job (content_at contents 0) text (λ X. TellsNone job.brief job.objective X forms.Solve) × AreShort contents
    by_case (Long place within long e told') = cc
    by_case (Refused short numbers none e told') = cc
    by_case (Held short X holds owed) = by_ending X short holds (own job contents X Nothing text is owed)

-- a best document
pub solved_only : (job : Job) → job.brief ≡ false → HoldsInstances job → (told : List ℕ → Option (List ℕ)) (contents : List (List ℕ)) (text : List ℕ) → job.task ≡ Solve → MayHoldAll told (files_of (Some (Work job))) contents
    → DueForJob job contents Done text → MayHold told job.instance (content_at contents 0) × IsSolved job (content_at contents 0) text × AreShort contents
solved_only job whole keeps told contents text is may due =
    let found = solved_told job keeps told contents text is may due in
    let did = found.1 in
    let tells = subst (λ brief. TellsBest brief job.objective did.problem text) whole did.tells in
    (found.0, record { problem = did.problem; document = tells.0; held = did.held; instance = did.instance; best = tells.1; written = tells.2 }, found.2)

-- a document that says none
pub unsolvable_only : (job : Job) → job.brief ≡ false → HoldsInstances job → (told : List ℕ → Option (List ℕ)) (contents : List (List ℕ)) (text : List ℕ) → job.task ≡ Solve → MayHoldAll told (files_of (Some (Work job))) contents
    → DueForJob job contents Nothing text → MayHold told job.instance (content_at contents 0) × IsUnsolvable job forms.Solve (content_at contents 0) text × AreShort contents
unsolvable_only job whole keeps told contents text is may due =
    let found = unsolvable_told job keeps told contents text is may due in
    let did = found.1 in
    let tells = subst (λ brief. TellsNone brief job.objective did.problem forms.Solve text) whole did.tells in
    (found.0, record { problem = did.problem; document = tells.0; held = did.held; instance = did.instance; none = tells.1; written = tells.2 }, found.2)
