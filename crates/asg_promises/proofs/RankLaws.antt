-- What each due status says of a request to rank.
use Rattle.asg_promises.proofs.Common.{◌≡◌, ℕ, ◌<◌, ◌≤◌, false, ◌⊎◌, List, [], ◌∷◌, Some, Option, subst, inl, inr, arith, TellsNone, TellsRanking, refused_instance_text, Status, Done, Nothing, Instance, TooLong, Problem, IsValid, DueForJob, DueForTask, Long, Refused, Held, DueToRank, Ranked, TooMuch, Unrankable, Holds, instance_in, IsRanked, IsToldOf, IsUnsolvable, files_of, AreShort, MayHold, MayHoldAll, content_at, ranking_work, Job, Work, Rank}
use Rattle.asg_rank.specs.Rooms.{most_work}
use Rattle.asg_promises.proofs.HeldInstances.{HoldsInstances}
use Rattle.asg_promises.proofs.StageLaws.{AllShort, first_held, reached}
use Rattle.asg_promises.proofs.TellingLaws.{none_valid, ranking_valid}
use Rattle.asg_check.specs.declared.document_forms.Form.TheVariants as forms

-- what is due by the command itself
own : (job : Job) (contents : List (List ℕ)) (X : Problem) (status : Status) (text : List ℕ) (count : ℕ) → job.task ≡ Rank count → DueForTask job.task job contents X status text → DueToRank job count X status text
own job contents X status text count is due = subst (λ task. DueForTask task job contents X status text) is due

-- a request to rank ends with the status 0, 1, 3 or 10
abbrev IsEnding : Status → Type 0
IsEnding status = (status ≡ Done) ⊎ ((status ≡ Nothing) ⊎ ((status ≡ Instance) ⊎ (status ≡ TooLong)))

pub rank_statuses : (job : Job) (contents : List (List ℕ)) (status : Status) (text : List ℕ) (count : ℕ) → job.task ≡ Rank count → DueForJob job contents status text
    → (status ≡ Done) ⊎ ((status ≡ Nothing) ⊎ ((status ≡ Instance) ⊎ (status ≡ TooLong)))
rank_statuses job contents status text count is (Long place within long e told) = inr (inr (inr e))
rank_statuses job contents status text count is (Refused short numbers none e told) = inr (inr (inl e))
rank_statuses job contents status text count is (Held short X holds due) = by_ending (own job contents X status text count is due)
  where
    by_ending : DueToRank job count X status text → IsEnding status
    by_ending (Ranked few told e) = inl e
    by_ending (Unrankable few told e) = inr (inl e)
    by_ending (TooMuch over e told) = inr (inr (inl e))

-- with 0 where a choice is valid
pub rank_valid : (job : Job) (told : List ℕ → Option (List ℕ)) (contents : List (List ℕ)) (status : Status) (text bytes : List ℕ) (count : ℕ) (X : Problem) (choice : List (Option ℕ)) → AllShort told (Some (Work job)) → job.task ≡ Rank count
    → told job.instance ≡ Some bytes → instance_in job bytes ≡ Holds X → ranking_work X count ≤ most_work → IsValid X choice → MayHoldAll told (files_of (Some (Work job))) contents → DueForJob job contents status text → status ≡ Done
rank_valid job told contents status text bytes count X choice shorts is found holds few valid may due =
    by_ending (own job contents X status text count is (reached job told contents status text bytes X shorts found holds may due))
  where
    by_ending : DueToRank job count X status text → status ≡ Done
    by_ending (Ranked few' tells e) = e
    by_ending (Unrankable few' tells e) = absurd (none_valid job.brief job.objective X (forms.Rank count) text tells choice valid)
    by_ending (TooMuch over e told') = absurd (omega (arith, few, over))

-- and 1 where none is
pub rank_nothing : (job : Job) (told : List ℕ → Option (List ℕ)) (contents : List (List ℕ)) (status : Status) (text bytes : List ℕ) (count : ℕ) (X : Problem) → AllShort told (Some (Work job)) → job.task ≡ Rank count
    → told job.instance ≡ Some bytes → instance_in job bytes ≡ Holds X → ranking_work X count ≤ most_work → ((choice : List (Option ℕ)) → ¬ IsValid X choice) → MayHoldAll told (files_of (Some (Work job))) contents → DueForJob job contents status text → status ≡ Nothing
rank_nothing job told contents status text bytes count X shorts is found holds few no_valid may due =
    by_ending (own job contents X status text count is (reached job told contents status text bytes X shorts found holds may due))
  where
    by_ending : DueToRank job count X status text → status ≡ Nothing
    by_ending (Ranked few' tells e) = let some = ranking_valid job.brief job.objective X count text tells in absurd (no_valid some.0 some.1)
    by_ending (Unrankable few' tells e) = e
    by_ending (TooMuch over e told') = absurd (omega (arith, few, over))

-- and 3 where so many choices are too much
pub rank_too_much : (job : Job) (told : List ℕ → Option (List ℕ)) (contents : List (List ℕ)) (status : Status) (text bytes : List ℕ) (count : ℕ) (X : Problem) → AllShort told (Some (Work job)) → job.task ≡ Rank count
    → told job.instance ≡ Some bytes → instance_in job bytes ≡ Holds X → most_work < ranking_work X count → MayHoldAll told (files_of (Some (Work job))) contents → DueForJob job contents status text
    → (status ≡ Instance) × (text ≡ refused_instance_text (18 ∷ ranking_work X count ∷ []))
rank_too_much job told contents status text bytes count X shorts is found holds over may due =
    by_ending (own job contents X status text count is (reached job told contents status text bytes X shorts found holds may due))
  where
    by_ending : DueToRank job count X status text → (status ≡ Instance) × (text ≡ refused_instance_text (18 ∷ ranking_work X count ∷ []))
    by_ending (Ranked few tells e) = absurd (omega (arith, few, over))
    by_ending (Unrankable few tells e) = absurd (omega (arith, few, over))
    by_ending (TooMuch over' e told') = (e, told')

-- a ranking is told only for a file that holds an instance, whose choices it ranks
pub ranked_told : (job : Job) (count : ℕ) → HoldsInstances job → (told : List ℕ → Option (List ℕ)) (contents : List (List ℕ)) (text : List ℕ) → job.task ≡ Rank count → MayHoldAll told (files_of (Some (Work job))) contents
    → DueForJob job contents Done text → MayHold told job.instance (content_at contents 0) × IsToldOf job (content_at contents 0) text (λ X. TellsRanking job.brief job.objective X count) × AreShort contents
ranked_told job count keeps told contents text is may due = by_case due
  where
    by_ending : (X : Problem) → AreShort contents → instance_in job (content_at contents 0) ≡ Holds X → DueToRank job count X Done text
        → MayHold told job.instance (content_at contents 0) × IsToldOf job (content_at contents 0) text (λ Y. TellsRanking job.brief job.objective Y count) × AreShort contents
    by_ending X short holds (Ranked few tells e) =
        (first_held told job contents may, record { problem = X; held = holds; instance = keeps (content_at contents 0) X holds; tells = tells }, short)
    by_ending X short holds (Unrankable few tells e) = cc
    by_ending X short holds (TooMuch over e written) = cc

    by_case : DueForJob job contents Done text → MayHold told job.instance (content_at contents 0) × IsToldOf job (content_at contents 0) text (λ X. TellsRanking job.brief job.objective X count) × AreShort contents
    by_case (Long place within long e told') = cc
    by_case (Refused short numbers none e told') = cc
    by_case (Held short X holds owed) = by_ending X short holds (own job contents X Done text count is owed)

-- that no choice is valid only for one whose instance has none
pub unrankable_told : (job : Job) (count : ℕ) → HoldsInstances job → (told : List ℕ → Option (List ℕ)) (contents : List (List ℕ)) (text : List ℕ) → job.task ≡ Rank count → MayHoldAll told (files_of (Some (Work job))) contents
    → DueForJob job contents Nothing text → MayHold told job.instance (content_at contents 0) × IsToldOf job (content_at contents 0) text (λ X. TellsNone job.brief job.objective X (forms.Rank count)) × AreShort contents
unrankable_told job count keeps told contents text is may due = by_case due
  where
    by_ending : (X : Problem) → AreShort contents → instance_in job (content_at contents 0) ≡ Holds X → DueToRank job count X Nothing text
        → MayHold told job.instance (content_at contents 0) × IsToldOf job (content_at contents 0) text (λ Y. TellsNone job.brief job.objective Y (forms.Rank count)) × AreShort contents
    by_ending X short holds (Ranked few tells e) = cc
    by_ending X short holds (TooMuch over e written) = cc
    by_ending X short holds (Unrankable few tells e) =
        (first_held told job contents may, record { problem = X; held = holds; instance = keeps (content_at contents 0) X holds; tells = tells }, short)

    by_case : DueForJob job contents Nothing text → MayHold told job.instance (content_at contents 0) × IsToldOf job (content_at contents 0) text (λ X. TellsNone job.brief job.objective X (forms.Rank count)) × AreShort contents
    by_case (Long place within long e told') = cc
    by_case (Refused short numbers none e told') = cc
    by_case (Held short X holds owed) = by_ending X short holds (own job contents X Nothing text count is owed)

-- the document of a ranking
pub ranked_only : (job : Job) (count : ℕ) → job.brief ≡ false → HoldsInstances job → (told : List ℕ → Option (List ℕ)) (contents : List (List ℕ)) (text : List ℕ) → job.task ≡ Rank count → MayHoldAll told (files_of (Some (Work job))) contents
    → DueForJob job contents Done text → MayHold told job.instance (content_at contents 0) × IsRanked job count (content_at contents 0) text × AreShort contents
ranked_only job count whole keeps told contents text is may due =
    let found = ranked_told job count keeps told contents text is may due in
    let did = found.1 in
    let tells = subst (λ brief. TellsRanking brief job.objective did.problem count text) whole did.tells in
    (found.0, record { problem = did.problem; document = tells.0; held = did.held; instance = did.instance; ranked = tells.1; written = tells.2 }, found.2)

-- a document that says none
pub unrankable_only : (job : Job) (count : ℕ) → job.brief ≡ false → HoldsInstances job → (told : List ℕ → Option (List ℕ)) (contents : List (List ℕ)) (text : List ℕ) → job.task ≡ Rank count → MayHoldAll told (files_of (Some (Work job))) contents
    → DueForJob job contents Nothing text → MayHold told job.instance (content_at contents 0) × IsUnsolvable job (forms.Rank count) (content_at contents 0) text × AreShort contents
unrankable_only job count whole keeps told contents text is may due =
    let found = unrankable_told job count keeps told contents text is may due in
    let did = found.1 in
    let tells = subst (λ brief. TellsNone brief job.objective did.problem (forms.Rank count) text) whole did.tells in
    (found.0, record { problem = did.problem; document = tells.0; held = did.held; instance = did.instance; none = tells.1; written = tells.2 }, found.2)
