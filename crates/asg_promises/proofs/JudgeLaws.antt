-- What each due status says of a request to check the documents of a script.
use Rattle.asg_promises.proofs.Common.{◌≡◌, ℕ, ◌+◌, ◌⊎◌, List, [], ◌∷◌, length, Some, None, Option, sym, refl, ap, ◌∙◌, subst, inl, inr, refused_script_text, Status, Certifies, AllHaveText, texts_of, Document, Problem, Objective, DueForJob, DueForTask, Long, Refused, Held, DueToCheck, NotRead, Miscounted, Read, DueToJudge, Holds, instance_in, AreJudged, AreNotSoMany, files_of, DueForScript, MayHoldAll, content_at, Job, Work, Check, HoldsLines, RefusesLines, script_in, solved_instances, Line}
use Rattle.asg_check.specs.declared.document_forms.Form.TheVariants.{Edit}
use Rattle.asg_promises.proofs.DueLaws.{ReadsOnce}
use Rattle.asg_promises.proofs.EditLaws.{judged_held}
use Rattle.asg_promises.proofs.StageLaws.{AllShort, check_ends, reached, script_ends}
use Rattle.asg_promises.proofs.ToldFiles.{held}
use Rattle.asg_answers.specs.declared.status.Status.TheVariants.{Done, Instance, Script, Document as Unread, No, TooLong}

-- what is due for the lines that a script holds
abbrev OwedForLines : Job → Problem → List ℕ → List (ℕ × Line) → Status → List ℕ → Type 0
OwedForLines job X spoken lines = DueToCheck job.objective Edit (solved_instances X lines) spoken

-- what is due by the command itself
own : (job : Job) (contents : List (List ℕ)) (X : Problem) (status : Status) (text script answer : List ℕ) → job.task ≡ Check answer (Some script) None → DueForTask job.task job contents X status text
    → DueForScript (script_in job.objective X (content_at contents 1)) (OwedForLines job X (content_at contents 2)) status text
own job contents X status text script answer is due = subst (λ task. DueForTask task job contents X status text) is due

-- a request to check with a script ends with the status 0, 3, 4, 5, 6 or 10
abbrev IsEnding : Status → Type 0
IsEnding status = (status ≡ Done) ⊎ ((status ≡ Instance) ⊎ ((status ≡ Script) ⊎ ((status ≡ Unread) ⊎ ((status ≡ No) ⊎ (status ≡ TooLong)))))

pub judge_statuses : (job : Job) (contents : List (List ℕ)) (status : Status) (text script answer : List ℕ) → job.task ≡ Check answer (Some script) None → DueForJob job contents status text
    → (status ≡ Done) ⊎ ((status ≡ Instance) ⊎ ((status ≡ Script) ⊎ ((status ≡ Unread) ⊎ ((status ≡ No) ⊎ (status ≡ TooLong)))))
judge_statuses job contents status text script answer is (Long place within long e told) = inr (inr (inr (inr (inr e))))
judge_statuses job contents status text script answer is (Refused short numbers none e told) = inr (inl e)
judge_statuses job contents status text script answer is (Held short X holds due) =
    script_ends IsEnding (inr (inr (inl refl))) (script_in job.objective X (content_at contents 1)) (OwedForLines job X (content_at contents 2)) status text
    (λ lines. check_ends IsEnding (inl refl) (inr (inr (inr (inr (inl refl))))) (inr (inr (inr (inl refl)))) job.objective Edit (solved_instances X lines) (content_at contents 2) status text)
    (own job contents X status text script answer is due)

-- ---- the status tells whether each document certifies

verdict_more : (objective : Objective) (X : Problem) (document : Document) (instances : List Problem) (documents : List Document) (status : Status) → Certifies objective X Edit document → AreJudged objective instances documents status → AreJudged objective (X ∷ instances) (document ∷ documents) status
verdict_more objective X document instances documents status certifies (inl all) = inl (all.0, (certifies, all.1))
verdict_more objective X document instances documents status certifies (inr some) = inr (some.0, λ each. some.1 each.1)

by_verdict : (objective : Objective) (count : ℕ) (instances : List Problem) (documents : List Document) (status : Status) (text : List ℕ) → DueToJudge objective Edit count instances documents status text → AreJudged objective instances documents status
by_verdict objective count [] [] status text due = inl (due.0, tt)
by_verdict objective count [] (document ∷ documents) status text due = absurd due
by_verdict objective count (X ∷ instances) [] status text due = absurd due
by_verdict objective count (X ∷ instances) (document ∷ documents) status text (inl due) =
    verdict_more objective X document instances documents status due.0 (by_verdict objective (count + 1) instances documents status text due.2)
by_verdict objective count (X ∷ instances) (document ∷ documents) status text (inr denied) = inr (denied.ended, λ each. denied.fails each.0)

-- ---- where the files are told

module _ (job : Job) (told : List ℕ → Option (List ℕ)) (contents : List (List ℕ)) (status : Status) (text script answer bytes says : List ℕ) (X : Problem) (shorts : AllShort told (Some (Work job))) (is : job.task ≡ Check answer (Some script) None)
    (found : told job.instance ≡ Some bytes) (heard : told script ≡ Some says) (holds : instance_in job bytes ≡ Holds X) (may : MayHoldAll told (files_of (Some (Work job))) contents) (due : DueForJob job contents status text)
  where
    -- what is due for the script that is told
    reached_script : DueForScript (script_in job.objective X says) (OwedForLines job X (content_at contents 2)) status text
    reached_script =
        let same : content_at contents 1 ≡ says = held (told script) (content_at contents 1) says heard (judged_held told job contents script answer is may).0 in
        subst (λ spoken. DueForScript (script_in job.objective X spoken) (OwedForLines job X (content_at contents 2)) status text) same
        (own job contents X status text script answer is (reached job told contents status text bytes X shorts found holds may due))

    pub judge_refused : (numbers : List ℕ) → script_in job.objective X says ≡ RefusesLines numbers → (status ≡ Script) × (text ≡ refused_script_text numbers)
    judge_refused numbers refuses = subst (λ file. DueForScript file (OwedForLines job X (content_at contents 2)) status text) refuses reached_script

    -- what is due for its lines and the answer that is told
    reached_lines : (spoken : List ℕ) (lines : List (ℕ × Line)) → told answer ≡ Some spoken → script_in job.objective X says ≡ HoldsLines lines → OwedForLines job X spoken lines status text
    reached_lines spoken lines spelled follows =
        let same : content_at contents 2 ≡ spoken = held (told answer) (content_at contents 2) spoken spelled (judged_held told job contents script answer is may).1 in
        subst (λ said. OwedForLines job X said lines status text) same
        (subst (λ file. DueForScript file (OwedForLines job X (content_at contents 2)) status text) follows reached_script)

    -- with 5 where the answer isn't as many documents as are due
    pub judge_unread : (spoken : List ℕ) (lines : List (ℕ × Line)) → told answer ≡ Some spoken → script_in job.objective X says ≡ HoldsLines lines → AreNotSoMany (length (solved_instances X lines)) spoken → status ≡ Unread
    judge_unread spoken lines spelled follows not_many = by_ending (reached_lines spoken lines spelled follows)
      where
        by_ending : OwedForLines job X spoken lines status text → status ≡ Unread
        by_ending (NotRead line none at e told') = e
        by_ending (Miscounted documents have_text read other e told') = e
        by_ending (Read documents have_text read same owed) = absurd (not_many documents have_text same read)

    -- with 0 or 6 where it is
    pub judge_judged : ReadsOnce → (lines : List (ℕ × Line)) (documents : List Document) → told answer ≡ Some (texts_of documents) → script_in job.objective X says ≡ HoldsLines lines → AllHaveText documents → length documents ≡ length (solved_instances X lines)
        → AreJudged job.objective (solved_instances X lines) documents status
    judge_judged once lines documents spelled follows have_text count = by_ending (reached_lines (texts_of documents) lines spelled follows)
      where
        by_ending : OwedForLines job X (texts_of documents) lines status text → AreJudged job.objective (solved_instances X lines) documents status
        by_ending (NotRead line none at e told') = absurd (none documents have_text refl)
        by_ending (Miscounted others have_text' read other e told') = absurd (other (ap length (once others documents have_text' have_text (sym read)) ∙ count))
        by_ending (Read others have_text' read same owed) =
            by_verdict job.objective 0 (solved_instances X lines) documents status text
            (subst (λ ds. DueToJudge job.objective Edit 0 (solved_instances X lines) ds status text) (once others documents have_text' have_text (sym read)) owed)
