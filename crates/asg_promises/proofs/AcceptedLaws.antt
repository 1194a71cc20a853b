-- What a request to solve or to rank writes is accepted by a request to check.
use Rattle.asg_promises.proofs.Common.{◌≡◌, ℕ, ◌≤◌, false, ◌⊎◌, List, [], ◌∷◌, length, IfSome, Some, None, Option, sym, refl, ◌∙◌, subst, inl, inr, append-nil, arith, All-cons, All-nil, yes_text, IsWritten, Status, Done, Certifies, ClaimsTruly, Form, HasText, text_of, Document, IsInstance, longest_file, Problem, Due, DueForAsked, DueForJob, DueForTask, Held, DueToCheck, Read, form_asked, Holds, held_by, instance_in, AskAlike, HasShortProofs, IsNeverLong, IsRanked, IsSolved, IsUnsolvable, IsCertified, files_of, AsksFor, AreShort, MayHold, MayHoldAll, content_at, files_of_task, Job, Work, Solve, Rank, Check, reading_of}
use Rattle.asg_promises.proofs.HeldInstances.{HoldsInstances}
use Rattle.asg_promises.proofs.RankLaws.{ranked_only, unrankable_only}
use Rattle.asg_promises.proofs.SolveLaws.{solved_only, unsolvable_only}
use Rattle.asg_check.specs.declared.document_forms.Form.TheVariants as forms
use Rattle.asg_answers.specs.declared.status.Status.TheVariants.{Nothing as NothingValid}

-- jobs that ask alike read one instance
same_file : (job other : Job) (bytes : List ℕ) → AskAlike job other → instance_in other bytes ≡ instance_in job bytes
same_file job other bytes alike = λ i. held_by (alike.of_objective i) (alike.of_place i) (alike.of_each i) (reading_of (alike.of_format i) bytes)

-- the text of a document that may be written certifies, for each job that asks alike
certified : (job other : Job) (form : Form) (bytes text : List ℕ) (X : Problem) (document : Document) → AskAlike job other → instance_in job bytes ≡ Holds X → IsInstance X
    → IsWritten job.objective X form document → text ≡ text_of document → IsCertified other form bytes text
certified job other form bytes text X document alike holds inst written told = record {
  problem = X;
  document = document;
  held = same_file job other bytes alike ∙ holds;
  instance = inst;
  has_text = written.has_text;
  read = told;
  certifies = subst (λ objective. Certifies objective X form document) (sym alike.of_objective) written.certifies;
  truly = subst (λ objective. ClaimsTruly objective X document) (sym alike.of_objective) written.truly;
}

pub certified-from_solved : (job other : Job) (bytes text : List ℕ) → AskAlike job other → IsSolved job bytes text → IsCertified other forms.Solve bytes text
certified-from_solved job other bytes text alike solved = certified job other forms.Solve bytes text solved.problem solved.document alike solved.held solved.instance solved.best.written solved.written

pub certified-from_ranked : (job other : Job) (count : ℕ) (bytes text : List ℕ) → AskAlike job other → IsRanked job count bytes text → IsCertified other (forms.Rank count) bytes text
certified-from_ranked job other count bytes text alike ranked = certified job other (forms.Rank count) bytes text ranked.problem ranked.document alike ranked.held ranked.instance ranked.ranked.written ranked.written

pub certified-from_unsolvable : (job other : Job) (form : Form) (bytes text : List ℕ) → AskAlike job other → IsUnsolvable job form bytes text → IsCertified other form bytes text
certified-from_unsolvable job other form bytes text alike solved = certified job other form bytes text solved.problem solved.document alike solved.held solved.instance solved.none.written solved.written

-- for an answer's file that certifies `yes` is due
accepted : (told : List ℕ → Option (List ℕ)) (job : Job) (count : Option ℕ) (answer bytes spoken : List ℕ) → job.task ≡ Check answer None count → MayHold told job.instance bytes → MayHold told answer spoken
    → length bytes ≤ longest_file → length spoken ≤ longest_file → IsCertified job (form_asked count) bytes spoken
    → (contents : List (List ℕ)) × MayHoldAll told (files_of (Some (Work job))) contents × DueForJob job contents Done (yes_text 1)
accepted told job count answer bytes spoken is may may_speak few within certified =
    let contents : List (List ℕ) = bytes ∷ spoken ∷ [] in
    let all : MayHoldAll told (job.instance ∷ answer ∷ []) contents = (may, (may_speak, tt)) in
    let IsFew : List ℕ → Type 0 = λ file. length file ≤ longest_file in
    let short : AreShort contents = All-cons IsFew bytes (spoken ∷ []) few (All-cons IsFew spoken [] within (All-nil IsFew)) in
    let have_text = All-cons HasText certified.document [] certified.has_text (All-nil HasText) in
    let read = certified.read ∙ sym (append-nil (text_of certified.document)) in
    let owed : DueToCheck job.objective (form_asked count) (certified.problem ∷ []) spoken Done (yes_text 1) =
    Read (certified.document ∷ []) have_text read refl (inl (certified.certifies, certified.truly, (refl, refl))) in (
      contents,
      subst (λ task. MayHoldAll told (job.instance ∷ files_of_task task) contents) (sym is) all,
      Held short certified.problem certified.held (subst (λ task. DueForTask task job contents certified.problem Done (yes_text 1)) (sym is) owed),
    )

-- the first file isn't too long
pub short_at : (contents : List (List ℕ)) → AreShort contents → length (content_at contents 0) ≤ longest_file
short_at [] short = omega arith
short_at (bytes ∷ contents) short = short 0 [] (omega arith)

-- what is written that no choice is valid, or by a request to solve for an objective with short
-- proofs, isn't too long
abbrev pub AreWithin : Type 0
AreWithin = (job : Job) (form : Form) (bytes text : List ℕ) → (HasShortProofs job.objective × IsSolved job bytes text) ⊎ IsUnsolvable job form bytes text → length text ≤ longest_file

-- what was written for a request to solve or to rank, whichever way it ended
record IsWrittenFor (told : List ℕ → Option (List ℕ)) (job other : Job) (form : Form) (text : List ℕ) (contents : List (List ℕ)) : Type 0 where
  may : MayHold told job.instance (content_at contents 0)
  certified_for : IsCertified other form (content_at contents 0) text
  short : AreShort contents
  within : length text ≤ longest_file

written_only : AreWithin → (told : List ℕ → Option (List ℕ)) (job other : Job) → job.brief ≡ false → HoldsInstances job → (status : Status) (text : List ℕ) (contents : List (List ℕ)) → job.task ≡ Solve → (status ≡ Done) ⊎ (status ≡ NothingValid)
    → (length text ≤ longest_file) ⊎ IsNeverLong job status → MayHoldAll told (files_of (Some (Work job))) contents → DueForJob job contents status text → AskAlike job other → IsWrittenFor told job other forms.Solve text contents
written_only are told job other whole keeps status text contents solves (inl e) short may due alike =
    let found = solved_only job whole keeps told contents text solves may (subst (λ s. DueForJob job contents s text) e due) in
    record {
      may = found.0;
      certified_for = certified-from_solved job other (content_at contents 0) text alike found.1;
      short = found.2;
      within = by_length short;
    }
  where
    by_length : (length text ≤ longest_file) ⊎ IsNeverLong job status → length text ≤ longest_file
    by_length (inl within) = within
    by_length (inr (inl nothing)) = let both = sym e ∙ nothing in cc
    by_length (inr (inr bottleneck)) = are job forms.Solve (content_at contents 0) text (inl (bottleneck, (solved_only job whole keeps told contents text solves may (subst (λ s. DueForJob job contents s text) e due)).1))
written_only are told job other whole keeps status text contents solves (inr e) short may due alike =
    let found = unsolvable_only job whole keeps told contents text solves may (subst (λ s. DueForJob job contents s text) e due) in
    record {
      may = found.0;
      certified_for = certified-from_unsolvable job other forms.Solve (content_at contents 0) text alike found.1;
      short = found.2;
      within = are job forms.Solve (content_at contents 0) text (inr found.1);
    }

ranking_only : AreWithin → (told : List ℕ → Option (List ℕ)) (job other : Job) (count : ℕ) → job.brief ≡ false → HoldsInstances job → (status : Status) (text : List ℕ) (contents : List (List ℕ)) → job.task ≡ Rank count → (status ≡ Done) ⊎ (status ≡ NothingValid)
    → (length text ≤ longest_file) ⊎ (status ≡ NothingValid) → MayHoldAll told (files_of (Some (Work job))) contents → DueForJob job contents status text → AskAlike job other → IsWrittenFor told job other (forms.Rank count) text contents
ranking_only are told job other count whole keeps status text contents ranks (inl e) short may due alike =
    let found = ranked_only job count whole keeps told contents text ranks may (subst (λ s. DueForJob job contents s text) e due) in
    record {
      may = found.0;
      certified_for = certified-from_ranked job other count (content_at contents 0) text alike found.1;
      short = found.2;
      within = by_length short;
    }
  where
    by_length : (length text ≤ longest_file) ⊎ (status ≡ NothingValid) → length text ≤ longest_file
    by_length (inl within) = within
    by_length (inr nothing) = let both = sym e ∙ nothing in cc
ranking_only are told job other count whole keeps status text contents ranks (inr e) short may due alike =
    let found = unrankable_only job count whole keeps told contents text ranks may (subst (λ s. DueForJob job contents s text) e due) in
    record {
      may = found.0;
      certified_for = certified-from_unsolvable job other (forms.Rank count) (content_at contents 0) text alike found.1;
      short = found.2;
      within = are job (forms.Rank count) (content_at contents 0) text (inr found.1);
    }

-- what was written is accepted
accepted_text : (told later : List ℕ → Option (List ℕ)) (job check : Job) (count : Option ℕ) (text answer : List ℕ) (contents : List (List ℕ)) → IsWrittenFor told job check (form_asked count) text contents
    → check.task ≡ Check answer None count → later check.instance ≡ told job.instance → later answer ≡ Some text
    → (checking : List (List ℕ)) → AsksFor checking check → Due checking later Done (yes_text 1)
accepted_text told later job check count text answer contents found checks same written checking is_check =
    let bytes = content_at contents 0 in
    let may_again = subst (λ held. IfSome held (λ h. bytes ≡ h)) (sym same) found.may in
    let may_speak = subst (λ held. IfSome held (λ h. text ≡ h)) (sym written) refl in
    let done = accepted later check count answer bytes text checks may_again may_speak (short_at contents found.short) found.within found.certified_for in
    (done.0, subst (λ a. MayHoldAll later (files_of a) done.0) (sym is_check) done.1, subst (λ a. DueForAsked a done.0 Done (yes_text 1)) (sym is_check) done.2)

pub accepted_later : AreWithin → (told later : List ℕ → Option (List ℕ)) (solve check : Job) → solve.brief ≡ false → HoldsInstances solve → (status : Status) (text answer : List ℕ) (contents : List (List ℕ)) → solve.task ≡ Solve
    → (status ≡ Done) ⊎ (status ≡ NothingValid) → (length text ≤ longest_file) ⊎ IsNeverLong solve status → MayHoldAll told (files_of (Some (Work solve))) contents → DueForJob solve contents status text
    → check.task ≡ Check answer None None → AskAlike solve check → later check.instance ≡ told solve.instance → later answer ≡ Some text
    → (checking : List (List ℕ)) → AsksFor checking check → Due checking later Done (yes_text 1)
accepted_later are told later solve check whole keeps status text answer contents solves ends length_within may due checks alike same written checking is_check =
    let found = written_only are told solve check whole keeps status text contents solves ends length_within may due alike in
    accepted_text told later solve check None text answer contents found checks same written checking is_check

pub accepted_ranking : AreWithin → (told later : List ℕ → Option (List ℕ)) (rank check : Job) (count : ℕ) → rank.brief ≡ false → HoldsInstances rank → (status : Status) (text answer : List ℕ) (contents : List (List ℕ)) → rank.task ≡ Rank count
    → (status ≡ Done) ⊎ (status ≡ NothingValid) → (length text ≤ longest_file) ⊎ (status ≡ NothingValid) → MayHoldAll told (files_of (Some (Work rank))) contents → DueForJob rank contents status text
    → check.task ≡ Check answer None (Some count) → AskAlike rank check → later check.instance ≡ told rank.instance → later answer ≡ Some text
    → (checking : List (List ℕ)) → AsksFor checking check → Due checking later Done (yes_text 1)
accepted_ranking are told later rank check count whole keeps status text answer contents ranks ends length_within may due checks alike same written checking is_check =
    let found = ranking_only are told rank check count whole keeps status text contents ranks ends length_within may due alike in
    accepted_text told later rank check (Some count) text answer contents found checks same written checking is_check
