-- What each due status says of a request to check.
use Rattle.asg_promises.proofs.Common.{◌≡◌, ℕ, ◌⊎◌, List, [], ◌∷◌, length, Some, None, Option, sym, refl, ap, ◌∙◌, subst, inl, inr, append-nil, arith, All-cons, All-head, All-nil, yes_text, Status, Certifies, ClaimsTruly, Form, HasText, AllHaveText, text_of, texts_of, Document, Problem, Objective, DueForJob, DueForTask, Long, Refused, Held, DueToCheck, NotRead, Miscounted, Read, form_asked, DueToJudge, IsDeniedBehind, Holds, instance_in, IsCertified, IsDenied, IsNotOne, IsUnread, IsVerdict, files_of, MayHold, MayHoldAll, content_at, files_of_task, Job, Work, Check}
use Rattle.asg_promises.proofs.DueLaws.{ReadsOnce}
use Rattle.asg_promises.proofs.HeldInstances.{HoldsInstances}
use Rattle.asg_promises.proofs.StageLaws.{AllShort, check_ends, first_held, reached}
use Rattle.asg_promises.proofs.ToldFiles.{held}
use Rattle.asg_answers.specs.declared.status.Status.TheVariants.{Done, Instance, Document as Unread, No, TooLong}

-- the text of one document is that of a list
one_text : (document : Document) (bytes : List ℕ) → bytes ≡ text_of document → bytes ≡ texts_of (document ∷ [])
one_text document bytes is = is ∙ sym (append-nil (text_of document))

one_has_text : (document : Document) → HasText document → AllHaveText (document ∷ [])
one_has_text document has_text = All-cons HasText document [] has_text (All-nil HasText)

-- the one document of an answer's file, which certifies, or is denied
abbrev IsJudged : Objective → Form → Problem → Document → Status → List ℕ → Type 0
IsJudged objective form X document status text =
    (Certifies objective X form document × ClaimsTruly objective X document × ((status ≡ Done) × (text ≡ yes_text 1))) ⊎ IsDeniedBehind objective form 0 X document status text

record IsOne (objective : Objective) (form : Form) (X : Problem) (bytes : List ℕ) (status : Status) (text : List ℕ) : Type 0 where
  document : Document
  has_text : HasText document
  read : bytes ≡ text_of document
  judged : IsJudged objective form X document status text

one_of : (objective : Objective) (form : Form) (X : Problem) (bytes : List ℕ) (status : Status) (text : List ℕ) (documents : List Document) → AllHaveText documents → bytes ≡ texts_of documents → length documents ≡ 1
    → DueToJudge objective form 0 (X ∷ []) documents status text → IsOne objective form X bytes status text
one_of objective form X bytes status text [] have_text read count due = absurd due
one_of objective form X bytes status text (document ∷ []) have_text read count due = record {
  document = document;
  has_text = All-head HasText document [] have_text;
  read = read ∙ append-nil (text_of document);
  judged = due;
}
one_of objective form X bytes status text (document ∷ other ∷ documents) have_text read count due = absurd (omega (arith, count))

-- the answer's file is refused, or its one document is judged
one_or_unread : (objective : Objective) (form : Form) (X : Problem) (bytes : List ℕ) (status : Status) (text : List ℕ) → DueToCheck objective form (X ∷ []) bytes status text → ((status ≡ Unread) × IsUnread bytes text) ⊎ IsOne objective form X bytes status text
one_or_unread objective form X bytes status text (NotRead line none at e told) = inl (e, inl (record { read_by_none = none; line = line; refused = at; told = told }))
one_or_unread objective form X bytes status text (Miscounted documents have_text read other e told) = inl (e, inr (record { documents = documents; have_text = have_text; read = read; count = other; told = told }))
one_or_unread objective form X bytes status text (Read documents have_text read same owed) = inr (one_of objective form X bytes status text documents have_text read same owed)

-- what is due by the command itself, and what that comes to
own : (job : Job) (contents : List (List ℕ)) (X : Problem) (status : Status) (text answer : List ℕ) (count : Option ℕ) → job.task ≡ Check answer None count → DueForTask job.task job contents X status text
    → DueToCheck job.objective (form_asked count) (X ∷ []) (content_at contents 1) status text
own job contents X status text answer count is due = subst (λ task. DueForTask task job contents X status text) is due

ended : (job : Job) (contents : List (List ℕ)) (X : Problem) (status : Status) (text answer : List ℕ) (count : Option ℕ) → job.task ≡ Check answer None count → DueForTask job.task job contents X status text
    → ((status ≡ Unread) × IsUnread (content_at contents 1) text) ⊎ IsOne job.objective (form_asked count) X (content_at contents 1) status text
ended job contents X status text answer count is due = one_or_unread job.objective (form_asked count) X (content_at contents 1) status text (own job contents X status text answer count is due)

-- the contents of the answer's file
second_held : (told : List ℕ → Option (List ℕ)) (job : Job) (contents : List (List ℕ)) (answer : List ℕ) (count : Option ℕ) → job.task ≡ Check answer None count → MayHoldAll told (files_of (Some (Work job))) contents
    → MayHold told answer (content_at contents 1)
second_held told job contents answer count is may = second contents (subst (λ task. MayHoldAll told (job.instance ∷ files_of_task task) contents) is may)
  where
    second : (cs : List (List ℕ)) → MayHoldAll told (job.instance ∷ answer ∷ []) cs → MayHold told answer (content_at cs 1)
    second [] m = absurd m
    second (bytes ∷ []) m = absurd m.1
    second (bytes ∷ spoken ∷ more) m = m.1.0

-- a request to check ends with the status 0, 3, 5, 6 or 10
abbrev IsEnding : Status → Type 0
IsEnding status = (status ≡ Done) ⊎ ((status ≡ Instance) ⊎ ((status ≡ Unread) ⊎ ((status ≡ No) ⊎ (status ≡ TooLong))))

pub check_statuses : (job : Job) (contents : List (List ℕ)) (status : Status) (text answer : List ℕ) (count : Option ℕ) → job.task ≡ Check answer None count → DueForJob job contents status text
    → (status ≡ Done) ⊎ ((status ≡ Instance) ⊎ ((status ≡ Unread) ⊎ ((status ≡ No) ⊎ (status ≡ TooLong))))
check_statuses job contents status text answer count is (Long place within long e told) = inr (inr (inr (inr e)))
check_statuses job contents status text answer count is (Refused short numbers none e told) = inr (inl e)
check_statuses job contents status text answer count is (Held short X holds due) =
    check_ends IsEnding (inl refl) (inr (inr (inr (inl refl)))) (inr (inr (inl refl))) job.objective (form_asked count) (X ∷ []) (content_at contents 1) status text (own job contents X status text answer count is due)

-- the answer's contents where they are told
said : (job : Job) (told : List ℕ → Option (List ℕ)) (contents : List (List ℕ)) (answer spoken : List ℕ) (count : Option ℕ) → job.task ≡ Check answer None count → told answer ≡ Some spoken
    → MayHoldAll told (files_of (Some (Work job))) contents → content_at contents 1 ≡ spoken
said job told contents answer spoken count is heard may = held (told answer) (content_at contents 1) spoken heard (second_held told job contents answer count is may)

-- with 5 where the answer isn't one document
pub check_unread : (job : Job) (told : List ℕ → Option (List ℕ)) (contents : List (List ℕ)) (status : Status) (text answer bytes spoken : List ℕ) (count : Option ℕ) (X : Problem) → AllShort told (Some (Work job))
    → job.task ≡ Check answer None count → told job.instance ≡ Some bytes → told answer ≡ Some spoken → instance_in job bytes ≡ Holds X → IsNotOne spoken
    → MayHoldAll told (files_of (Some (Work job))) contents → DueForJob job contents status text → status ≡ Unread
check_unread job told contents status text answer bytes spoken count X shorts is found heard holds not_one may due =
    by_ending (ended job contents X status text answer count is (reached job told contents status text bytes X shorts found holds may due))
  where
    by_ending : ((status ≡ Unread) × IsUnread (content_at contents 1) text) ⊎ IsOne job.objective (form_asked count) X (content_at contents 1) status text → status ≡ Unread
    by_ending (inl unread) = unread.0
    by_ending (inr one) = absurd (not_one one.document one.has_text (sym (said job told contents answer spoken count is heard may) ∙ one.read))

-- with 0 or 6 where it is
pub check_judged : ReadsOnce → (job : Job) (told : List ℕ → Option (List ℕ)) (contents : List (List ℕ)) (status : Status) (text answer bytes : List ℕ) (count : Option ℕ) (X : Problem) (document : Document) → AllShort told (Some (Work job))
    → job.task ≡ Check answer None count → told job.instance ≡ Some bytes → told answer ≡ Some (text_of document) → instance_in job bytes ≡ Holds X → HasText document
    → MayHoldAll told (files_of (Some (Work job))) contents → DueForJob job contents status text → IsVerdict job (form_asked count) X document status
check_judged once job told contents status text answer bytes count X document shorts is found heard holds has_text may due =
    by_ending (own job contents X status text answer count is (reached job told contents status text bytes X shorts found holds may due))
  where
    is_text : content_at contents 1 ≡ texts_of (document ∷ [])
    is_text = one_text document (content_at contents 1) (said job told contents answer (text_of document) count is heard may)

    by_verdict : IsJudged job.objective (form_asked count) X document status text → IsVerdict job (form_asked count) X document status
    by_verdict (inl (certifies, truly, (e, told'))) = inl (e, certifies)
    by_verdict (inr denied) = inr (denied.ended, denied.fails)

    by_ending : DueToCheck job.objective (form_asked count) (X ∷ []) (content_at contents 1) status text → IsVerdict job (form_asked count) X document status
    by_ending (NotRead line none at e told') = absurd (none (document ∷ []) (one_has_text document has_text) is_text)
    by_ending (Miscounted documents have_text read other e told') = absurd (other (ap length (once documents (document ∷ []) have_text (one_has_text document has_text) (sym read ∙ is_text))))
    by_ending (Read documents have_text read same owed) =
        by_verdict (subst (λ ds. DueToJudge job.objective (form_asked count) 0 (X ∷ []) ds status text) (once documents (document ∷ []) have_text (one_has_text document has_text) (sym read ∙ is_text)) owed)

-- `yes` is due only for a document that certifies, whose claim is then true
pub checked_only : (job : Job) → HoldsInstances job → (told : List ℕ → Option (List ℕ)) (contents : List (List ℕ)) (text answer : List ℕ) (count : Option ℕ) → job.task ≡ Check answer None count → MayHoldAll told (files_of (Some (Work job))) contents
    → DueForJob job contents Done text
    → MayHold told job.instance (content_at contents 0) × MayHold told answer (content_at contents 1) × IsCertified job (form_asked count) (content_at contents 0) (content_at contents 1) × (text ≡ yes_text 1)
checked_only job keeps told contents text answer count is may due =
    let found = by_case due in (first_held told job contents may, second_held told job contents answer count is may, found.0, found.1)
  where
    by_verdict : (X : Problem) → instance_in job (content_at contents 0) ≡ Holds X → (document : Document) → HasText document → content_at contents 1 ≡ text_of document → IsJudged job.objective (form_asked count) X document Done text
        → IsCertified job (form_asked count) (content_at contents 0) (content_at contents 1) × (text ≡ yes_text 1)
    by_verdict X holds document has_text read (inl (certifies, truly, (e, told'))) = (
      record {
        problem = X;
        document = document;
        held = holds;
        instance = keeps (content_at contents 0) X holds;
        has_text = has_text;
        read = read;
        certifies = certifies;
        truly = truly;
      },
      told',
    )
    by_verdict X holds document has_text read (inr denied) = let e = denied.ended in cc

    by_ending : (X : Problem) → instance_in job (content_at contents 0) ≡ Holds X → ((Done ≡ Unread) × IsUnread (content_at contents 1) text) ⊎ IsOne job.objective (form_asked count) X (content_at contents 1) Done text
        → IsCertified job (form_asked count) (content_at contents 0) (content_at contents 1) × (text ≡ yes_text 1)
    by_ending X holds (inl unread) = let e = unread.0 in cc
    by_ending X holds (inr one) = by_verdict X holds one.document one.has_text one.read one.judged

    by_case : DueForJob job contents Done text → IsCertified job (form_asked count) (content_at contents 0) (content_at contents 1) × (text ≡ yes_text 1)
    by_case (Long place within long e told') = cc
    by_case (Refused short numbers none e told') = cc
    by_case (Held short X holds owed) = by_ending X holds (ended job contents X Done text answer count is owed)

-- `no` is due only for a document that doesn't certify
pub denied_only : (job : Job) (told : List ℕ → Option (List ℕ)) (contents : List (List ℕ)) (text answer : List ℕ) (count : Option ℕ) → job.task ≡ Check answer None count → MayHoldAll told (files_of (Some (Work job))) contents
    → DueForJob job contents No text
    → MayHold told job.instance (content_at contents 0) × MayHold told answer (content_at contents 1) × IsDenied job (form_asked count) (content_at contents 0) (content_at contents 1) text
denied_only job told contents text answer count is may due = (first_held told job contents may, second_held told job contents answer count is may, by_case due)
  where
    by_verdict : (X : Problem) → instance_in job (content_at contents 0) ≡ Holds X → (document : Document) → HasText document → content_at contents 1 ≡ text_of document → IsJudged job.objective (form_asked count) X document No text
        → IsDenied job (form_asked count) (content_at contents 0) (content_at contents 1) text
    by_verdict X holds document has_text read (inl (certifies, truly, (e, told'))) = cc
    by_verdict X holds document has_text read (inr denied) = record {
      problem = X;
      document = document;
      held = holds;
      has_text = has_text;
      read = read;
      fails = denied.fails;
      number = denied.number;
      place = denied.place;
      reason = denied.reason;
      told = denied.told;
    }

    by_ending : (X : Problem) → instance_in job (content_at contents 0) ≡ Holds X → ((No ≡ Unread) × IsUnread (content_at contents 1) text) ⊎ IsOne job.objective (form_asked count) X (content_at contents 1) No text
        → IsDenied job (form_asked count) (content_at contents 0) (content_at contents 1) text
    by_ending X holds (inl unread) = let e = unread.0 in cc
    by_ending X holds (inr one) = by_verdict X holds one.document one.has_text one.read one.judged

    by_case : DueForJob job contents No text → IsDenied job (form_asked count) (content_at contents 0) (content_at contents 1) text
    by_case (Long place within long e told') = cc
    by_case (Refused short numbers none e told') = cc
    by_case (Held short X holds owed) = by_ending X holds (ended job contents X No text answer count is owed)

-- an answer's file is refused only where it isn't the text of one document
pub unread_only : (job : Job) (told : List ℕ → Option (List ℕ)) (contents : List (List ℕ)) (text answer : List ℕ) (count : Option ℕ) → job.task ≡ Check answer None count → MayHoldAll told (files_of (Some (Work job))) contents
    → DueForJob job contents Unread text
    → MayHold told job.instance (content_at contents 0) × MayHold told answer (content_at contents 1) × (X : Problem) × (instance_in job (content_at contents 0) ≡ Holds X) × IsUnread (content_at contents 1) text
unread_only job told contents text answer count is may due =
    let found = by_case due in (first_held told job contents may, second_held told job contents answer count is may, found.0, found.1, found.2)
  where
    by_verdict : (X : Problem) (document : Document) → IsJudged job.objective (form_asked count) X document Unread text → ⊥
    by_verdict X document (inl (certifies, truly, (e, told'))) = cc
    by_verdict X document (inr denied) = let e = denied.ended in cc

    by_ending : (X : Problem) → ((Unread ≡ Unread) × IsUnread (content_at contents 1) text) ⊎ IsOne job.objective (form_asked count) X (content_at contents 1) Unread text → IsUnread (content_at contents 1) text
    by_ending X (inl unread) = unread.1
    by_ending X (inr one) = absurd (by_verdict X one.document one.judged)

    by_case : DueForJob job contents Unread text → (X : Problem) × (instance_in job (content_at contents 0) ≡ Holds X) × IsUnread (content_at contents 1) text
    by_case (Long place within long e told') = cc
    by_case (Refused short numbers none e told') = cc
    by_case (Held short X holds owed) = (X, holds, by_ending X (ended job contents X Unread text answer count is owed))
