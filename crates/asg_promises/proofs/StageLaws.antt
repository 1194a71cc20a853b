-- What each due status says of the words and the files, before the command of a request decides it.
use Rattle.asg_promises.proofs.Common.{◌≡◌, ℕ, zero, suc, ◌+◌, ◌<◌, ◌≤◌, ◌⊎◌, List, [], ◌∷◌, length, get_or, Some, None, All, Option, sym, refl, ap, ◌∙◌, subst, inl, inr, arith, get_or_default, limit_number, HasRead, IsAnswer, usage_text, refused_instance_text, Status, Usage, Instance, TooLong, Form, Document, longest_file, Problem, Objective, Due, DueForAsked, DueForJob, DueForTask, IsShort, Long, Refused, Held, DueToCheck, NotRead, Miscounted, Read, form_asked, DueToEdit, Followed, DueToJudge, DueToRank, Ranked, TooMuch, Unrankable, DueToSolve, Solved, TooLarge, Unsolvable, Holds, Refuses, instance_in, IsRefusedInstance, IsTooLargeToSolve, IsTooMuchToRank, files_of, AsksFor, DueForScript, AreShort, MayHold, MayHoldAll, content_at, ranking_work, Job, Request, Work, Make, Task, Solve, Rank, Edit, Check, ScriptFile, HoldsLines, RefusesLines, script_in, solved_instances, Line}
use Rattle.std.specs.List.{Contains}
use Rattle.asg_promises.proofs.DueLaws.{not_long, refused_apart}
use Rattle.asg_promises.proofs.ToldFiles.{held, held_at, held_count}
use Rattle.asg_check.specs.declared.document_forms.Form.TheVariants as forms
use Rattle.asg_answers.specs.declared.status.Status.TheVariants as statuses

-- what holds of each status with which documents that are judged may end
judge_ends : (P : Status → Type 0) → P statuses.Done → P statuses.No → (objective : Objective) (form : Form) (count : ℕ) (instances : List Problem) (documents : List Document) (status : Status) (text : List ℕ)
    → DueToJudge objective form count instances documents status text → P status
judge_ends P on_done on_no objective form count [] [] status text due = subst P (sym due.0) on_done
judge_ends P on_done on_no objective form count [] (document ∷ documents) status text due = absurd due
judge_ends P on_done on_no objective form count (X ∷ instances) [] status text due = absurd due
judge_ends P on_done on_no objective form count (X ∷ instances) (document ∷ documents) status text (inl due) = judge_ends P on_done on_no objective form (count + 1) instances documents status text due.2
judge_ends P on_done on_no objective form count (X ∷ instances) (document ∷ documents) status text (inr denied) = subst P (sym denied.ended) on_no

-- so a request to check, one with a script, and one to edit
pub check_ends : (P : Status → Type 0) → P statuses.Done → P statuses.No → P statuses.Document → (objective : Objective) (form : Form) (instances : List Problem) (bytes : List ℕ) (status : Status) (text : List ℕ)
    → DueToCheck objective form instances bytes status text → P status
check_ends P on_done on_no on_document objective form instances bytes status text (NotRead line none at is told) = subst P (sym is) on_document
check_ends P on_done on_no on_document objective form instances bytes status text (Miscounted documents have_text read other is told) = subst P (sym is) on_document
check_ends P on_done on_no on_document objective form instances bytes status text (Read documents have_text read same owed) = judge_ends P on_done on_no objective form 0 instances documents status text owed

pub script_ends : (P : Status → Type 0) → P statuses.Script → (file : ScriptFile) (Owed : List (ℕ × Line) → Status → List ℕ → Type 0) (status : Status) (text : List ℕ) → ((lines : List (ℕ × Line)) → Owed lines status text → P status)
    → DueForScript file Owed status text → P status
script_ends P on_script (RefusesLines numbers) Owed status text ends due = subst P (sym due.0) on_script
script_ends P on_script (HoldsLines lines) Owed status text ends due = ends lines due

pub edit_ends : (P : Status → Type 0) → P statuses.Done → (job : Job) (X : Problem) (lines : List (ℕ × Line)) (status : Status) (text : List ℕ) → DueToEdit job X lines status text → P status
edit_ends P on_done job X lines status text (Followed told is) = subst P (sym is) on_done

-- so each command, beside what holds of those that solve and rank
task_ends : (P : Status → Type 0) → P statuses.Done → P statuses.No → P statuses.Document → P statuses.Script → (task : Task) (job : Job) (contents : List (List ℕ)) (X : Problem) (status : Status) (text : List ℕ)
    → (task ≡ Solve → DueToSolve job X status text → P status) → ((count : ℕ) → task ≡ Rank count → DueToRank job count X status text → P status) → DueForTask task job contents X status text → P status
task_ends P on_done on_no on_document on_script Solve job contents X status text solves ranks due = solves refl due
task_ends P on_done on_no on_document on_script (Rank count) job contents X status text solves ranks due = ranks count refl due
task_ends P on_done on_no on_document on_script (Edit script) job contents X status text solves ranks due =
    script_ends P on_script (script_in job.objective X (content_at contents 1)) (DueToEdit job X) status text (λ lines. edit_ends P on_done job X lines status text) due
task_ends P on_done on_no on_document on_script (Check answer None count) job contents X status text solves ranks due =
    check_ends P on_done on_no on_document job.objective (form_asked count) (X ∷ []) (content_at contents 1) status text due
task_ends P on_done on_no on_document on_script (Check answer (Some script) count) job contents X status text solves ranks due =
    script_ends P on_script (script_in job.objective X (content_at contents 1)) (λ lines. DueToCheck job.objective forms.Edit (solved_instances X lines) (content_at contents 2)) status text
    (λ lines. check_ends P on_done on_no on_document job.objective forms.Edit (solved_instances X lines) (content_at contents 2) status text)
    due

-- a command ends with the status of a run that read all files
task_decides : (task : Task) (job : Job) (contents : List (List ℕ)) (X : Problem) (status : Status) (text : List ℕ) → DueForTask task job contents X status text → HasRead status
task_decides task job contents X status text due = task_ends HasRead tt tt tt tt task job contents X status text (λ is. by_solve) (λ count is. by_rank count) due
  where
    by_solve : DueToSolve job X status text → HasRead status
    by_solve (Solved takes told e) = subst HasRead (sym e) tt
    by_solve (Unsolvable takes told e) = subst HasRead (sym e) tt
    by_solve (TooLarge count refuses e told) = subst HasRead (sym e) tt

    by_rank : (count : ℕ) → DueToRank job count X status text → HasRead status
    by_rank count (Ranked few told e) = subst HasRead (sym e) tt
    by_rank count (Unrankable few told e) = subst HasRead (sym e) tt
    by_rank count (TooMuch over e told) = subst HasRead (sym e) tt

-- a command refuses the instance that the bytes hold only where it is to solve, and the objective's
-- solver refuses it, or where it is to rank, and so many choices are too much
record IsOverLimit (job : Job) (bytes text : List ℕ) : Type 0 where
  numbers : List ℕ
  over : IsTooLargeToSolve job bytes numbers ⊎ IsTooMuchToRank job bytes numbers
  told : text ≡ refused_instance_text numbers

task_refuses : (task : Task) (job : Job) (contents : List (List ℕ)) (bytes : List ℕ) (X : Problem) (text : List ℕ) → instance_in job bytes ≡ Holds X → job.task ≡ task → DueForTask task job contents X Instance text
    → IsOverLimit job bytes text
task_refuses task job contents bytes X text holds is due =
    task_ends (λ status. status ≡ Instance → IsOverLimit job bytes text) (λ e. cc) (λ e. cc) (λ e. cc) (λ e. cc) task job contents X Instance text by_solve by_rank due refl
  where
    by_solve : task ≡ Solve → DueToSolve job X Instance text → Instance ≡ Instance → IsOverLimit job bytes text
    by_solve solves (Solved takes told e) same = cc
    by_solve solves (Unsolvable takes told e) same = cc
    by_solve solves (TooLarge count refuses e told) same = record {
      numbers = limit_number job.objective ∷ count ∷ [];
      over = inl (record { solves = is ∙ solves; problem = X; held = holds; count = count; refused = refuses; told = refl });
      told = told;
    }

    by_rank : (count : ℕ) → task ≡ Rank count → DueToRank job count X Instance text → Instance ≡ Instance → IsOverLimit job bytes text
    by_rank count ranks (Ranked few told e) same = cc
    by_rank count ranks (Unrankable few told e) same = cc
    by_rank count ranks (TooMuch over e told) same = record {
      numbers = 18 ∷ ranking_work X count ∷ [];
      over = inr (record { count = count; ranks = is ∙ ranks; problem = X; held = holds; refused = over; told = refl });
      told = told;
    }

-- so what is due is an answer
decided_answer : (status : Status) → HasRead status → IsAnswer status
decided_answer statuses.Done one = tt
decided_answer statuses.Nothing one = tt
decided_answer statuses.Usage one = tt
decided_answer statuses.Instance one = tt
decided_answer statuses.Script one = tt
decided_answer statuses.Document one = tt
decided_answer statuses.No one = tt
decided_answer statuses.ReadFault one = one
decided_answer statuses.WriteFault one = one
decided_answer statuses.NoMemory one = one
decided_answer statuses.TooLong one = tt

pub asked_answer : (asked : Option Request) (contents : List (List ℕ)) (status : Status) (text : List ℕ) → DueForAsked asked contents status text → IsAnswer status
asked_answer None contents status text due = subst IsAnswer (sym due.0) tt
asked_answer (Some (Make seed side)) contents status text due = subst IsAnswer (sym due.0) tt
asked_answer (Some (Work job)) contents status text (Long place within long is told) = subst IsAnswer (sym is) tt
asked_answer (Some (Work job)) contents status text (Refused short numbers none is told) = subst IsAnswer (sym is) tt
asked_answer (Some (Work job)) contents status text (Held short X holds due) = decided_answer status (task_decides job.task job contents X status text due)

-- where no file is too long, that status isn't due
pub short_answer : (asked : Option Request) (contents : List (List ℕ)) (text : List ℕ) → AreShort contents → DueForAsked asked contents TooLong text → ⊥
short_answer None contents text short due = let e = due.0 in cc
short_answer (Some (Make seed side)) contents text short due = let e = due.0 in cc
short_answer (Some (Work job)) contents text short (Long place within long is told) = not_long contents place short within long
short_answer (Some (Work job)) contents text short (Refused few numbers none is told) = cc
short_answer (Some (Work job)) contents text short (Held few X holds due) = task_decides job.task job contents X TooLong text due

-- the usage line is due only for words that are no request
pub usage_only : (asked : Option Request) (contents : List (List ℕ)) (text : List ℕ) → DueForAsked asked contents Usage text → (asked ≡ None) × (text ≡ usage_text)
usage_only None contents text due = (refl, due.1)
usage_only (Some (Make seed side)) contents text due = let e = due.0 in cc
usage_only (Some (Work job)) contents text (Long place within long is told) = cc
usage_only (Some (Work job)) contents text (Refused short numbers none is told) = cc
usage_only (Some (Work job)) contents text (Held short X holds due) = absurd (task_decides job.task job contents X Usage text due)

-- a file is called too long only where it is longer than the longest that is read
pub too_long_only : (asked : Option Request) (told : List ℕ → Option (List ℕ)) (contents : List (List ℕ)) (text : List ℕ) → MayHoldAll told (files_of asked) contents
    → DueForAsked asked contents TooLong text → (name bytes : List ℕ) × Contains (files_of asked) name × MayHold told name bytes × (longest_file < length bytes) × (text ≡ [])
too_long_only None told contents text may due = let e = due.0 in cc
too_long_only (Some (Make seed side)) told contents text may due = let e = due.0 in cc
too_long_only (Some (Work job)) told contents text may (Long place within long is told_text) =
    let names = files_of (Some (Work job)) in
    let there : place < length names = omega (arith, held_count told names contents may) in
    (get_or names place [], content_at contents place, (place, there, get_or_default names place (get_or names place []) [] there), held_at told names contents place [] may there, long, told_text)
too_long_only (Some (Work job)) told contents text may (Refused short numbers none is told_text) = cc
too_long_only (Some (Work job)) told contents text may (Held short X holds due) = absurd (task_decides job.task job contents X TooLong text due)

-- what is due for the words of a job
pub job_due : (words : List (List ℕ)) (told : List ℕ → Option (List ℕ)) (status : Status) (text : List ℕ) (job : Job) → AsksFor words job → Due words told status text
    → (contents : List (List ℕ)) × MayHoldAll told (files_of (Some (Work job))) contents × DueForJob job contents status text
job_due words told status text job is (contents, may, due) = (contents, subst (λ a. MayHoldAll told (files_of a) contents) is may, subst (λ a. DueForAsked a contents status text) is due)

-- the contents of the instance's file
pub first_held : (told : List ℕ → Option (List ℕ)) (job : Job) (contents : List (List ℕ)) → MayHoldAll told (files_of (Some (Work job))) contents → MayHold told job.instance (content_at contents 0)
first_held told job [] may = absurd may
first_held told job (bytes ∷ contents) may = may.0

-- the refusal of an instance is due only for a file that holds none, for one that is too large to
-- solve, or for one of which so many choices are too much to rank
pub refused_only : (asked : Option Request) (told : List ℕ → Option (List ℕ)) (contents : List (List ℕ)) (text : List ℕ) → MayHoldAll told (files_of asked) contents
    → DueForAsked asked contents Instance text
    → (job : Job) × (bytes numbers : List ℕ) × (asked ≡ Some (Work job)) × MayHold told job.instance bytes × IsRefusedInstance job bytes numbers × (text ≡ refused_instance_text numbers)
refused_only None told contents text may due = let e = due.0 in cc
refused_only (Some (Make seed side)) told contents text may due = let e = due.0 in cc
refused_only (Some (Work job)) told contents text may (Long place within long is told_text) = cc
refused_only (Some (Work job)) told contents text may (Refused short numbers none is told_text) = (job, content_at contents 0, numbers, refl, first_held told job contents may, inl none, told_text)
refused_only (Some (Work job)) told contents text may (Held short X holds due) =
    let own = task_refuses job.task job contents (content_at contents 0) X text holds refl due in
    (job, content_at contents 0, own.numbers, refl, first_held told job contents may, inr own.over, own.told)

-- each file of a request is told, and isn't too long
abbrev pub AllShort : (List ℕ → Option (List ℕ)) → Option Request → Type 0
AllShort told asked = All (λ name. IsShort (told name)) (files_of asked)

-- so the contents that may be held aren't too long
pub short_held : (told : List ℕ → Option (List ℕ)) (asked : Option Request) (contents : List (List ℕ)) → AllShort told asked → MayHoldAll told (files_of asked) contents → AreShort contents
short_held told asked contents shorts may = λ place d within.
    let names = files_of asked in
    let there : place < length names = omega (arith, held_count told names contents may) in
    let (bytes, is, few) = shorts place [] there in
    let same : content_at contents place ≡ bytes = held (told (get_or names place [])) (content_at contents place) bytes is (held_at told names contents place [] may there) in
    at contents place d within (subst (λ b. length b ≤ longest_file) (sym same) few)
  where
    at : (contents : List (List ℕ)) (place : ℕ) (d : List ℕ) → place < length contents → length (content_at contents place) ≤ longest_file → length (get_or contents place d) ≤ longest_file
    at [] place d within few = absurd (omega arith)
    at (bytes ∷ contents) zero d within few = few
    at (bytes ∷ contents) (suc place) d within few = at contents place d (omega arith) few

-- words that are no request
pub exact_usage : (asked : Option Request) (contents : List (List ℕ)) (status : Status) (text : List ℕ) → asked ≡ None → DueForAsked asked contents status text → status ≡ Usage
exact_usage asked contents status text none due = let due' = subst (λ a. DueForAsked a contents status text) none due in due'.0

-- a file that is too long
pub exact_too_long : (asked : Option Request) (told : List ℕ → Option (List ℕ)) (contents : List (List ℕ)) (status : Status) (text name bytes : List ℕ) → Contains (files_of asked) name
    → told name ≡ Some bytes → longest_file < length bytes → MayHoldAll told (files_of asked) contents → DueForAsked asked contents status text → status ≡ TooLong
exact_too_long None told contents status text name bytes (place, within, is) found long may due = absurd (omega arith)
exact_too_long (Some (Make seed side)) told contents status text name bytes (place, within, is) found long may due = absurd (omega arith)
exact_too_long (Some (Work job)) told contents status text name bytes (place, within, is) found long may due = by_case due
  where
    too_long : AreShort contents → ⊥
    too_long short =
        let names = files_of (Some (Work job)) in
        let same : content_at contents place ≡ bytes = held (told (get_or names place name)) (content_at contents place) bytes (ap told is ∙ found) (held_at told names contents place name may within) in
        not_long contents place short (omega (arith, held_count told names contents may)) (subst (λ b. longest_file < length b) (sym same) long)

    by_case : DueForJob job contents status text → status ≡ TooLong
    by_case (Long place' within' long' e told') = e
    by_case (Refused short numbers none e told') = absurd (too_long short)
    by_case (Held short X holds owed) = absurd (too_long short)

-- an instance file that is refused
pub exact_refused : (job : Job) (told : List ℕ → Option (List ℕ)) (contents : List (List ℕ)) (status : Status) (text bytes numbers : List ℕ) → AllShort told (Some (Work job))
    → told job.instance ≡ Some bytes → instance_in job bytes ≡ Refuses numbers → MayHoldAll told (files_of (Some (Work job))) contents → DueForJob job contents status text → status ≡ Instance
exact_refused job told contents status text bytes numbers shorts found none may due = by_case due
  where
    by_case : DueForJob job contents status text → status ≡ Instance
    by_case (Long place within long e told') = not_long contents place (short_held told (Some (Work job)) contents shorts may) within long
    by_case (Refused short numbers' none' e told') = e
    by_case (Held short X holds owed) =
        let same = held (told job.instance) (content_at contents 0) bytes found (first_held told job contents may) in
        refused_apart (ap (instance_in job) same ∙ none) holds

-- where the files are told, the first one holds an instance, and none is too long, the command
-- decides
pub reached : (job : Job) (told : List ℕ → Option (List ℕ)) (contents : List (List ℕ)) (status : Status) (text bytes : List ℕ) (X : Problem) → AllShort told (Some (Work job))
    → told job.instance ≡ Some bytes → instance_in job bytes ≡ Holds X → MayHoldAll told (files_of (Some (Work job))) contents → DueForJob job contents status text
    → DueForTask job.task job contents X status text
reached job told contents status text bytes X shorts found holds may due = by_case due
  where
    same : content_at contents 0 ≡ bytes
    same = held (told job.instance) (content_at contents 0) bytes found (first_held told job contents may)

    by_case : DueForJob job contents status text → DueForTask job.task job contents X status text
    by_case (Long place within long e told') = not_long contents place (short_held told (Some (Work job)) contents shorts may) within long
    by_case (Refused short numbers none e told') = refused_apart none (ap (instance_in job) same ∙ holds)
    by_case (Held short Y holds' owed) =
        let both = sym holds' ∙ ap (instance_in job) same ∙ holds in
        let one : Y ≡ X = cc in
        subst (λ Z. DueForTask job.task job contents Z status text) one owed
