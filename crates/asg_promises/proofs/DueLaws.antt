-- What is due has one status, and one text where no document is written, or in brief.
use Rattle.asg_promises.proofs.Common.{◌≡◌, ℕ, ◌+◌, ◌<◌, Bool, true, false, ◌⊎◌, List, [], ◌∷◌, length, ℤ, IsSome, Some, None, All, Option, sym, ap, ◌∙◌, subst, inl, inr, arith, limit_number, HasOneText, TellsBest, TellsNone, TellsRanking, TellsScript, refused_document_text, refused_instance_text, refused_script_text, no_text, yes_text, Status, AreBriefLines, IsBestLine, IsBriefLine, IsNoneLine, IsRankedLine, Form, AllHaveText, IsRefusedLine, texts_of, Document, longest_file, Problem, Objective, DueForAsked, DueForJob, DueForTask, Long, Refused, Held, DueToCheck, NotRead, Miscounted, Read, form_asked, DueToEdit, Followed, DueToJudge, DueToRank, Ranked, TooMuch, Unrankable, DueToSolve, Solved, TooLarge, Unsolvable, InstanceFile, Holds, Refuses, files_of, DueForScript, AreShort, MayHoldAll, content_at, Job, Request, Work, Make, Task, Solve, Rank, Edit, Check, ScriptFile, HoldsLines, RefusesLines, script_in, solved_instances, Line}
use Rattle.asg_check.specs.Reasons.{IsFirstReason}
use Rattle.asg_promises.proofs.SolverLimits.{refused_once, taken_apart}
use Rattle.asg_promises.proofs.TellingLaws.{best_valid, none_valid, ranking_valid}
use Rattle.asg_promises.proofs.ToldFiles.{held_once}
use Rattle.asg_check.specs.declared.document_forms.Form.TheVariants as forms
use Rattle.asg_answers.specs.declared.status.Status.TheVariants.{Done, Nothing, Usage, Script, Document as Unread, TooLong}

-- no two lists of documents have one text
abbrev pub ReadsOnce : Type 0
ReadsOnce = (documents others : List Document) → AllHaveText documents → AllHaveText others → texts_of documents ≡ texts_of others → documents ≡ others

-- a file has one refused line
abbrev pub RefusesOnce : Type 0
RefusesOnce = (file : List ℕ) (n other : ℕ) → IsRefusedLine file n → IsRefusedLine file other → n ≡ other

-- a document has one first reason against it
abbrev pub DeniesOnce : Type 0
DeniesOnce = (objective : Objective) (X : Problem) (form : Form) (document : Document) (number other : ℕ) (place elsewhere : ℤ)
    → IsFirstReason objective X form document number place → IsFirstReason objective X form document other elsewhere
    → (number ≡ other) × (place ≡ elsewhere)

-- an instance has one brief line
abbrev pub LineOnce : Type 0
LineOnce = (objective : Objective) (X : Problem) (line other : List ℕ) → IsBriefLine objective X line → IsBriefLine objective X other → line ≡ other

-- so instances have one text of them
abbrev pub LinesOnce : Type 0
LinesOnce = (objective : Objective) (instances : List Problem) (text other : List ℕ) → AreBriefLines objective instances text → AreBriefLines objective instances other → text ≡ other

-- and the rankings of so many choices one line
abbrev pub RankedOnce : Type 0
RankedOnce = (objective : Objective) (X : Problem) (count : ℕ) (line other : List ℕ) → IsRankedLine objective X count line → IsRankedLine objective X count other → line ≡ other

-- the laws of the crates below on which all this rests
pub record Known : Type 0 where
  pub reads : ReadsOnce
  pub refuses : RefusesOnce
  pub denies : DeniesOnce
  pub line : LineOnce
  pub lines : LinesOnce
  pub ranked : RankedOnce

-- one status, and one text where no document is written, or in brief
abbrev pub AreOne : Bool → Status → List ℕ → Status → List ℕ → Type 0
AreOne brief status text other more = (status ≡ other) × (HasOneText status ⊎ (brief ≡ true) → text ≡ more)

-- a status that has one text, written twice
fixed : (brief : Bool) (due status other : Status) (text more line : List ℕ) → status ≡ due → other ≡ due → text ≡ line → more ≡ line → AreOne brief status text other more
fixed brief due status other text more line is also told again = (is ∙ sym also, λ one. told ∙ sym again)

-- a text of a status that has one, or that is told in brief
told_once : (brief : Bool) (status due : Status) (text more : List ℕ) → status ≡ due → ¬ HasOneText due → (brief ≡ true → text ≡ more) → HasOneText status ⊎ (brief ≡ true) → text ≡ more
told_once brief status due text more is many once (inl one) = absurd (many (subst HasOneText is one))
told_once brief status due text more is many once (inr short) = once short

-- a request to solve
solve_once : Known → (job : Job) (X : Problem) (status other : Status) (text more : List ℕ) → DueToSolve job X status text → DueToSolve job X other more → AreOne job.brief status text other more
solve_once known job X status other text more (Solved takes tells is) (Solved takes' again also) =
    (is ∙ sym also, told_once job.brief status Done text more is (λ one. one) (λ brief. known.line job.objective X text more (inl (in_brief brief text tells)) (inl (in_brief brief more again))))
  where
    in_brief : job.brief ≡ true → (line : List ℕ) → TellsBest job.brief job.objective X line → IsBestLine job.objective X line
    in_brief brief line told = subst (λ b. TellsBest b job.objective X line) brief told
solve_once known job X status other text more (Unsolvable takes tells is) (Unsolvable takes' again also) =
    (is ∙ sym also, told_once job.brief status Nothing text more is (λ one. one) (λ brief. known.line job.objective X text more (inr (in_brief brief text tells)) (inr (in_brief brief more again))))
  where
    in_brief : job.brief ≡ true → (line : List ℕ) → TellsNone job.brief job.objective X forms.Solve line → IsNoneLine job.objective X line
    in_brief brief line told = subst (λ b. TellsNone b job.objective X forms.Solve line) brief told
solve_once known job X status other text more (Solved takes tells is) (Unsolvable takes' none also) =
    let some = best_valid job.brief job.objective X text tells in absurd (none_valid job.brief job.objective X forms.Solve more none some.0 some.1)
solve_once known job X status other text more (Unsolvable takes none is) (Solved takes' tells also) =
    let some = best_valid job.brief job.objective X more tells in absurd (none_valid job.brief job.objective X forms.Solve text none some.0 some.1)
solve_once known job X status other text more (TooLarge count refuses is told) (TooLarge count' refuses' also told') =
    (is ∙ sym also, λ one. told ∙ ap (λ n. refused_instance_text (limit_number job.objective ∷ n ∷ [])) (refused_once job.objective X count count' refuses refuses') ∙ sym told')
solve_once known job X status other text more (Solved takes tells is) (TooLarge count refuses also told') = taken_apart job.objective X count takes refuses
solve_once known job X status other text more (Unsolvable takes tells is) (TooLarge count refuses also told') = taken_apart job.objective X count takes refuses
solve_once known job X status other text more (TooLarge count refuses is told) (Solved takes tells also) = taken_apart job.objective X count takes refuses
solve_once known job X status other text more (TooLarge count refuses is told) (Unsolvable takes tells also) = taken_apart job.objective X count takes refuses

-- a request to rank
rank_once : Known → (job : Job) (count : ℕ) (X : Problem) (status other : Status) (text more : List ℕ) → DueToRank job count X status text → DueToRank job count X other more → AreOne job.brief status text other more
rank_once known job count X status other text more (Ranked few tells is) (Ranked few' again also) =
    (is ∙ sym also, told_once job.brief status Done text more is (λ one. one) (λ brief. known.ranked job.objective X count text more (in_brief brief text tells) (in_brief brief more again)))
  where
    in_brief : job.brief ≡ true → (line : List ℕ) → TellsRanking job.brief job.objective X count line → IsRankedLine job.objective X count line
    in_brief brief line told = subst (λ b. TellsRanking b job.objective X count line) brief told
rank_once known job count X status other text more (Unrankable few tells is) (Unrankable few' again also) =
    (is ∙ sym also, told_once job.brief status Nothing text more is (λ one. one) (λ brief. known.line job.objective X text more (inr (in_brief brief text tells)) (inr (in_brief brief more again))))
  where
    in_brief : job.brief ≡ true → (line : List ℕ) → TellsNone job.brief job.objective X (forms.Rank count) line → IsNoneLine job.objective X line
    in_brief brief line told = subst (λ b. TellsNone b job.objective X (forms.Rank count) line) brief told
rank_once known job count X status other text more (Ranked few tells is) (Unrankable few' none also) =
    let some = ranking_valid job.brief job.objective X count text tells in absurd (none_valid job.brief job.objective X (forms.Rank count) more none some.0 some.1)
rank_once known job count X status other text more (Unrankable few none is) (Ranked few' tells also) =
    let some = ranking_valid job.brief job.objective X count more tells in absurd (none_valid job.brief job.objective X (forms.Rank count) text none some.0 some.1)
rank_once known job count X status other text more (TooMuch over is told) (TooMuch over' also told') = (is ∙ sym also, λ one. told ∙ sym told')
rank_once known job count X status other text more (Ranked few tells is) (TooMuch over also told') = absurd (omega (arith, few, over))
rank_once known job count X status other text more (Unrankable few tells is) (TooMuch over also told') = absurd (omega (arith, few, over))
rank_once known job count X status other text more (TooMuch over is told) (Ranked few tells also) = absurd (omega (arith, few, over))
rank_once known job count X status other text more (TooMuch over is told) (Unrankable few tells also) = absurd (omega (arith, few, over))

-- documents that are judged in turn
judge_once : (brief : Bool) → DeniesOnce → (objective : Objective) (form : Form) (count : ℕ) (instances : List Problem) (documents : List Document) (status other : Status) (text more : List ℕ)
    → DueToJudge objective form count instances documents status text → DueToJudge objective form count instances documents other more → AreOne brief status text other more
judge_once brief once objective form count [] [] status other text more first second = fixed brief Done status other text more (yes_text count) first.0 second.0 first.1 second.1
judge_once brief once objective form count [] (document ∷ documents) status other text more first second = absurd first
judge_once brief once objective form count (X ∷ instances) [] status other text more first second = absurd first
judge_once brief once objective form count (X ∷ instances) (document ∷ documents) status other text more (inl first) (inl second) =
    judge_once brief once objective form (count + 1) instances documents status other text more first.2 second.2
judge_once brief once objective form count (X ∷ instances) (document ∷ documents) status other text more (inl first) (inr denied) = absurd (denied.fails first.0)
judge_once brief once objective form count (X ∷ instances) (document ∷ documents) status other text more (inr denied) (inl second) = absurd (denied.fails second.0)
judge_once brief once objective form count (X ∷ instances) (document ∷ documents) status other text more (inr denied) (inr also) =
    let same = once objective X form document denied.number also.number denied.place also.place denied.reason also.reason in
    (denied.ended ∙ sym also.ended, λ one. denied.told ∙ (λ k. no_text (count + 1) (same.0 k) (same.1 k)) ∙ sym also.told)

-- a request to check
check_once : (brief : Bool) → Known → (objective : Objective) (form : Form) (instances : List Problem) (bytes : List ℕ) (status other : Status) (text more : List ℕ)
    → DueToCheck objective form instances bytes status text → DueToCheck objective form instances bytes other more → AreOne brief status text other more
check_once brief known objective form instances bytes status other text more (NotRead line none at is told) (NotRead line' none' at' also told') =
    (is ∙ sym also, λ one. told ∙ ap refused_document_text (known.refuses bytes line line' at at') ∙ sym told')
check_once brief known objective form instances bytes status other text more (NotRead line none at is told) (Miscounted documents have_text read count also told') = absurd (none documents have_text read)
check_once brief known objective form instances bytes status other text more (NotRead line none at is told) (Read documents have_text read count owed) = absurd (none documents have_text read)
check_once brief known objective form instances bytes status other text more (Miscounted documents have_text read count is told) (NotRead line none at also told') = absurd (none documents have_text read)
check_once brief known objective form instances bytes status other text more (Miscounted documents have_text read count is told) (Miscounted others have_text' read' count' also told') =
    fixed brief Unread status other text more _ is also told told'
check_once brief known objective form instances bytes status other text more (Miscounted documents have_text read count is told) (Read others have_text' read' count' owed) =
    absurd (count (ap length (known.reads documents others have_text have_text' (sym read ∙ read')) ∙ count'))
check_once brief known objective form instances bytes status other text more (Read documents have_text read count owed) (NotRead line none at also told') = absurd (none documents have_text read)
check_once brief known objective form instances bytes status other text more (Read documents have_text read count owed) (Miscounted others have_text' read' count' also told') =
    absurd (count' (ap length (known.reads others documents have_text' have_text (sym read' ∙ read)) ∙ count))
check_once brief known objective form instances bytes status other text more (Read documents have_text read count owed) (Read others have_text' read' count' owed') =
    judge_once brief known.denies objective form 0 instances documents status other text more owed
    (subst (λ ds. DueToJudge objective form 0 instances ds other more) (sym (known.reads documents others have_text have_text' (sym read ∙ read'))) owed')

-- the stage of the script
script_once : (brief : Bool) (file : ScriptFile) (Owed : List (ℕ × Line) → Status → List ℕ → Type 0) (status other : Status) (text more : List ℕ)
    → ((lines : List (ℕ × Line)) → Owed lines status text → Owed lines other more → AreOne brief status text other more)
    → DueForScript file Owed status text → DueForScript file Owed other more → AreOne brief status text other more
script_once brief (RefusesLines numbers) Owed status other text more once first second = fixed brief Script status other text more (refused_script_text numbers) first.0 second.0 first.1 second.1
script_once brief (HoldsLines lines) Owed status other text more once first second = once lines first second

-- a request to edit
edit_once : Known → (job : Job) (X : Problem) (lines : List (ℕ × Line)) (status other : Status) (text more : List ℕ) → DueToEdit job X lines status text → DueToEdit job X lines other more → AreOne job.brief status text other more
edit_once known job X lines status other text more (Followed tells is) (Followed again also) =
    (is ∙ sym also, told_once job.brief status Done text more is (λ one. one) (λ brief. known.lines job.objective (solved_instances X lines) text more (in_brief brief text tells) (in_brief brief more again)))
  where
    in_brief : job.brief ≡ true → (lined : List ℕ) → TellsScript job.brief job.objective X lines lined → AreBriefLines job.objective (solved_instances X lines) lined
    in_brief brief lined told = subst (λ b. TellsScript b job.objective X lines lined) brief told

-- each command
task_once : Known → (task : Task) (job : Job) (contents : List (List ℕ)) (X : Problem) (status other : Status) (text more : List ℕ)
    → DueForTask task job contents X status text → DueForTask task job contents X other more → AreOne job.brief status text other more
task_once known Solve job contents X status other text more first second = solve_once known job X status other text more first second
task_once known (Check answer None count) job contents X status other text more first second =
    check_once job.brief known job.objective (form_asked count) (X ∷ []) (content_at contents 1) status other text more first second
task_once known (Check answer (Some script) count) job contents X status other text more first second =
    script_once job.brief (script_in job.objective X (content_at contents 1)) (λ lines. DueToCheck job.objective forms.Edit (solved_instances X lines) (content_at contents 2)) status other text more
    (λ lines. check_once job.brief known job.objective forms.Edit (solved_instances X lines) (content_at contents 2) status other text more)
    first second
task_once known (Rank count) job contents X status other text more first second = rank_once known job count X status other text more first second
task_once known (Edit script) job contents X status other text more first second =
    script_once job.brief (script_in job.objective X (content_at contents 1)) (DueToEdit job X) status other text more (λ lines. edit_once known job X lines status other text more) first second

-- no file of those is too long
pub not_long : {P : Type 0} (contents : List (List ℕ)) (place : ℕ) → AreShort contents → place < length contents → longest_file < length (content_at contents place) → P
not_long contents place short within long = let few = short place [] within in absurd (omega arith)

-- a file that is refused holds no instance
pub refused_apart : {P : Type 0} {file : InstanceFile} {numbers : List ℕ} {X : Problem} → file ≡ Refuses numbers → file ≡ Holds X → P
refused_apart refused holds = let both = sym refused ∙ holds in cc

-- a job
job_once : Known → (job : Job) (contents : List (List ℕ)) (status other : Status) (text more : List ℕ)
    → DueForJob job contents status text → DueForJob job contents other more → AreOne job.brief status text other more
job_once known job contents status other text more (Long place within long is told) (Long place' within' long' also told') = fixed job.brief TooLong status other text more [] is also told told'
job_once known job contents status other text more (Long place within long is told) (Refused short numbers refused also told') = not_long contents place short within long
job_once known job contents status other text more (Long place within long is told) (Held short X holds due) = not_long contents place short within long
job_once known job contents status other text more (Refused short numbers refused is told) (Long place within long also told') = not_long contents place short within long
job_once known job contents status other text more (Refused short numbers refused is told) (Refused short' numbers' refused' also told') =
    let both = sym refused ∙ refused' in
    let same : numbers ≡ numbers' = cc in
    (is ∙ sym also, λ one. told ∙ ap refused_instance_text same ∙ sym told')
job_once known job contents status other text more (Refused short numbers refused is told) (Held short' X holds due) = refused_apart refused holds
job_once known job contents status other text more (Held short X holds due) (Long place within long also told') = not_long contents place short within long
job_once known job contents status other text more (Held short X holds due) (Refused short' numbers refused also told') = refused_apart refused holds
job_once known job contents status other text more (Held short X holds due) (Held short' X' holds' due') =
    let both = sym holds ∙ holds' in
    let same : X ≡ X' = cc in
    task_once known job.task job contents X status other text more due (subst (λ Y. DueForTask job.task job contents Y other more) (sym same) due')

-- the request is told in brief
abbrev pub is_brief : Option Request → Bool
is_brief None = false
is_brief (Some (Make seed side)) = false
is_brief (Some (Work job)) = job.brief

asked_once : Known → (asked : Option Request) (contents : List (List ℕ)) (status other : Status) (text more : List ℕ)
    → DueForAsked asked contents status text → DueForAsked asked contents other more → AreOne (is_brief asked) status text other more
asked_once known None contents status other text more first second = fixed false Usage status other text more _ first.0 second.0 first.1 second.1
asked_once known (Some (Make seed side)) contents status other text more first second = fixed false Done status other text more _ first.0 second.0 first.1 second.1
asked_once known (Some (Work job)) contents status other text more first second = job_once known job contents status other text more first second

-- what is due
pub due_once : Known → (asked : Option Request) (told : List ℕ → Option (List ℕ)) (status other : Status) (text more : List ℕ)
    → All (λ name. IsSome (told name)) (files_of asked)
    → (contents : List (List ℕ)) × MayHoldAll told (files_of asked) contents × DueForAsked asked contents status text
    → (contents : List (List ℕ)) × MayHoldAll told (files_of asked) contents × DueForAsked asked contents other more
    → AreOne (is_brief asked) status text other more
due_once known asked told status other text more tells (contents, may, due) (others, may', due') =
    let same = held_once told (files_of asked) contents others tells may may' in
    asked_once known asked contents status other text more due (subst (λ cs. DueForAsked asked cs other more) (sym same) due')
