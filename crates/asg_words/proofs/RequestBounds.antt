-- Each request that words make has its numbers within their bounds, and options that go together.
use Rattle.std.proofs.Common.{◌≡◌, ◌&&◌, ◌||◌, ℕ, Bool, true, false, not, if◌then◌else◌, List, length, Option, Some, None, IfSome, IsSome, is_some, is_none, option_map, option_and_then, slice_get, codes, bytes_eq, drop, subst, ap, sym, ◌∙◌, refl, arith, nat_le, ◌==◌}
use Rattle.std.specs.Option.{option_map_or, option_or}
use Rattle.std.proofs.lemmas.Bool.Decides.{nat_tests}
use Rattle.asg_model.specs.declared.objectives.Objective.{Objective}
use Rattle.asg_model.specs.declared.objectives.Objective.TheVariants.{Sum, SumMax, SumPair, Capped, Bottleneck, BottleneckMax, TimeCost, Balanced, Lex}
use Rattle.asg_model.specs.declared.parts.Place.{Place}
use Rattle.asg_model.specs.declared.parts.Place.TheVariants.{All, Exactly}
use Rattle.asg_model.specs.Limits.{most_capacity, most_ranked, most_rows}
use Rattle.asg_text.specs.declared.formats.Format.{Format}
use Rattle.asg_words.specs.declared.named.Command.{Command}
use Rattle.asg_words.specs.declared.named.Command.TheVariants.{Solve, Rank, Edit, Check, Make}
use Rattle.asg_words.specs.declared.requests.Task.{Task}
use Rattle.asg_words.specs.declared.requests.Task.TheVariants as task
use Rattle.asg_words.specs.declared.requests.Job.{Job}
use Rattle.asg_words.specs.declared.requests.Request.{Request}
use Rattle.asg_words.specs.declared.requests.Request.TheVariants.{Work, Make as Made}
use Rattle.asg_words.specs.Found.{Found}
use Rattle.asg_words.specs.Limits.{most_seed}
use Rattle.asg_words.specs.Numbers.{number_of, number_within}
use Rattle.asg_words.specs.Named.{capped_named, command_named, objective_named}
use Rattle.asg_model.specs.Objectives.{is_algebraic, most_cap, uncapped_named}
use Rattle.asg_words.specs.FoundRequests.{asked_by, count_of, each_of, job_of, job_with, made_by, objective_of, place_of, request_found, takes_options, task_of, wants_algebraic, words_after}
use Rattle.asg_words.proofs.Conjunctions.{both}
use Rattle.asg_words.specs.Bounds.{IsJob, IsRequest, IsWithin, cap_of, choices_ranked, rows_placed, script_edited}

-- ---- what a value says of where it comes from

some_if : {X : Type 0} (test : Bool) (o : Option X) (x : X) → (if test then o else None) ≡ Some x → (test ≡ true) × (o ≡ Some x)
some_if true o x is = (refl, is)
some_if false o x is = cc

some_mapped : {X Y : Type 0} (f : X → Y) (o : Option X) (y : Y) → option_map f o ≡ Some y → (x : X) × (o ≡ Some x) × (f x ≡ y)
some_mapped f None y is = cc
some_mapped f (Some x) y is = (x, refl, cc)

some_then : {X Y : Type 0} (f : X → Option Y) (o : Option X) (y : Y) → option_and_then f o ≡ Some y → (x : X) × (o ≡ Some x) × (f x ≡ Some y)
some_then f None y is = cc
some_then f (Some x) y is = (x, refl, is)

-- ---- numbers

within : (least most : ℕ) (text : List ℕ) (n : ℕ) → number_within least most text ≡ Some n → IsWithin least most n
within least most text n is =
    let spelled = some_then _ (number_of text) n is in
    let fits = some_if (nat_le least spelled.0 && nat_le spelled.0 most) (Some spelled.0) n spelled.2 in
    let same : spelled.0 ≡ n = cc in
    let sides = both (nat_le least spelled.0) (nat_le spelled.0 most) fits.0 in
    grind (arith, nat_tests)

-- ---- objectives

either_named : (test : Bool) (first o : Objective) (rest : Option Objective) → cap_of first ≡ None → (rest ≡ Some o → IfSome (cap_of o) (IsWithin 1 most_cap))
    → (if test then Some first else rest) ≡ Some o → IfSome (cap_of o) (IsWithin 1 most_cap)
either_named true first o rest none after is =
    let same : first ≡ o = cc in
    let P : Objective → Type 0 = λ x. IfSome (cap_of x) (IsWithin 1 most_cap) in
    subst P same (rw none tt)
either_named false first o rest none after is = after is

cap_named : (name : List ℕ) (o : Objective) → capped_named name ≡ Some o → IfSome (cap_of o) (IsWithin 1 most_cap)
cap_named name o is =
    let spelled = (some_if _ _ o is).1 in
    let cap = some_mapped Capped (number_within 1 most_cap (drop 7 name)) o spelled in
    let P : Objective → Type 0 = λ x. IfSome (cap_of x) (IsWithin 1 most_cap) in
    subst P cap.2 (within 1 most_cap (drop 7 name) cap.0 cap.1)

objective_capped : (name : List ℕ) (o : Objective) → objective_named name ≡ Some o → IfSome (cap_of o) (IsWithin 1 most_cap)
objective_capped name o is = by_word (uncapped_named name) refl is
  where
    by_word : (found : Option Objective) → uncapped_named name ≡ found → option_or found (capped_named name) ≡ Some o → IfSome (cap_of o) (IsWithin 1 most_cap)
    by_word None none is = cap_named name o is
    by_word (Some x) found is =
        either_named (bytes_eq name (codes "sum")) Sum o _ refl (
        either_named (bytes_eq name (codes "sum-max")) SumMax o _ refl (
        either_named (bytes_eq name (codes "pair")) SumPair o _ refl (
        either_named (bytes_eq name (codes "bottleneck")) Bottleneck o _ refl (
        either_named (bytes_eq name (codes "bottleneck-max")) BottleneckMax o _ refl (
        either_named (bytes_eq name (codes "time-cost")) TimeCost o _ refl (
        either_named (bytes_eq name (codes "balanced")) Balanced o _ refl (
        either_named (bytes_eq name (codes "lex")) Lex o _ refl (λ none. cc)))))))) (found ∙ is)

-- the objective of a command, which the command takes
objective_facts : (command : Command) (found : Found) (o : Objective) → objective_of command found ≡ Some o
    → (IfSome (cap_of o) (IsWithin 1 most_cap)) × (wants_algebraic command found ≡ true → is_algebraic o ≡ true)
objective_facts command found o is =
    let named = some_then _ (option_and_then objective_named (slice_get found.words 0)) o is in
    let taken = some_if (not (wants_algebraic command found) || is_algebraic named.0) (Some named.0) o named.2 in
    let same : named.0 ≡ o = cc in
    let word = some_then objective_named (slice_get found.words 0) named.0 named.1 in
    let P : Objective → Type 0 = λ x. IfSome (cap_of x) (IsWithin 1 most_cap) in
    (subst P same (objective_capped word.0 named.0 word.2), λ wants. go (wants_algebraic command found) named.0 wants taken.0 same)
  where
    go : (wants : Bool) (named : Objective) → wants ≡ true → (not wants || is_algebraic named) ≡ true → named ≡ o → is_algebraic o ≡ true
    go true named wanted taken same = let P : Objective → Type 0 = λ x. is_algebraic x ≡ true in subst P same taken
    go false named wanted taken same = cc

-- ---- options

each_within : (found : Found) (n : ℕ) → each_of found ≡ Some n → IsWithin 1 most_capacity n
each_within found n = go found.each
  where
    go : (o : Option (List ℕ)) → option_map_or (number_within 1 most_capacity) o (Some 1) ≡ Some n → IsWithin 1 most_capacity n
    go None is = let same : 1 ≡ n = cc in (omega arith, omega arith)
    go (Some text) is = within 1 most_capacity text n is

abbrev IsPlacing : Place → Type 0
IsPlacing place = IfSome (rows_placed place) (IsWithin 1 most_rows)

place_facts : (found : Found) (place : Place) → place_of found ≡ Some place → IsPlacing place × (is_some found.place ≡ false → place ≡ All)
place_facts found place = go found.place
  where
    go : (o : Option (List ℕ)) → option_map_or (λ text. option_map Exactly (number_within 1 most_rows text)) o (Some All) ≡ Some place
        → IsPlacing place × (is_some o ≡ false → place ≡ All)
    go None is = let same : All ≡ place = cc in (subst IsPlacing same tt, λ _. sym same)
    go (Some text) is =
        let rows = some_mapped Exactly (number_within 1 most_rows text) place is in
        (subst IsPlacing rows.2 (within 1 most_rows text rows.0 rows.1), λ none. cc)

abbrev IsCount : Option ℕ → Type 0
IsCount count = IfSome count (IsWithin 1 most_ranked)

count_facts : (found : Found) (count : Option ℕ) → count_of found ≡ Some count → IsCount count × (is_some count ≡ is_some found.count)
count_facts found count = go found.count
  where
    go : (o : Option (List ℕ)) → option_map_or (λ text. option_map Some (number_within 1 most_ranked text)) o (Some None) ≡ Some count
        → IsCount count × (is_some count ≡ is_some o)
    go None is = let same : None ≡ count = cc in (subst IsCount same tt, ap is_some (sym same))
    go (Some text) is =
        let number = some_mapped Some (number_within 1 most_ranked text) count is in
        (subst IsCount number.2 (within 1 most_ranked text number.0 number.1), ap is_some (sym number.2))

-- ---- tasks

record IsTaskOf (command : Command) (found : Found) (t : Task) : Type 0 where
  ranked : IfSome (choices_ranked t) (IsWithin 1 most_ranked)
  ranks : IsSome (choices_ranked t) → (wants_algebraic command found ≡ true) × (is_some found.place ≡ false) × (script_edited t ≡ None)
  edits : IsSome (script_edited t) → wants_algebraic command found ≡ true

is_absent : {X : Type 0} (o : Option X) → is_none o ≡ true → is_some o ≡ false
is_absent None is = refl
is_absent (Some x) is = cc

no_script : (o : Option (List ℕ)) → is_some o ≡ false → o ≡ None
no_script None is = refl
no_script (Some x) is = cc

-- beside a count stands neither a script nor a number of rows
apart : (brief count script place : Bool) → (not brief && not (count && (script || place))) ≡ true → count ≡ true → (script ≡ false) × (place ≡ false)
apart true count script place fits is = cc
apart false false script place fits is = cc
apart false true true place fits is = cc
apart false true false true fits is = cc
apart false true false false fits is = (refl, refl)

either_left : (a b : Bool) → a ≡ true → (a || b) ≡ true
either_left true b is = refl
either_left false b is = cc

either_right : (a b : Bool) → b ≡ true → (a || b) ≡ true
either_right true b is = refl
either_right false b is = is

task_facts : (command : Command) (found : Found) (t : Task) → takes_options command found ≡ true → task_of command found ≡ Some t → IsTaskOf command found t
task_facts Solve found t fits is =
    let same : task.Solve ≡ t = cc in
    subst (IsTaskOf Solve found) same (record { ranked = tt; ranks = λ none. cc; edits = λ none. cc })
task_facts Rank found t fits is =
    let given = some_then _ (count_of found) t is in
    let number = some_mapped task.Rank given.0 t given.2 in
    let count = (count_facts found given.0 given.1).0 in
    let absent = (both (is_none found.place) (is_none found.script) (both (is_some found.count) _ fits).1).0 in
    subst (IsTaskOf Rank found) number.2 (record {
      ranked = subst IsCount number.1 count;
      ranks = λ _. (refl, is_absent found.place absent, refl);
      edits = λ none. cc;
    })
task_facts Edit found t fits is =
    let script = some_mapped task.Edit (slice_get found.words 2) t is in
    subst (IsTaskOf Edit found) script.2 (record { ranked = tt; ranks = λ none. cc; edits = λ _. refl })
task_facts Check found t fits is =
    let answer = some_then _ (slice_get found.words 2) t is in
    let count = some_mapped _ (count_of found) t answer.2 in
    let facts = count_facts found count.0 count.1 in
    let alone = λ (ranks : is_some count.0 ≡ true). apart found.brief (is_some found.count) (is_some found.script) (is_some found.place) fits (sym facts.1 ∙ ranks) in
    subst (IsTaskOf Check found) count.2 (record {
      ranked = facts.0;
      ranks = λ ranks. (either_left (is_some found.count) (is_some found.script) (sym facts.1 ∙ ranks), (alone ranks).1, no_script found.script (alone ranks).0);
      edits = λ edits. either_right (is_some found.count) (is_some found.script) edits;
    })
task_facts Make found t fits is = cc

-- ---- jobs and requests

job_parts : (brief : Bool) (objective : Option Objective) (instance : Option (List ℕ)) (format : Option Format) (place : Option Place) (each : Option ℕ) (t : Option Task) (job : Job)
    → job_with brief objective instance format place each t ≡ Some job
    → (objective ≡ Some job.objective) × (place ≡ Some job.place) × (each ≡ Some job.each) × (t ≡ Some job.task)
job_parts brief (Some objective) (Some instance) (Some format) (Some place) (Some each) (Some t) job is = (
  ap (option_map (λ (j : Job). j.objective)) is,
  ap (option_map (λ (j : Job). j.place)) is,
  ap (option_map (λ (j : Job). j.each)) is,
  ap (option_map (λ (j : Job). j.task)) is,
)
job_parts brief _ _ _ _ _ _ job is = cc

is_job : (command : Command) (found : Found) (job : Job) → takes_options command found ≡ true → job_of command found ≡ Some job → IsJob job
is_job command found job fits is =
    let parts = job_parts found.brief (objective_of command found) (slice_get found.words 1) _ (place_of found) (each_of found) (task_of command found) job is in
    let objective = objective_facts command found job.objective parts.0 in
    let place = place_facts found job.place parts.1 in
    let t = task_facts command found job.task fits parts.3 in
    record {
      each = each_within found job.each parts.2;
      placed = place.0;
      capped = objective.0;
      ranked = t.ranked;
      ranks_algebraic = λ ranks. objective.1 (t.ranks ranks).0;
      edits_algebraic = λ edits. objective.1 (t.edits edits);
      ranks_all = λ ranks. place.1 (t.ranks ranks).1;
      ranks_unedited = λ ranks. (t.ranks ranks).2;
    }

is_work : (command : Command) (found : Found) (request : Request) → takes_options command found ≡ true → option_map Work (job_of command found) ≡ Some request → IsRequest request
is_work command found request fits is =
    let job = some_mapped Work (job_of command found) request is in
    subst IsRequest job.2 (is_job command found job.0 fits job.1)

is_made : (found : Found) (request : Request) → made_by found ≡ Some request → IsRequest request
is_made found request is =
    let seed = some_then _ (option_and_then (number_within 0 most_seed) (slice_get found.words 0)) request is in
    let seed_word = some_then (number_within 0 most_seed) (slice_get found.words 0) seed.0 seed.1 in
    let side = some_mapped (Made seed.0) (option_and_then (number_within 1 most_rows) (slice_get found.words 1)) request seed.2 in
    let side_word = some_then (number_within 1 most_rows) (slice_get found.words 1) side.0 side.1 in
    subst IsRequest side.2 ((within 0 most_seed seed_word.0 seed.0 seed_word.2).1, within 1 most_rows side_word.0 side.0 side_word.2)

is_asked : (command : Command) (found : Found) (request : Request) → takes_options command found ≡ true → asked_by command found ≡ Some request → IsRequest request
is_asked Solve found request fits is = is_work Solve found request fits is
is_asked Rank found request fits is = is_work Rank found request fits is
is_asked Edit found request fits is = is_work Edit found request fits is
is_asked Check found request fits is = is_work Check found request fits is
is_asked Make found request fits is = is_made found request is

pub is_request : (found : Found) (request : Request) → request_found found ≡ Some request → IsRequest request
is_request found request is =
    let command = some_then _ (option_and_then command_named found.command) request is in
    let fits = some_if _ (asked_by command.0 found) request command.2 in
    is_asked command.0 found request (both (length found.words == words_after command.0) (takes_options command.0 found) fits.0).1 fits.1
