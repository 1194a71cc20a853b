-- The request that is made of what is found in the words of a command line.
use Rattle.std.specs.Prelude.{◌≡◌, ⊤, Result, Ok, Err, ℕ, Bool, true, false, ◌==◌, ◌&&◌, ◌||◌, not}
use Rattle.std.specs.Prelude.{if◌then◌else◌, List, [], ◌∷◌, ◌++◌, length, slice_get, Option, Some}
use Rattle.std.specs.Prelude.{None, is_some, is_none, option_map, option_and_then, option_to_list}
use Rattle.std.specs.Option.{option_map_or}
use Rattle.asg_model.specs.declared.objectives.Objective.{Objective}
use Rattle.asg_model.specs.declared.parts.Place.{Place}
use Rattle.asg_model.specs.declared.parts.Place.TheVariants.{All, Exactly}
use Rattle.asg_model.specs.Limits.{most_capacity, most_ranked, most_rows}
use Rattle.asg_text.specs.declared.formats.Format.{Format}
use Rattle.asg_text.specs.declared.formats.Format.TheVariants.{Square}
use Rattle.asg_words.specs.declared.named.Command.{Command}
use Rattle.asg_words.specs.declared.named.Command.TheVariants.{Solve, Rank, Edit, Check, Make}
use Rattle.asg_words.specs.declared.requests.Task.{Task}
use Rattle.asg_words.specs.declared.requests.Task.TheVariants as task
use Rattle.asg_words.specs.declared.requests.Job.{Job}
use Rattle.asg_words.specs.declared.requests.Request.{Request}
use Rattle.asg_words.specs.declared.requests.Request.TheVariants as request
use Rattle.asg_words.specs.declared.requests.WordsRefusal.{WordsRefusal}
use Rattle.asg_words.specs.declared.requests.WordsRefusal.TheVariants.{Usage, NoMemory}
use Rattle.asg_words.specs.Found.{Found}
use Rattle.asg_words.specs.Limits.{most_seed}
use Rattle.asg_words.specs.Numbers.{number_within}
use Rattle.asg_words.specs.Named.{command_named, objective_named, format_named}
use Rattle.asg_model.specs.Objectives.{is_algebraic}

-- how many words follow the command's name
abbrev pub words_after : Command → ℕ
words_after Solve = 2
words_after Rank = 2
words_after Edit = 3
words_after Check = 3
words_after Make = 2

-- the options that stand go with the command, and those that it can't be without stand
abbrev pub takes_options : Command → Found → Bool
takes_options Solve found = is_none found.count && is_none found.script
takes_options Rank found = is_some found.count && (is_none found.place && is_none found.script)
takes_options Edit found = is_none found.count && is_none found.script
takes_options Check found =
    not found.brief && not (is_some found.count && (is_some found.script || is_some found.place))
takes_options Make found =
    not found.brief && (is_none found.format && (is_none found.place && (is_none found.each
    && (is_none found.count && is_none found.script))))

-- the command takes algebraic objectives alone: it ranks or edits, or checks what these write
abbrev pub wants_algebraic : Command → Found → Bool
wants_algebraic Rank found = true
wants_algebraic Edit found = true
wants_algebraic Check found = is_some found.count || is_some found.script
wants_algebraic _ found = false

-- the objective: the first word names one that the command takes
abbrev pub objective_of : Command → Found → Option Objective
objective_of command found = option_and_then (λ objective.
    if not (wants_algebraic command found) || is_algebraic objective then Some objective else None)
    (option_and_then objective_named (slice_get found.words 0))

-- the format: `square` where none is named
abbrev pub format_of : Found → Option Format
format_of found = option_map_or format_named found.format (Some Square)

-- the place rule: all rows where no number of them is given
abbrev pub place_of : Found → Option Place
place_of found = option_map_or (λ text. option_map Exactly (number_within 1 most_rows text))
    found.place (Some All)

-- the capacity of each column: 1 where none is given
abbrev pub each_of : Found → Option ℕ
each_of found = option_map_or (number_within 1 most_capacity) found.each (Some 1)

-- the count, where one is given
abbrev pub count_of : Found → Option (Option ℕ)
count_of found = option_map_or (λ text. option_map Some (number_within 1 most_ranked text))
    found.count (Some None)

-- what is to be done with the instance
abbrev pub task_of : Command → Found → Option Task
task_of Solve found = Some task.Solve
task_of Rank found = option_and_then (option_map task.Rank) (count_of found)
task_of Edit found = option_map task.Edit (slice_get found.words 2)
task_of Check found = option_and_then (λ answer. option_map (λ count.
    task.Check answer found.script count) (count_of found)) (slice_get found.words 2)
task_of Make found = None

-- the job of these parts, where each of them is there
abbrev pub job_with : Bool → Option Objective → Option (List ℕ) → Option Format → Option Place
    → Option ℕ → Option Task → Option Job
job_with brief (Some objective) (Some instance) (Some format) (Some place) (Some each) (Some task) =
    Some (record {
      task = task;
      objective = objective;
      instance = instance;
      format = format;
      place = place;
      each = each;
      brief = brief;
    })
job_with _ _ _ _ _ _ _ = None

-- the job of a command: the first word names the objective, and the second one the instance's file
abbrev pub job_of : Command → Found → Option Job
job_of command found = job_with found.brief (objective_of command found) (slice_get found.words 1)
    (format_of found) (place_of found) (each_of found) (task_of command found)

-- the instance to be made: the words are its seed and its side
abbrev pub made_by : Found → Option Request
made_by found = option_and_then (λ seed. option_map (request.Make seed)
    (option_and_then (number_within 1 most_rows) (slice_get found.words 1)))
    (option_and_then (number_within 0 most_seed) (slice_get found.words 0))

-- what a command asks for
abbrev pub asked_by : Command → Found → Option Request
asked_by Make found = made_by found
asked_by command found = option_map request.Work (job_of command found)

-- the request of a command line: its command's, where as many words and such options as the command
-- takes are found
abbrev pub request_found : Found → Option Request
request_found found = option_and_then (λ command.
    if (length found.words == words_after command) && takes_options command found
    then asked_by command found else None) (option_and_then command_named found.command)

-- the files that a task names beside the instance, in the order in which they are fetched: a script
-- before an answer
abbrev pub files_of_task : Task → List (List ℕ)
files_of_task task.Solve = []
files_of_task (task.Rank count) = []
files_of_task (task.Edit script) = script ∷ []
files_of_task (task.Check answer script count) = option_to_list script ++ answer ∷ []

-- the files that a request names, in the order in which they are fetched
abbrev pub files_of : Request → List (List ℕ)
files_of (request.Work job) = job.instance ∷ files_of_task job.task
files_of (request.Make seed side) = []

-- the answer is the one that is due, `Usage` where none is; or memory was wanting
abbrev pub Answers : {T : Type 0} → Option T → Result T WordsRefusal → Type 0
Answers due (Ok answer) = due ≡ Some answer
Answers due (Err Usage) = due ≡ None
Answers due (Err NoMemory) = ⊤
