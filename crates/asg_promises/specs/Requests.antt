-- What the words ask for, and what that names.
use Rattle.std.specs.Prelude.{◌≡◌, ℕ, Bool, true, false, List, [], Option, Some, None}
use Rattle.asg_words.specs.declared.requests.Job.{Job}
use Rattle.asg_words.specs.declared.requests.Request.{Request}
use Rattle.asg_words.specs.declared.requests.Request.TheVariants.{Work}
use Rattle.asg_words.specs.declared.requests.Task.{Task}
use Rattle.asg_words.specs.declared.requests.Task.TheVariants.{Edit}
use Rattle.asg_words.specs.FoundRequests.{files_of as files_of_request}
use Rattle.asg_words.specs.Requests.{request_of}

-- what the words after the program's name ask for; none where they are no request
abbrev pub asked_of : List (List ℕ) → Option Request
asked_of words = request_of words

-- the words ask for the job
abbrev pub AsksFor : List (List ℕ) → Job → Type 0
AsksFor words job = asked_of words ≡ Some (Work job)

-- the files that a request names, in the order in which they are fetched: the instance's is the
-- first
abbrev pub files_of : Option Request → List (List ℕ)
files_of None = []
files_of (Some request) = files_of_request request

-- the task edits
abbrev pub is_edit : Task → Bool
is_edit (Edit script) = true
is_edit _ = false

-- a command that writes its documents as it makes them: the one that edits
abbrev pub is_streamed : Option Request → Bool
is_streamed (Some (Work job)) = is_edit job.task
is_streamed _ = false
