-- The command's own definition says what it finds in the words, and where it refuses them.
use Rattle.asg_words.proofs.Common.{◌≡◌, ◌⊎◌, List, map, string_bytes, sym, ap, ◌∙◌, subst, inl, inr, IfOk-weaker, is_request, request_found, Usage, fault_of, is_simple_and_free, IsAmong, App, is_simple, matches_of, Text, rows_of}
use Rattle.clap.specs.Matches.{found_of}
use Rattle.clap.specs.Values.{kind_of}
use Rattle.clap.specs.declared.error.kind.ErrorKind.TheVariants.{OutOfMemory}
use Rattle.asg_words.specs.Requests.{request_of}
use Rattle.asg_words.proofs.Taken.{is_simple_line, is_free_line, request_of-taken, request_of-refused, answer_is_due, usage_is_due}
use Rattle.asg_words.proofs.parsing.parse.Goals as goal

found_is : (c : goal.Joined-matches) → request_of (map string_bytes c.args.words.now) ≡ request_found c.found_in.result
found_is c =
    let words : List Text = map string_bytes c.args.words.now in
    let line = c.in_ok-command.ensures in
    let rows = (c.in-Ok.ensures.matches (ap is_simple line ∙ is_simple_line)).0 ∙ ap (λ (app : App). matches_of app words) line in
    let none = ap (λ (app : App). fault_of app words) (sym line) ∙ c.in-Ok.ensures.kinds (ap is_simple_and_free line ∙ is_free_line) in
    request_of-taken words (rows_of (found_of c.in-Ok.matches)) none rows ∙ ap request_found (sym c.found_in.ensures)

pub returns-in-Ok-clause-request : goal.returns-in-Ok-clause-request
returns-in-Ok-clause-request c = rw (found_is c) (answer_is_due _ c.request.result c.request.ensures)

pub returns-in-Ok-clause-usage : goal.returns-in-Ok-clause-usage
returns-in-Ok-clause-usage c = rw (found_is c) (usage_is_due _ c.request.result c.request.ensures)

pub returns-in-Err-clause-usage : goal.returns-in-Err-clause-usage
returns-in-Err-clause-usage c usage =
    let words : List Text = map string_bytes c.args.words.now in
    let line = c.in_ok-command.ensures in
    let is_usage : c.refusal.result ≡ Usage = cc in
    let P : App → Type 0 = λ app. (kind_of c.in-Err.error ≡ OutOfMemory) ⊎ IsAmong (kind_of c.in-Err.error) (fault_of app words) in
    elim (subst P line (c.in-Err.ensures.kinds (ap is_simple_and_free line ∙ is_free_line))) [
      | inl memory ↦ absurd (c.refusal.ensures is_usage memory)
      | inr among ↦ request_of-refused words (kind_of c.in-Err.error) among
    ]

pub returns-in-Ok-clause-within : goal.returns-in-Ok-clause-within
returns-in-Ok-clause-within c =
    IfOk-weaker c.request.result _ _ (λ request is. is_request c.found_in.result request is) (answer_is_due _ c.request.result c.request.ensures)
