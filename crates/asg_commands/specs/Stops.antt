-- What stops a stage of a request.
use Rattle.std.specs.Prelude.{◌≡◌, ℕ, List, Result, Ok, Err}
use Rattle.asg_text.specs.TriedScripts.{ScriptFile, RefusesLines}
use Rattle.asg_answers.specs.declared.replies.Reply.{Reply}
use Rattle.asg_commands.specs.declared.stops.Stop.{Stop}
use Rattle.asg_commands.specs.declared.stops.Stop.TheVariants.{Refused, NoMemory}
use Rattle.asg_answers.specs.declared.status.Status.TheVariants.{Instance, Script}
use Rattle.asg_promises.specs.InstanceFile.{InstanceFile, Refuses}
use Rattle.asg_answers.specs.Replies.{IsReply}
use Rattle.asg_answers.specs.Texts.{refused_instance_text, refused_script_text}

-- the refusal that was made, or want of memory
abbrev pub stop_of : {E : Type 0} → Result Reply E → Stop
stop_of (Ok reply) = Refused reply
stop_of (Err error) = NoMemory

-- a stop for an instance's file that is refused, with the numbers of its refusal
abbrev pub StopsInstance : InstanceFile → Stop → Type 0
StopsInstance file (Refused reply) =
    (numbers : List ℕ) × (file ≡ Refuses numbers)
    × IsReply reply Instance (refused_instance_text numbers)
StopsInstance file NoMemory = Unit {0}

-- the same for a script
abbrev pub StopsScript : ScriptFile → Stop → Type 0
StopsScript file (Refused reply) =
    (numbers : List ℕ) × (file ≡ RefusesLines numbers)
    × IsReply reply Script (refused_script_text numbers)
StopsScript file NoMemory = Unit {0}
