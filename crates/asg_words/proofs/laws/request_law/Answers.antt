-- What the command takes is what it finds in the words.
use Rattle.asg_words.proofs.Common.{◌≡◌, Bool, true, false, List, if◌then◌else◌, Some, None, is_request, request_found, command_line, found_in, fault_of, matches_of, Text, is_empty}
use Rattle.asg_words.specs.declared.requests.Request.{Request}
use Rattle.asg_words.specs.Bounds.{IsRequest}
use Rattle.asg_words.specs.Found.{Found}
use Rattle.asg_words.specs.Requests.{request_of}
use Rattle.asg_words.proofs.laws.request_law.Goals as goal

taken : (takes : Bool) (found : Found) (request : Request) → (if takes then request_found found else None) ≡ Some request → IsRequest request
taken true found request is = is_request found request is
taken false found request is = cc

is_within : (words : List Text) (request : Request) → request_of words ≡ Some request → IsRequest request
unfolding request_of
is_within words request is = taken (is_empty (fault_of command_line words)) (found_in (matches_of command_line words)) request is

pub returns : goal.returns
returns c = is_within
