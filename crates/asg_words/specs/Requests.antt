-- The request that the words of a command line make.
use Rattle.std.specs.Prelude.{if◌then◌else◌, List, Option, None}
use Rattle.clap.specs.Walk.{Text, is_empty}
use Rattle.clap.specs.Simple.{matches_of}
use Rattle.clap.specs.Faults.{fault_of}
use Rattle.asg_words.specs.declared.requests.Request.{Request}
use Rattle.asg_words.specs.FoundRequests.{request_found}
use Rattle.asg_words.specs.CommandLine.{command_line, found_in}

-- the request that the words after the program's name make, where the command takes them
unfoldable pub request_of : List Text → Option Request
request_of words =
    if is_empty (fault_of command_line words)
    then request_found (found_in (matches_of command_line words)) else None
