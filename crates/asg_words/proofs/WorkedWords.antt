-- Command lines of which the request is known.
use Rattle.asg_words.proofs.Common.{◌≡◌, true, false, [], ◌∷◌, Some, None, codes, refl, is_simple_and_free, is_simple}
use Rattle.clap.proofs.OnLiterals.{clap_on_literals}
use Rattle.asg_model.specs.declared.objectives.Objective.TheVariants.{Sum, Capped}
use Rattle.asg_model.specs.declared.parts.Place.TheVariants.{All, Exactly}
use Rattle.asg_text.specs.declared.formats.Format.TheVariants.{Asn, Square}
use Rattle.asg_words.specs.declared.requests.Task.TheVariants.{Solve, Check}
use Rattle.asg_words.specs.declared.requests.Request.TheVariants.{Work, Make}
use Rattle.asg_words.specs.CommandLine.{command_line}
use Rattle.asg_words.specs.Requests.{request_of}

-- the command is one of which clap's definition gives the matches and the faults
is_exact : (is_simple command_line ≡ true) × (is_simple_and_free command_line ≡ true)
unfolding command_line clap_on_literals
is_exact = (refl, refl)

-- an option may stand between the words
solves_sum : request_of (codes "solve" ∷ codes "sum" ∷ codes "--brief" ∷ codes "M" ∷ [])
    ≡ Some (Work (record {
      task = Solve;
      objective = Sum;
      instance = codes "M";
      format = Square;
      place = All;
      each = 1;
      brief = true;
    }))
unfolding request_of command_line clap_on_literals
solves_sum = refl

-- numbers may begin with zeros, `--` ends the options, and a file's name may be empty
checks_with_script : request_of (codes "--each=07" ∷ codes "check" ∷ codes "capped=0010" ∷ codes "--script=" ∷ codes "--place" ∷ codes "2" ∷ codes "--format" ∷ codes "asn" ∷ codes "--" ∷ codes "-M" ∷ codes "--" ∷ [])
    ≡ Some (Work (record {
      task = Check (codes "--") (Some []) None;
      objective = Capped 10;
      instance = codes "-M";
      format = Asn;
      place = Exactly 2;
      each = 7;
      brief = false;
    }))
unfolding request_of command_line clap_on_literals
checks_with_script = refl

makes : request_of (codes "make" ∷ codes "0" ∷ codes "0000000001000" ∷ []) ≡ Some (Make 0 1000)
unfolding request_of command_line clap_on_literals
makes = refl

-- no count, an objective that can't be edited, too few words, an unknown option, an option twice,
-- and a number of fourteen digits
rank_without_count : request_of (codes "rank" ∷ codes "sum" ∷ codes "M" ∷ []) ≡ None
unfolding request_of command_line clap_on_literals
rank_without_count = refl

edits_lex : request_of (codes "edit" ∷ codes "lex" ∷ codes "M" ∷ codes "S" ∷ []) ≡ None
unfolding request_of command_line clap_on_literals
edits_lex = refl

few_words : request_of (codes "solve" ∷ codes "sum" ∷ []) ≡ None
unfolding request_of command_line clap_on_literals
few_words = refl

asks_help : request_of (codes "--help" ∷ []) ≡ None
unfolding request_of command_line clap_on_literals
asks_help = refl

brief_twice : request_of (codes "solve" ∷ codes "sum" ∷ codes "M" ∷ codes "--brief" ∷ codes "--brief" ∷ []) ≡ None
unfolding request_of command_line clap_on_literals
brief_twice = refl

long_number : request_of (codes "make" ∷ codes "00000000000001" ∷ codes "1" ∷ []) ≡ None
unfolding request_of command_line clap_on_literals
long_number = refl
