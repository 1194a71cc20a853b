-- What single words name: commands, objectives, formats.
use Rattle.std.specs.Prelude.{ℕ, if◌then◌else◌, List, take, drop, Option, Some}
use Rattle.std.specs.Prelude.{None, option_map, codes, bytes_eq}
use Rattle.std.specs.Option.{option_or}
use Rattle.asg_model.specs.declared.objectives.Objective.{Objective}
use Rattle.asg_model.specs.declared.objectives.Objective.TheVariants.{Capped}
use Rattle.asg_model.specs.Objectives.{most_cap, uncapped_named}
use Rattle.asg_text.specs.declared.formats.Format.{Format}
use Rattle.asg_text.specs.declared.formats.Format.TheVariants.{Asn, Square, Rect}
use Rattle.asg_words.specs.declared.named.Command.{Command}
use Rattle.asg_words.specs.declared.named.Command.TheVariants.{Solve, Rank, Edit, Check, Make}
use Rattle.asg_words.specs.Numbers.{number_within}

-- the command of a name
abbrev pub command_named : List ℕ → Option Command
command_named name =
    if bytes_eq name (codes "solve") then Some Solve
    else if bytes_eq name (codes "rank") then Some Rank
    else if bytes_eq name (codes "edit") then Some Edit
    else if bytes_eq name (codes "check") then Some Check
    else if bytes_eq name (codes "make") then Some Make
    else None

-- `capped=` and the cap, from 1 to 10^12, name a capped sum
abbrev pub capped_named : List ℕ → Option Objective
capped_named name =
    if bytes_eq (take 7 name) (codes "capped=")
    then option_map Capped (number_within 1 most_cap (drop 7 name)) else None

-- the objective of a name
abbrev pub objective_named : List ℕ → Option Objective
objective_named name =
    option_or (uncapped_named name) (capped_named name)

-- the format of a name
abbrev pub format_named : List ℕ → Option Format
format_named name =
    if bytes_eq name (codes "asn") then Some Asn
    else if bytes_eq name (codes "square") then Some Square
    else if bytes_eq name (codes "rect") then Some Rect
    else None
