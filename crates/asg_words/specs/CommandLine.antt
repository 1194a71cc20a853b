-- The one command that the words are taken by, and what it finds in them.
use Rattle.std.specs.Prelude.{Bool, true, false, List, [], ◌∷◌, Some, fold, codes, bytes_eq}
use Rattle.std.specs.Prelude.{unwrap_or}
use Rattle.std.specs.Option.{option_map_or}
use Rattle.clap.specs.Walk.{Row, Rule, Text, all_of, first_of}
use Rattle.clap.specs.Simple.{App, new_app, new_rule, on_top, with_rule}
use Rattle.clap.specs.declared.builder.action.ArgAction.{ArgAction}
use Rattle.clap.specs.declared.builder.action.ArgAction.TheVariants.{Set, Append, SetTrue}
use Rattle.asg_words.specs.Found.{Found}

-- a word in its place, and every further one
abbrev pub positional : Text → ArgAction → Rule
positional name action = record (new_rule name) { action = Some action }

-- an option or a flag, by its name
abbrev pub option : Text → ArgAction → Rule
option name action = record (new_rule name) { long = Some name; action = Some action }

-- the command without options: a name, and the words after it; the program's own name isn't among
-- the words
unfoldable pub words_alone : App
words_alone = fold with_rule
    (on_top (λ shape. record shape { no_binary_name = true }) (new_app (codes "asg")))
    (positional (codes "command") Set ∷ positional (codes "words") Append ∷ [])

-- the options that say how an instance is read
unfoldable pub reading_options : List Rule
reading_options =
    option (codes "format") Set ∷ option (codes "place") Set ∷ option (codes "each") Set ∷ []

-- the options that say what is to be done, and the flag
unfoldable pub doing_options : List Rule
doing_options =
    option (codes "count") Set ∷ option (codes "script") Set ∷ option (codes "brief") SetTrue ∷ []

-- the command: a name, the words after it, five options that take a value each, and a flag; the
-- program's own name isn't among the words
unfoldable pub command_line : App
command_line = fold with_rule
    (on_top (λ shape. record shape { no_binary_name = true }) (new_app (codes "asg"))) (
    positional (codes "command") Set ∷ positional (codes "words") Append
    ∷ option (codes "format") Set ∷ option (codes "place") Set ∷ option (codes "each") Set
    ∷ option (codes "count") Set ∷ option (codes "script") Set
    ∷ option (codes "brief") SetTrue ∷ [])

-- the flag stands: its value is then `true`
abbrev pub is_flag_set : Text → List Row → Bool
is_flag_set name rows =
    option_map_or (λ value. bytes_eq value (codes "true")) (first_of name rows) false

-- what stands in the matches of the command
abbrev pub found_in : List Row → Found
found_in rows = record {
  command = first_of (codes "command") rows;
  words = unwrap_or (all_of (codes "words") rows) [];
  format = first_of (codes "format") rows;
  place = first_of (codes "place") rows;
  each = first_of (codes "each") rows;
  count = first_of (codes "count") rows;
  script = first_of (codes "script") rows;
  brief = is_flag_set (codes "brief") rows;
}
