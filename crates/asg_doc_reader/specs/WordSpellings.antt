-- The words of documents as spellings.
use Rattle.std.specs.Prelude.{ℕ, List, codes}
use Rattle.std.specs.Fmt.{decimal}
use Rattle.asg_model.specs.declared.objectives.Objective.{Objective}
use Rattle.asg_model.specs.declared.objectives.Objective.TheVariants.{Capped}
use Rattle.asg_model.specs.Objectives.{objective_word}
use Rattle.asg_grammar.specs.Spellings.{Spelling}
use Rattle.asg_doc.specs.declared.documents.Command.{Command}
use Rattle.asg_doc.specs.Words.{HasWord, IsAsked, IsCap, command_word}
use Rattle.asg_doc_reader.specs.declared.heads.Status.{Status}
use Rattle.asg_doc_reader.specs.declared.heads.Status.TheVariants.{Best, Nothing, Ranked}

-- the word of a status
abbrev pub status_word : Status → List ℕ
status_word Best = codes "best"
status_word Nothing = codes "none"
status_word Ranked = codes "ranked"

abbrev pub command_spelling : Spelling Command
command_spelling = record { bytes = command_word; Has = λ _. Unit {0} }

abbrev pub objective_spelling : Spelling Objective
objective_spelling = record { bytes = objective_word; Has = HasWord }

-- the objectives without a cap
abbrev pub IsNamed : Objective → Type 0
IsNamed (Capped cap) = ⊥
IsNamed objective = HasWord objective

abbrev pub named_spelling : Spelling Objective
named_spelling = record { bytes = objective_word; Has = IsNamed }

-- the cap of a word
abbrev pub cap_spelling : Spelling ℕ
cap_spelling = record { bytes = decimal; Has = IsCap }

-- how many answers a word asks for
abbrev pub asked_spelling : Spelling ℕ
asked_spelling = record { bytes = decimal; Has = IsAsked }

abbrev pub status_spelling : Spelling Status
status_spelling = record { bytes = status_word; Has = λ _. Unit {0} }
