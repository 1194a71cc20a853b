-- The lines that a run writes beside documents.
use Rattle.std.specs.Prelude.{ℕ, ℤ, List, [], ◌∷◌, ◌++◌, codes}
use Rattle.std.specs.Fmt.{decimal, signed_decimal}
use Rattle.asg_doc.specs.Text.{spaced}

-- the line for words that are no request
abbrev pub usage_text : List ℕ
usage_text = codes "usage: asg solve OBJECTIVE INSTANCE | rank OBJECTIVE INSTANCE --count K | edit OBJECTIVE INSTANCE SCRIPT | check OBJECTIVE INSTANCE ANSWER | make SEED SIDE\n"

-- the line for an instance file that is refused, with the refusal's number and the numbers after it
abbrev pub refused_instance_text : List ℕ → List ℕ
refused_instance_text numbers = codes "refused instance" ++ (spaced numbers ++ 10 ∷ [])

-- the line for a script that is refused, with the refusal's number and the line
abbrev pub refused_script_text : List ℕ → List ℕ
refused_script_text numbers = codes "refused script" ++ (spaced numbers ++ 10 ∷ [])

-- the line for an answer file that isn't read, with the refused line, 0 where the documents aren't
-- as many as are due
abbrev pub refused_document_text : ℕ → List ℕ
refused_document_text line = codes "refused document " ++ decimal line ++ 10 ∷ []

-- the line for documents all of which certify, with their number
abbrev pub yes_text : ℕ → List ℕ
yes_text count = codes "yes " ++ decimal count ++ 10 ∷ []

-- the line for documents that don't all certify: the first that doesn't, counted from 1, the reason
-- and its place
abbrev pub no_text : ℕ → ℕ → ℤ → List ℕ
no_text document reason place =
    codes "no " ++ decimal document
    ++ 32 ∷ (decimal reason ++ 32 ∷ (signed_decimal place ++ 10 ∷ []))
