-- Refused lines, worked by hand.
use Rattle.asg_doc_reader.proofs.Common.{◌≡◌, ℕ, zero, suc, ◌+◌, ◌<◌, List, [], ◌∷◌, ◌++◌, take, codes, refl, arith, All-nil, HasText, BeginsText, IsRefusedLine, texts_of, Document, line_ends, heads_same}
use Rattle.asg_doc.specs.Text.{text_of}

-- a text of documents begins with the title
no_other_letter : (documents : List Document) (rest : List ℕ) → 120 ∷ rest ≡ texts_of documents → ⊥
unfolding text_of
no_other_letter [] rest same = absurd cc
no_other_letter (document ∷ documents) rest same =
    let letters : 120 ≡ 97 = heads_same 120 97 rest _ same in absurd (omega (arith, letters))

-- nothing begins the text of no document
pub nothing_begins : BeginsText []
nothing_begins = record { documents = []; have_text = All-nil HasText; rest = []; whole = refl }

-- a file that begins otherwise is refused in line 1
pub other_file : IsRefusedLine (codes "x\n") 1
other_file = record { count = 0; begins = nothing_begins; reached = refl; most = few } where
  few : (more : ℕ) → BeginsText (take more (codes "x\n")) → line_ends (take more (codes "x\n")) < 1
  few zero begun = omega arith
  few (suc more) begun = absurd (no_other_letter begun.documents (take more (10 ∷ []) ++ begun.rest) begun.whole)

-- and in no other line
pub other_file-once : IsRefusedLine (codes "x\n") 2 → ⊥
other_file-once refused = at_count refused.count refused.begins refused.reached where
  at_count : (count : ℕ) → BeginsText (take count (codes "x\n")) → 2 ≡ 1 + line_ends (take count (codes "x\n")) → ⊥
  at_count zero begun reached = absurd (omega (arith, reached))
  at_count (suc count) begun reached = no_other_letter begun.documents (take count (10 ∷ []) ++ begun.rest) begun.whole
