-- The parts of documents, and documents of a file.
use Rattle.asg_doc_reader.proofs.Common.{◌≡◌, ℕ, ◌+◌, ◌-◌, ◌<◌, ◌≤◌, List, [], ◌∷◌, ◌++◌, length, get_or, All, flat_map, sym, refl, ap, ◌∙◌, append_assoc, append-nil, arith, All-get_or, flat_map-append, get_or-append_right, get_or_push, document_part, AllHaveText, DocumentsStop, DocumentsHalt, claim_lines, lines_of, ended, Document, whole_lines, line_ends, Halts, Fault, Refused, NoMemory, IsSplit-whole_lines, length-whole_lines, length-append}
use Rattle.asg_doc_reader.proofs.RefusedLines.{DocumentsStop-document}

-- ---- documents, one after the other

pub documents_more : (read : List Document) (document : Document) (old left rest : List (List ℕ)) → old ≡ flat_map lines_of read ++ left → left ≡ lines_of document ++ rest
    → old ≡ flat_map lines_of (read ++ document ∷ []) ++ rest
documents_more read document old left rest so_far next =
    so_far ∙ ap (λ ls. flat_map lines_of read ++ ls) (next ∙ ap (λ ls. ls ++ rest) (sym (append-nil (lines_of document))))
    ∙ sym (append_assoc (flat_map lines_of read) (lines_of document ++ []) rest)
    ∙ ap (λ ls. ls ++ rest) (sym (flat_map-append lines_of read (document ∷ [])))

pub documents_fail : (read : List Document) (old left rest : List (List ℕ)) → AllHaveText read → old ≡ flat_map lines_of read ++ left → (left ≡ [] → ⊥)
    → (fault : Fault) → Halts document_part left rest fault → DocumentsHalt old rest fault
documents_fail read old [] rest have so_far some Refused stop = absurd (some refl)
documents_fail read old (line ∷ left) rest have so_far some Refused stop = DocumentsStop-document read old (line ∷ left) rest have so_far (omega arith) (stop.refused refl)
documents_fail read old left rest have so_far some NoMemory stop = tt

pub shorter : (document : Document) (left rest : List (List ℕ)) → left ≡ lines_of document ++ rest → length rest < length left
shorter document left rest read = omega (arith, ap length read, length-append (claim_lines document.objective document.claim) rest)

-- ---- where a file ends

ended_last : (line : List ℕ) (lines : List (List ℕ)) → (front : List ℕ) × (ended (line ∷ lines) ≡ front ++ 10 ∷ [])
ended_last line [] = (line, append-nil (line ++ 10 ∷ []))
ended_last line (next ∷ lines) =
    let rest = ended_last next lines in
    ((line ++ 10 ∷ []) ++ rest.0, ap (λ bs. (line ++ 10 ∷ []) ++ bs) rest.1 ∙ sym (append_assoc (line ++ 10 ∷ []) rest.0 (10 ∷ [])))

last_of_lines : (file : List ℕ) (lines : List (List ℕ)) → 0 < length file → file ≡ ended lines → get_or file (length file - 1) 0 ≡ 10
last_of_lines file [] some same = absurd (omega (arith, ap length same))
last_of_lines file (line ∷ lines) some same =
    let cut = ended_last line lines in
    let whole : file ≡ cut.0 ++ 10 ∷ [] = same ∙ cut.1 in
    ap (λ bs. get_or bs (length file - 1) 0) whole
    ∙ get_or_push cut.0 10 0 (length file - 1) (omega (arith, ap length whole, length-append cut.0 (10 ∷ [])))

pub last_of_ended : (file : List ℕ) → 0 < length file → file ≡ ended (whole_lines file) → get_or file (length file - 1) 0 ≡ 10
last_of_ended file some same = last_of_lines file (whole_lines file) some same

no_piece : (file front piece : List ℕ) → file ≡ front ++ piece → All (λ b. b ≡ 10 → ⊥) piece → get_or file (length file - 1) 0 ≡ 10 → piece ≡ []
no_piece file front [] whole lacks last = refl
no_piece file front (b ∷ piece) whole lacks last =
    let lengths : length file ≡ length front + length (b ∷ piece) = ap length whole ∙ length-append front (b ∷ piece) in
    let at : get_or file (length file - 1) 0 ≡ get_or (b ∷ piece) (length file - 1 - length front) 0 =
    ap (λ bs. get_or bs (length file - 1) 0) whole
    ∙ get_or-append_right front (b ∷ piece) (length front) (length file - 1) 0 refl (omega arith) in
    absurd (All-get_or (λ c. c ≡ 10 → ⊥) (b ∷ piece) (length file - 1 - length front) 0 (omega arith) lacks (sym at ∙ last))

pub ended_by_last : (file : List ℕ) → get_or file (length file - 1) 0 ≡ 10 → file ≡ ended (whole_lines file)
ended_by_last file last =
    let split = IsSplit-whole_lines file in
    split.whole ∙ ap (λ bs. ended (whole_lines file) ++ bs) (no_piece file (ended (whole_lines file)) split.piece split.whole split.no_end last) ∙ append-nil (ended (whole_lines file))

-- ---- the line after those read

pub left_within : (file : List ℕ) (rest : List (List ℕ)) → DocumentsStop (whole_lines file) rest → length rest ≤ line_ends file
left_within file rest stop = omega (arith, length-whole_lines file, ap length stop.split, length-append stop.good rest)
