-- The lines and the texts of documents, one after the other.
use Rattle.asg_doc_reader.proofs.Common.{◌≡◌, ℕ, List, [], ◌∷◌, ◌++◌, flat_map, sym, refl, ap, ◌∙◌, append_assoc, append-nil, All-head, All-tail, HasText, AllHaveText, lines_of, ended, texts_of, Document, whole_lines, ended-append, whole_lines-ended, counted_plain}
use Rattle.asg_doc.specs.Text.{text_of}
use Rattle.asg_doc_reader.proofs.ClaimParts.{document_law}

-- ---- by lines

-- documents whose lines begin with those of `ds` are `ds` and others
pub documents_rest : (ds es : List Document) (rest : List (List ℕ)) → AllHaveText ds → AllHaveText es → flat_map lines_of es ≡ flat_map lines_of ds ++ rest
    → (fs : List Document) × (es ≡ ds ++ fs) × AllHaveText fs × (rest ≡ flat_map lines_of fs)
documents_rest [] es rest fd fe same = (es, refl, fe, sym same)
documents_rest (d ∷ ds) [] rest fd fe same = absurd cc
documents_rest (d ∷ ds) (e ∷ es) rest fd fe same =
    let parts = document_law.unique e d (flat_map lines_of es) (flat_map lines_of ds ++ rest) (All-head HasText e es fe) (All-head HasText d ds fd)
    (same ∙ append_assoc (lines_of d) (flat_map lines_of ds) rest) in
    let others = documents_rest ds es rest (All-tail HasText d ds fd) (All-tail HasText e es fe) parts.1 in
    (others.0, ap (λ h. h ∷ es) parts.0 ∙ ap (λ t. d ∷ t) others.1, others.2, others.3)

documents_none : (ds : List Document) → [] ≡ flat_map lines_of ds → ds ≡ []
documents_none [] e = refl
documents_none (d ∷ ds) e = absurd cc

pub documents_unique : (ds es : List Document) → AllHaveText ds → AllHaveText es → flat_map lines_of ds ≡ flat_map lines_of es → ds ≡ es
documents_unique ds es fd fe same =
    let found = documents_rest ds es [] fd fe (sym same ∙ sym (append-nil (flat_map lines_of ds))) in
    sym (found.1 ∙ ap (λ fs. ds ++ fs) (documents_none found.0 found.3) ∙ append-nil ds)

-- ---- the text of documents, by lines

pub texts_are_lines : (documents : List Document) → texts_of documents ≡ ended (flat_map lines_of documents)
unfolding text_of
texts_are_lines [] = refl
texts_are_lines (document ∷ documents) =
    ap (λ bs. text_of document ++ bs) (texts_are_lines documents) ∙ sym (ended-append (lines_of document) (flat_map lines_of documents))

pub lines_of_texts : (documents : List Document) → AllHaveText documents → whole_lines (texts_of documents) ≡ flat_map lines_of documents
lines_of_texts documents have =
    ap whole_lines (texts_are_lines documents ∙ sym (append-nil (ended (flat_map lines_of documents))))
    ∙ whole_lines-ended (flat_map lines_of documents) [] (counted_plain document_law documents have)
    ∙ append-nil (flat_map lines_of documents)
