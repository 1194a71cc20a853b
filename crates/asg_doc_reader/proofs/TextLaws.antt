-- Laws of texts: each is that of one list of documents.
use Rattle.asg_doc_reader.proofs.Common.{◌≡◌, ℕ, List, [], ◌∷◌, ◌++◌, IfOk, Some, Ok, Err, Result, MatchResult, sym, refl, ap, ◌∙◌, subst, append-nil, arith, All-push, append_cancel_left, flat_map-append, HasText, AllHaveText, IsRefusedLine, IsRefusal, DocumentsStop, DocumentsHalt, lines_of, texts_of, Document, whole_lines, Fault, Refused, whole_lines-ended}
use Rattle.std.proofs.Common.{IfErr}
use Rattle.asg_io.specs.Sink.{Puts}
use Rattle.asg_doc_reader.specs.declared.refusals.DocRefusal.{DocRefusal}
use Rattle.asg_doc.specs.Text.{text_of}
use Rattle.asg_doc_reader.proofs.ClaimParts.{document_law}
use Rattle.asg_doc_reader.proofs.DocumentTexts.{documents_unique, lines_of_texts}
use Rattle.asg_doc_reader.specs.declared.refusals.DocRefusal.TheVariants as refusals

pub texts_unique : (ds es : List Document) → AllHaveText ds → AllHaveText es → texts_of ds ≡ texts_of es → ds ≡ es
texts_unique ds es have_ds have_es same =
    documents_unique ds es have_ds have_es (sym (lines_of_texts ds have_ds) ∙ ap whole_lines same ∙ lines_of_texts es have_es)

-- what reads exactly and refuses only what is no text reads each text
pub reads_only : {V : Type 0} (items : V → List Document) (file : List ℕ) (result : Result V DocRefusal)
    → IfOk result (λ found. AllHaveText (items found) × (file ≡ texts_of (items found))) → IfErr result (λ refusal. IsRefusal file refusal)
    → (documents : List Document) → AllHaveText documents → file ≡ texts_of documents → MatchResult result (λ found. items found ≡ documents) (λ refusal. refusal ≡ refusals.NoMemory)
reads_only items file (Ok found) read line documents have is = texts_unique (items found) documents read.0 have (sym read.1 ∙ is)
reads_only items file (Err (refusals.Line n)) read line documents have is = absurd (line.0 documents have is)
reads_only items file (Err refusals.NoMemory) read line documents have is = refl

-- a refused list of documents stops
pub stopped : (old rest : List (List ℕ)) (fault : Fault) → fault ≡ Refused → DocumentsHalt old rest fault → DocumentsStop old rest
stopped old rest fault is fails = subst (DocumentsHalt old rest) is fails

pub text_unique : (d e : Document) (r s : List ℕ) → HasText d → HasText e → text_of d ++ r ≡ text_of e ++ s → (d ≡ e) × (r ≡ s)
unfolding text_of
text_unique d e r s have_d have_e same =
    let lines : lines_of d ++ whole_lines r ≡ lines_of e ++ whole_lines s =
    sym (whole_lines-ended (lines_of d) r (document_law.plain d have_d)) ∙ ap whole_lines same ∙ whole_lines-ended (lines_of e) s (document_law.plain e have_e) in
    let document = (document_law.unique d e (whole_lines r) (whole_lines s) have_d have_e lines).0 in
    (document, append_cancel_left (text_of e) r s (ap (λ m. text_of m ++ r) (sym document) ∙ same))

pub written_is_text : (documents : List Document) (document : Document) (written : List ℕ) → AllHaveText documents → HasText document
    → Puts (Some (texts_of documents)) (Some written) (text_of document) → AllHaveText (documents ++ document ∷ []) × (written ≡ texts_of (documents ++ document ∷ []))
written_is_text documents document written have has puts =
    let whole : written ≡ texts_of documents ++ text_of document = cc (puts.written) in (
      All-push HasText documents document have has,
      whole ∙ ap (λ bs. texts_of documents ++ bs) (sym (append-nil (text_of document))) ∙ sym (flat_map-append text_of documents (document ∷ [])),
    )

pub refused_once : (file : List ℕ) (n other : ℕ) → IsRefusedLine file n → IsRefusedLine file other → n ≡ other
refused_once file n other first second =
    omega (arith, first.reached, second.reached, first.most second.count second.begins, second.most first.count first.begins)
