-- Which line of a file is refused, by where reading stops.
use Rattle.asg_doc_reader.proofs.Common.{◌≡◌, ℕ, ◌+◌, ◌<◌, ◌≤◌, List, [], ◌∷◌, ◌++◌, length, take, drop, All, flat_map, sym, refl, ap, ◌∙◌, subst, inl, inr, append_assoc, append-nil, arith, take-append-drop, take_all, take-take, take_at, All-append, All-cons, All-head, All-nil, All-take, cases_lt, flat_map-append, document_part, HasText, AllHaveText, BeginsText, IsRefusedLine, IsLongestBegun, IsNoText, DocumentsStop, lines_of, ended, texts_of, Document, whole_lines, line_ends, Lacks, Stops, IsSplit-whole_lines, length-whole_lines, line_ends-append, ended-append, whole_lines-prefix, whole_lines-ended, length-append}
use Rattle.asg_doc_reader.proofs.DocumentTexts.{documents_rest, texts_are_lines, lines_of_texts}

-- ---- from a document to the list

-- where a document isn't read after others, the list isn't
pub DocumentsStop-document : (read : List Document) (old left rest : List (List ℕ)) → AllHaveText read → old ≡ flat_map lines_of read ++ left → 0 < length left
    → Stops document_part left rest → DocumentsStop old rest
DocumentsStop-document read old left rest have split some stop = record {
  good = flat_map lines_of read ++ stop.good;
  split = split ∙ ap (λ ls. flat_map lines_of read ++ ls) stop.split ∙ sym (append_assoc (flat_map lines_of read) stop.good rest);
  documents = read ++ stop.begun ∷ [];
  have_text = All-append HasText read (stop.begun ∷ []) have (All-cons HasText stop.begun [] stop.valid (All-nil HasText));
  tail = stop.tail;
  begins = flat_map-append lines_of read (stop.begun ∷ [])
      ∙ ap (λ ls. flat_map lines_of read ++ ls) (append-nil (lines_of stop.begun) ∙ stop.begins)
      ∙ sym (append_assoc (flat_map lines_of read) stop.good stop.tail);
  unread = λ ds have_ds same.
      let found = documents_rest read ds left have have_ds (sym same ∙ split) in
      whole_left stop found.0 found.2 found.3 some;
  barred = λ line more first ds have_ds others same.
      let found = documents_rest read ds (stop.good ++ line ∷ others) have have_ds (same ∙ append_assoc (flat_map lines_of read) stop.good (line ∷ others)) in
      goes_on stop found.0 found.2 line more first others found.3;
} where
  whole_left : {left rest : List (List ℕ)} (stop : Stops document_part left rest) (ds : List Document) → AllHaveText ds → left ≡ flat_map lines_of ds → 0 < length left → ⊥
  whole_left stop [] have same some = absurd (omega (arith, ap length same))
  whole_left {rest = []} stop (d ∷ ds) have same some =
      stop.short d (All-head HasText d ds have) (flat_map lines_of ds) (sym same ∙ stop.split ∙ append-nil stop.good)
  whole_left {rest = line ∷ more} stop (d ∷ ds) have same some =
      stop.barred line more refl d (All-head HasText d ds have) (flat_map lines_of ds) more (sym same ∙ stop.split)

  goes_on : {left rest : List (List ℕ)} (stop : Stops document_part left rest) (ds : List Document) → AllHaveText ds → (line : List ℕ) (more : List (List ℕ)) → rest ≡ line ∷ more
      → (others : List (List ℕ)) → stop.good ++ line ∷ others ≡ flat_map lines_of ds → ⊥
  goes_on stop [] have line more first others same = absurd (omega (arith, ap length same, length-append stop.good (line ∷ others)))
  goes_on stop (d ∷ ds) have line more first others same =
      stop.barred line more first d (All-head HasText d ds have) (flat_map lines_of ds) others (sym same)

-- ---- from lines to the file

-- a front that is longer holds the next line
front_longer : (good : List (List ℕ)) (line : List ℕ) (more front others : List (List ℕ)) → good ++ line ∷ more ≡ front ++ others → length good < length front
    → (left : List (List ℕ)) × (front ≡ good ++ line ∷ left)
front_longer [] line more [] others same long = absurd (omega arith)
front_longer [] line more (x ∷ front) others same long = (front, ap (λ l. l ∷ front) (let head : x ≡ line = cc in head))
front_longer (g ∷ good) line more [] others same long = absurd (omega arith)
front_longer (g ∷ good) line more (x ∷ front) others same long =
    let head : x ≡ g = cc in
    let tails : good ++ line ∷ more ≡ front ++ others = cc in
    let found = front_longer good line more front others tails (omega arith) in
    (found.0, ap (λ l. l ∷ front) head ∙ ap (λ ls. g ∷ ls) found.1)

All-front : (front back : List (List ℕ)) → All (Lacks 10) (front ++ back) → All (Lacks 10) front
All-front front back all = subst (All (Lacks 10)) (take_at front back (length front) refl) (All-take (Lacks 10) (length front) (front ++ back) all)

line_ends-ended : (lines : List (List ℕ)) → All (Lacks 10) lines → line_ends (ended lines) ≡ length lines
line_ends-ended lines lacks =
    sym (length-whole_lines (ended lines))
    ∙ ap length (ap whole_lines (sym (append-nil (ended lines))) ∙ whole_lines-ended lines [] lacks ∙ append-nil lines)

line_ends-take : (count : ℕ) (bytes : List ℕ) → line_ends (take count bytes) ≤ line_ends bytes
line_ends-take count bytes =
    omega (arith, line_ends-append (take count bytes) (drop count bytes), ap line_ends (take-append-drop count bytes))

-- the front of a file is the text of its first lines
file_front : (file : List ℕ) (front back : List (List ℕ)) → whole_lines file ≡ front ++ back → take (length (ended front)) file ≡ ended front
file_front file front back split =
    let parts = IsSplit-whole_lines file in
    let whole : file ≡ ended front ++ (ended back ++ parts.piece) =
    parts.whole ∙ ap (λ ls. ended ls ++ parts.piece) split ∙ ap (λ bs. bs ++ parts.piece) (ended-append front back)
    ∙ append_assoc (ended front) (ended back) parts.piece in
    ap (take (length (ended front))) whole ∙ take_at (ended front) (ended back ++ parts.piece) (length (ended front)) refl

BeginsText-ended : (documents : List Document) (good tail : List (List ℕ)) → AllHaveText documents → flat_map lines_of documents ≡ good ++ tail → BeginsText (ended good)
BeginsText-ended documents good tail have begins = record {
  documents = documents;
  have_text = have;
  rest = ended tail;
  whole = sym (ended-append good tail) ∙ ap ended (sym begins) ∙ sym (texts_are_lines documents);
}

-- the lines of a prefix that begins a text begin the lines of documents
begun_lines : (bytes : List ℕ) (begun : BeginsText bytes) → (more : List (List ℕ)) × (flat_map lines_of begun.documents ≡ whole_lines bytes ++ more)
begun_lines bytes begun =
    let front = whole_lines-prefix bytes begun.rest in
    (front.0, sym (lines_of_texts begun.documents begun.have_text) ∙ ap whole_lines (sym begun.whole) ∙ front.1)

-- a prefix that begins a text has no more lines than were read
begun_few : (file : List ℕ) (rest : List (List ℕ)) (stop : DocumentsStop (whole_lines file) rest) (more : ℕ) → BeginsText (take more file) → length (whole_lines (take more file)) ≤ length stop.good
begun_few file [] stop more begun =
    omega (arith, line_ends-take more file, length-whole_lines (take more file), length-whole_lines file, ap length (stop.split ∙ append-nil stop.good))
begun_few file (line ∷ others) stop more begun =
    elim (cases_lt (length stop.good) (length (whole_lines (take more file)))) [
      | inl long ↦
          let cut = whole_lines-prefix (take more file) (drop more file) in
          let same : stop.good ++ line ∷ others ≡ whole_lines (take more file) ++ cut.0 =
          sym stop.split ∙ ap whole_lines (sym (take-append-drop more file)) ∙ cut.1 in
          let front = front_longer stop.good line others (whole_lines (take more file)) cut.0 same long in
          let lines = begun_lines (take more file) begun in
          absurd (stop.barred line others refl begun.documents begun.have_text (front.0 ++ lines.0)
          (lines.1 ∙ ap (λ ls. ls ++ lines.0) front.1 ∙ append_assoc stop.good (line ∷ front.0) lines.0))
      | inr few ↦ few
    ]

-- where reading stops, the file is no text, and the line after those read is the refused one
pub stops_refuses : (file : List ℕ) (rest : List (List ℕ)) (n : ℕ) → DocumentsStop (whole_lines file) rest → n + length rest ≡ 1 + line_ends file → IsNoText file × IsRefusedLine file n
stops_refuses file rest n stop count =
    let plain : All (Lacks 10) stop.good = All-front stop.good rest (subst (All (Lacks 10)) stop.split (IsSplit-whole_lines file).lines_are) in
    let front = file_front file stop.good rest stop.split in
    let lines : length (whole_lines file) ≡ length stop.good + length rest = ap length stop.split ∙ length-append stop.good rest in
    let line_is : n ≡ 1 + length stop.good = omega (arith, lines, length-whole_lines file) in (
      λ documents have same. stop.unread documents have (ap whole_lines same ∙ lines_of_texts documents have),
      record {
        count = length (ended stop.good);
        begins = subst BeginsText (sym front) (BeginsText-ended stop.documents stop.good stop.tail stop.have_text stop.begins);
        reached = line_is ∙ ap (λ k. 1 + k) (sym (line_ends-ended stop.good plain) ∙ ap line_ends (sym front));
        most = λ more begun. omega (arith, line_is, begun_few file rest stop more begun, length-whole_lines (take more file));
      },
    )

-- where all lines are read and bytes without LF follow, too
pub piece_refuses : (file : List ℕ) (documents : List Document) (n : ℕ) → AllHaveText documents → whole_lines file ≡ flat_map lines_of documents
    → (file ≡ ended (whole_lines file) → ⊥) → n ≡ 1 + line_ends file → IsNoText file × IsRefusedLine file n
piece_refuses file documents n have read unended count =
    let split : whole_lines file ≡ whole_lines file ++ [] = sym (append-nil (whole_lines file)) in
    let front = file_front file (whole_lines file) [] split in
    let plain = (IsSplit-whole_lines file).lines_are in (
      λ ds have_ds same. unended (same ∙ texts_are_lines ds ∙ ap ended (sym (lines_of_texts ds have_ds) ∙ ap whole_lines (sym same))),
      record {
        count = length (ended (whole_lines file));
        begins = subst BeginsText (sym front) (BeginsText-ended documents (whole_lines file) [] have (sym read ∙ split));
        reached = omega (arith, count, line_ends-ended (whole_lines file) plain, length-whole_lines file, ap line_ends front);
        most = λ more begun. omega (arith, count, line_ends-take more file);
      },
    )

-- a file of ended lines that are those of documents is their text
pub text_is_read : (file : List ℕ) (documents : List Document) → whole_lines file ≡ flat_map lines_of documents → file ≡ ended (whole_lines file) → file ≡ texts_of documents
text_is_read file documents read all = all ∙ ap ended read ∙ sym (texts_are_lines documents)

-- ---- the longest prefix

longest_by : (file : List ℕ) (count m : ℕ) → IsLongestBegun file m → BeginsText (take count file) → line_ends (take count file) ≤ line_ends (take m file)
longest_by file count m most begun =
    elim (cases_lt (length file) count) [
      | inl past ↦
          let all : take count file ≡ file = take_all count file (omega arith) in
          let whole : take (length file) file ≡ file = take_all (length file) file (omega arith) in
          let le : length file ≤ m = most.longest (length file) (omega arith) (subst BeginsText (all ∙ sym whole) begun) in
          let longest : take m file ≡ file = take_all m file le in
          omega (arith, ap line_ends all, ap line_ends longest)
      | inr within ↦
          let le : count ≤ m = most.longest count within begun in
          omega (arith, line_ends-take count (take m file), ap line_ends (take-take count m file le))
    ]

pub longest_tells : (file : List ℕ) (n m : ℕ) → IsRefusedLine file n → IsLongestBegun file m → n ≡ 1 + line_ends (take m file)
longest_tells file n m refused longest =
    omega (arith, refused.reached, refused.most m longest.begins, longest_by file refused.count m longest refused.begins)
