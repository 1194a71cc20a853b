-- How long the text of a document is that says that no choice is valid, or that has a threshold
-- proof or levels that are promised: far below the longest file that is read.
use Rattle.asg_promises.proofs.Common.{◌≡◌, ℕ, ◌+◌, ◌*◌, ◌<◌, ◌≤◌, true, false, ◌≢◌, List, [], ◌∷◌, ◌++◌, map, length, get_or, IsTrue, ◌==◌, Some, None, codes, decimal, All, Contains, Option, AllPairs, refl, ap, ◌∙◌, subst, arith, length-append, eqb-true, get_or-map, length-map, option_map_or, position-Some, length-cells_by_id-le, IsBestDocument, IsNoneDocument, IsPromisedClaim, IsPromisedProof, CertifiesClaim, IsTrueClaim, Form, HasAnswerText, HasClaimText, AreRows, spaced, cell_line, value_line, HasWord, command_word, form_of, Answer, Best, Command, Document, is_counted, most_side, longest_file, IsBottleneck, objective_word, Problem, square_side, choice_value, Objective, Bottleneck, BottleneckMax, Lex, Value, One, HasShortProofs, IsSolved, IsUnsolvable, Proof, Below, Levels, Phases, Windows, Job}
use Rattle.asg_promises.proofs.HeldInstances.{IsTaken-held}
use Rattle.asg_model.specs.declared.bands.Band.{Band}
use Rattle.asg_model.specs.declared.bands.Band.TheVariants.{Whole, Under, Over}
use Rattle.asg_model.specs.HallSet.{IsHall, is_counted_id, row_place_of}
use Rattle.asg_doc.specs.declared.documents.Claim.TheVariants.{Nothing}
use Rattle.asg_doc.specs.Text.{text_of}
use Rattle.asg_proof.specs.Threshold.{ProvesBelow}
use Rattle.asg_promises.proofs.Counting.{length-le-within}
use Rattle.asg_promises.proofs.LineLengths.{digits_of_id, length-behind, length-cell_lines, length-command, length-line, length-objective, length-spaced, length-value}
use Rattle.asg_promises.proofs.ListedCosts.{few_listed, listed_costs}
use Rattle.asg_promises.proofs.LevelLengths.{length-lex}
use Rattle.asg_check.specs.declared.document_forms.Form.TheVariants.{Solve as SolveForm}

-- the id of a counted row is that of a row
is_row_id : (X : Problem) (id : ℕ) → is_counted_id X id ≡ true → Contains (map (λ row. row.id) X.rows) id
is_row_id X id counted = by_place (row_place_of X id) refl counted
  where
    by_place : (found : Option ℕ) → row_place_of X id ≡ found → option_map_or (is_counted X) found false ≡ true → Contains (map (λ row. row.id) X.rows) id
    by_place None place e = cc
    by_place (Some r) place e =
        let found = position-Some (λ row. row.id == id) X.rows r (record { id = id; active = true }) place in
        let same = eqb-true (get_or X.rows r (record { id = id; active = true })).id id found.1 in
        let there : r < length (map (λ row. row.id) X.rows) = omega (arith, found.0, length-map X.rows (λ row. row.id)) in
        (r, there, get_or-map (λ row. row.id) X.rows r (record { id = id; active = true }) id found.0 ∙ same)

-- what holds of each element, in other words
All-mapped : (xs : List ℕ) (P Q : ℕ → Type 0) → ((x : ℕ) → P x → Q x) → All P xs → All Q xs
All-mapped xs P Q weaker all = λ i d within. weaker (get_or xs i d) (all i d within)

-- what the laws of Hall sets say of one
pub record HallLaws : Type 0 where
  pub differ : (X : Problem) (band : Band) (ids : List ℕ) → IsHall X band ids → AllPairs ◌≢◌ ids
  pub are_counted : (X : Problem) (band : Band) (ids : List ℕ) → IsHall X band ids → All (λ id. IsTrue (is_counted_id X id)) ids

-- a Hall set has no more rows than the instance
hall_within : HallLaws → (X : Problem) (band : Band) (rows : List ℕ) → IsHall X band rows → length rows ≤ length X.rows
hall_within laws X band rows hall =
    let ids = All-mapped rows (λ id. IsTrue (is_counted_id X id)) (Contains (map (λ row. row.id) X.rows)) (is_row_id X) (laws.are_counted X band rows hall) in
    omega (arith, length-le-within (λ id. id) rows (map (λ row. row.id) X.rows) (laws.differ X band rows hall) ids, length-map X.rows (λ row. row.id))

-- nor have the rows of a threshold proof
below_within : HallLaws → (objective : Objective) (X : Problem) (value : Value) (rows : List ℕ) → ProvesBelow objective X value rows → length rows ≤ length X.rows
below_within laws Bottleneck X (One value) rows proves = hall_within laws X (Under value) rows proves
below_within laws BottleneckMax X (One value) rows proves = hall_within laws X (Over value) rows proves
below_within laws _ X _ rows proves = absurd proves

-- the text of a document with an answer and a threshold proof
length-answered : (command : Command) (objective : Objective) (answer : Answer) (rows : List ℕ) → HasWord objective → HasAnswerText objective answer → AreRows rows
    → length (text_of (record { command = command; objective = objective; claim = Best answer (Below rows) })) ≤ 300 + (length answer.cells * 22 + (length rows * 11 + listed_costs answer.value * 41))
unfolding text_of
length-answered command objective answer rows word has_text are_rows =
    let last : List (List ℕ) = codes "end" ∷ [] in
    let proved : List ℕ = codes "proof below" ++ spaced rows in
    let tail : List (List ℕ) = map cell_line answer.cells ++ proved ∷ last in
    let count : List ℕ = codes "cells " ++ decimal (length answer.cells) in
    let told : List ℕ = value_line answer.value in
    let named : List ℕ = codes "command " ++ command_word command in
    let asked : List ℕ = codes "objective " ++ objective_word objective in
    omega (
      arith,
      length-line (codes "assignment 1") (named ∷ asked ∷ codes "status best" ∷ told ∷ count ∷ tail),
      length-line named (asked ∷ codes "status best" ∷ told ∷ count ∷ tail),
      length-line asked (codes "status best" ∷ told ∷ count ∷ tail),
      length-line (codes "status best") (told ∷ count ∷ tail),
      length-line told (count ∷ tail),
      length-line count tail,
      length-behind (map cell_line answer.cells) (proved ∷ last),
      length-line proved last,
      length-line (codes "end") [],
      length-cell_lines answer.cells has_text.cells.ids,
      length-spaced rows are_rows.ids,
      digits_of_id (length answer.cells) has_text.cells.few,
      length-value (form_of objective) answer.value has_text.value,
      length-command command,
      length-objective objective word,
      length-append (codes "command ") (command_word command),
      length-append (codes "objective ") (objective_word objective),
    )

-- the text of a document with a Hall set
length-refuted : (command : Command) (objective : Objective) (rows : List ℕ) → HasWord objective → AreRows rows
    → length (text_of (record { command = command; objective = objective; claim = Nothing rows })) ≤ 300 + length rows * 11
unfolding text_of
length-refuted command objective rows word are_rows =
    let last : List (List ℕ) = codes "end" ∷ [] in
    let shown : List ℕ = codes "hall" ++ spaced rows in
    let named : List ℕ = codes "command " ++ command_word command in
    let asked : List ℕ = codes "objective " ++ objective_word objective in
    omega (
      arith,
      length-line (codes "assignment 1") (named ∷ asked ∷ codes "status none" ∷ shown ∷ last),
      length-line named (asked ∷ codes "status none" ∷ shown ∷ last),
      length-line asked (codes "status none" ∷ shown ∷ last),
      length-line (codes "status none") (shown ∷ last),
      length-line shown last,
      length-line (codes "end") [],
      length-spaced rows are_rows.ids,
      length-command command,
      length-objective objective word,
      length-append (codes "command ") (command_word command),
      length-append (codes "objective ") (objective_word objective),
    )

-- the text of a best document for a bottleneck objective
length-best : HallLaws → (objective : Objective) (X : Problem) (document : Document) → IsBottleneck objective → length X.rows ≤ 1000 → IsBestDocument objective X SolveForm document → length (text_of document) ≤ longest_file
length-best laws objective X document bottleneck few best = by_proof best.answer best.proof best.claims
  where
    by_proof : (answer : Answer) (proof : Proof) → document.claim ≡ Best answer proof → length (text_of document) ≤ longest_file
    by_proof answer (Phases words) claims =
        by_objective objective bottleneck (subst (IsPromisedClaim SolveForm objective X) claims best.written.promised)
      where
        by_objective : (o : Objective) → IsBottleneck o → IsPromisedProof o X (Phases words) → length (text_of document) ≤ longest_file
        by_objective Bottleneck is promised = absurd promised
        by_objective BottleneckMax is promised = absurd promised
        by_objective _ is promised = absurd (cc)
    by_proof answer (Windows windows) claims =
        by_objective objective bottleneck (subst (IsPromisedClaim SolveForm objective X) claims best.written.promised)
      where
        by_objective : (o : Objective) → IsBottleneck o → IsPromisedProof o X (Windows windows) → length (text_of document) ≤ longest_file
        by_objective Bottleneck is promised = absurd promised
        by_objective BottleneckMax is promised = absurd promised
        by_objective _ is promised = absurd (cc)
    by_proof answer (Levels perm levels) claims =
        by_objective objective bottleneck (subst (IsPromisedClaim SolveForm objective X) claims best.written.promised)
      where
        by_objective : (o : Objective) → IsBottleneck o → IsPromisedProof o X (Levels perm levels) → length (text_of document) ≤ longest_file
        by_objective Bottleneck is promised = absurd promised
        by_objective BottleneckMax is promised = absurd promised
        by_objective _ is promised = absurd (cc)
    by_proof answer (Below rows) claims =
        let has_text = subst (HasClaimText document.objective) claims best.written.has_text.claim in
        let truly = subst (IsTrueClaim objective X) claims best.written.truly in
        let certifies = subst (CertifiesClaim objective X) claims best.written.certifies.claim in
        let same : text_of document ≡ text_of (record { command = document.command; objective = document.objective; claim = Best answer (Below rows) }) =
        λ i. text_of (record { command = document.command; objective = document.objective; claim = claims i }) in
        omega (
          arith,
          few,
          ap length same,
          length-answered document.command document.objective answer rows best.written.has_text.objective has_text.0 has_text.1,
          ap length truly.written,
          length-cells_by_id-le X truly.choice,
          below_within laws objective X (choice_value objective X certifies.choice) rows certifies.proved,
          few_listed objective X certifies.choice answer.value certifies.written.valid certifies.value,
        )

-- the text of a document with a Hall set of the instance
length-none : HallLaws → (objective : Objective) (X : Problem) (form : Form) (document : Document) → length X.rows ≤ 1000 → IsNoneDocument objective X form document → length (text_of document) ≤ longest_file
length-none laws objective X form document few none =
    let rows = none.rows in
    let has_text = subst (HasClaimText document.objective) none.claims none.written.has_text.claim in
    let hall = subst (CertifiesClaim objective X) none.claims none.written.certifies.claim in
    let same : text_of document ≡ text_of (record { command = document.command; objective = document.objective; claim = Nothing rows }) =
    λ i. text_of (record { command = document.command; objective = document.objective; claim = none.claims i }) in
    omega (arith, few, ap length same, length-refuted document.command document.objective rows none.written.has_text.objective has_text, hall_within laws X Whole rows hall)

-- what is due for a request to solve is so no longer than the longest file that is read
length-short : HallLaws → (objective : Objective) (X : Problem) (document : Document) → HasShortProofs objective → length X.rows ≤ 1000 → square_side X ≤ most_side → IsBestDocument objective X SolveForm document → length (text_of document) ≤ longest_file
length-short laws Lex X document short few within best = length-lex X document few within best
length-short laws Bottleneck X document short few within best = length-best laws Bottleneck X document short few best
length-short laws BottleneckMax X document short few within best = length-best laws BottleneckMax X document short few best
length-short laws _ X document short few within best = absurd (cc)

pub length-solved : HallLaws → (job : Job) (bytes text : List ℕ) → HasShortProofs job.objective → IsSolved job bytes text → length text ≤ longest_file
length-solved laws job bytes text short solved =
    let taken = IsTaken-held job bytes solved.problem solved.held in
    omega (arith, ap length solved.written, length-short laws job.objective solved.problem solved.document short solved.instance.well_formed.few_rows taken.within solved.best)

pub length-unsolvable : HallLaws → (job : Job) (form : Form) (bytes text : List ℕ) → IsUnsolvable job form bytes text → length text ≤ longest_file
length-unsolvable laws job form bytes text solved =
    omega (arith, ap length solved.written, length-none laws job.objective solved.problem form solved.document solved.instance.well_formed.few_rows solved.none)
