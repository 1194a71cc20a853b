-- How long the text of a document is that has levels that are promised: far below the longest file
-- that is read.
use Rattle.asg_promises.proofs.Common.{◌≡◌, ℕ, ◌+◌, ◌*◌, ◌≤◌, Bool, false, List, [], ◌∷◌, ◌++◌, map, length, get_or, ℤ, codes, decimal, All, sum_by, Option, flat_map, ap, subst, arith, length-append, All-cons, All-head, All-nil, All-tail, length-decimal-le_wide, signed_decimal, sum_by-cons, length-cells_by_id-le, IsBestDocument, IsPromisedClaim, CertifiesClaim, IsTrueClaim, HasAnswerText, HasClaimText, HasColumnText, HasLevelText, HasPhaseText, HaveLevelText, spaced, spaced_columns, spaced_steps, step_text, column_text, cell_line, ended, level_lines, perm_line, phase_lines, value_line, HasWord, command_word, form_of, Answer, Best, Command, Document, most_side, longest_file, objective_word, Problem, square_side, Objective, Lex, Proof, Below, Levels, Phases, Windows}
use Rattle.asg_order.specs.declared.words.Word.{Word}
use Rattle.asg_proof.specs.declared.levels.Level.{Level}
use Rattle.asg_proof.specs.LevelRows.{most_level_rows}
use Rattle.asg_proof.specs.Levels.{AreLevelsFrom, left_after}
use Rattle.asg_proof.specs.Phases.{PhaseOf}
use Rattle.asg_proof.specs.PromisedProofs.{AreFewLevels, IsUnitLevel, IsUnitPhase}
use Rattle.asg_doc.specs.Text.{text_of}
use Rattle.asg_promises.proofs.LineLengths.{digits_of_cost, digits_of_id, length-behind, length-cell_lines, length-command, length-line, length-objective, length-spaced, length-value, pieces}
use Rattle.asg_promises.proofs.ListedCosts.{few_listed, listed_costs}
use Rattle.asg_check.specs.declared.document_forms.Form.TheVariants.{Solve as SolveForm}

-- the lines of a phase of one step by 1, over at most 2,000 rows and columns
length-unit : (side : ℕ) (phase : PhaseOf Word) → side ≤ most_side → IsUnitPhase side phase → HasPhaseText false phase → length (ended (phase_lines false phase)) ≤ 44080
length-unit side phase within unit has =
    let steps : List ℕ = codes "steps" ++ spaced_steps false phase.steps in
    let enters : List ℕ = codes "enters" ++ spaced phase.enters in
    let leaves : List ℕ = codes "leaves" ++ spaced phase.leaves in
    let digits = pieces (λ step. 32 ∷ step_text false step) 41 phase.steps
    (λ i d h. let step = has.steps.each i d h in omega (arith, length-decimal-le_wide 40 (get_or phase.steps i d).amount (omega arith) (omega (arith, step.1)) (omega (arith, step.1)))) in
    omega (
      arith,
      within,
      digits,
      ap length unit.step,
      unit.enters,
      unit.leaves,
      length-line steps (enters ∷ leaves ∷ []),
      length-line enters (leaves ∷ []),
      length-line leaves [],
      length-append (codes "steps") (spaced_steps false phase.steps),
      length-append (codes "enters") (spaced phase.enters),
      length-append (codes "leaves") (spaced phase.leaves),
      length-spaced phase.enters has.enters.ids,
      length-spaced phase.leaves has.leaves.ids,
    )

-- those of such phases
length-units : (side : ℕ) (phases : List (PhaseOf Word)) → side ≤ most_side → All (IsUnitPhase side) phases → All (HasPhaseText false) phases → length (ended (flat_map (phase_lines false) phases)) ≤ length phases * 44080
length-units side [] within units have = omega arith
length-units side (phase ∷ rest) within units have =
    omega (
      arith,
      length-behind (phase_lines false phase) (flat_map (phase_lines false) rest),
      length-unit side phase within (All-head (IsUnitPhase side) phase rest units) (All-head (HasPhaseText false) phase rest have),
      length-units side rest within (All-tail (IsUnitPhase side) phase rest units) (All-tail (HasPhaseText false) phase rest have),
    )

-- those of a level that counts a cell
length-level : (side : ℕ) (level : Level) → side ≤ most_side → 1 ≤ level.count → IsUnitLevel side level → HasLevelText level → length (ended (level_lines level)) ≤ level.count * 44180
length-level side level within some unit has =
    let counts : List ℕ = decimal level.count ++ 32 ∷ decimal (length level.phases) in
    let head : List ℕ = codes "level " ++ (signed_decimal level.cost ++ 32 ∷ counts) in
    omega (
      arith,
      some,
      unit.count,
      length-line head (flat_map (phase_lines false) level.phases),
      length-append (codes "level ") (signed_decimal level.cost ++ 32 ∷ counts),
      length-append (signed_decimal level.cost) (32 ∷ counts),
      length-append (decimal level.count) (32 ∷ decimal (length level.phases)),
      digits_of_cost level.cost has.cost_fits,
      digits_of_id level.count has.count_fits,
      digits_of_id (length level.phases) has.phases.few,
      length-units side level.phases within unit.each has.phases.each,
    )

-- those of levels
length-levels : (side : ℕ) (levels : List Level) → side ≤ most_side → All (λ level. 1 ≤ level.count) levels → All (IsUnitLevel side) levels → All HasLevelText levels
    → length (ended (flat_map level_lines levels)) ≤ sum_by (λ (level : Level). level.count) levels * 44180
length-levels side [] within some units have = omega arith
length-levels side (level ∷ rest) within some units have =
    omega (
      arith,
      length-behind (level_lines level) (flat_map level_lines rest),
      length-level side level within (All-head (λ level. 1 ≤ level.count) level rest some) (All-head (IsUnitLevel side) level rest units) (All-head HasLevelText level rest have),
      length-levels side rest within (All-tail (λ level. 1 ≤ level.count) level rest some) (All-tail (IsUnitLevel side) level rest units) (All-tail HasLevelText level rest have),
      sum_by-cons (λ (level : Level). level.count) level rest,
    )

-- the line of an assignment
length-perm : (perm : List ℕ) → All HasColumnText perm → length (perm_line perm) ≤ 4 + length perm * 11
length-perm perm has =
    let each = pieces (λ column. 32 ∷ column_text column) 11 perm (λ i d h. omega (arith, digits_of_id (get_or perm i d + 1) (has i d h))) in
    omega (arith, each, length-append (codes "perm") (spaced_columns perm))

-- the text of a document with an answer and levels
length-levelled : (command : Command) (objective : Objective) (side : ℕ) (answer : Answer) (perm : List ℕ) (levels : List Level) → side ≤ most_side → HasWord objective → HasAnswerText objective answer → HaveLevelText perm levels → length perm ≡ side
    → All (λ level. 1 ≤ level.count) levels → AreFewLevels side most_level_rows levels
    → length (text_of (record { command = command; objective = objective; claim = Best answer (Levels perm levels) })) ≤ 400 + (length answer.cells * 22 + (listed_costs answer.value * 41 + (22000 + most_level_rows * 44180)))
unfolding text_of
length-levelled command objective side answer perm levels within word has_text have count some few =
    let last : List (List ℕ) = codes "end" ∷ [] in
    let proved : List ℕ = codes "proof levels " ++ decimal (length levels) in
    let shown : List (List ℕ) = proved ∷ perm_line perm ∷ (flat_map level_lines levels ++ last) in
    let tail : List (List ℕ) = map cell_line answer.cells ++ shown in
    let numbered : List ℕ = codes "cells " ++ decimal (length answer.cells) in
    let told : List ℕ = value_line answer.value in
    let named : List ℕ = codes "command " ++ command_word command in
    let asked : List ℕ = codes "objective " ++ objective_word objective in
    omega (
      arith,
      within,
      count,
      few.few,
      length-line (codes "assignment 1") (named ∷ asked ∷ codes "status best" ∷ told ∷ numbered ∷ tail),
      length-line named (asked ∷ codes "status best" ∷ told ∷ numbered ∷ tail),
      length-line asked (codes "status best" ∷ told ∷ numbered ∷ tail),
      length-line (codes "status best") (told ∷ numbered ∷ tail),
      length-line told (numbered ∷ tail),
      length-line numbered tail,
      length-behind (map cell_line answer.cells) shown,
      length-line proved (perm_line perm ∷ (flat_map level_lines levels ++ last)),
      length-line (perm_line perm) (flat_map level_lines levels ++ last),
      length-behind (flat_map level_lines levels) last,
      length-line (codes "end") [],
      length-cell_lines answer.cells has_text.cells.ids,
      length-perm perm have.columns.each,
      length-levels side levels within some few.each have.each,
      digits_of_id (length answer.cells) has_text.cells.few,
      digits_of_id (length levels) have.few,
      length-append (codes "proof levels ") (decimal (length levels)),
      length-append (codes "cells ") (decimal (length answer.cells)),
      length-value (form_of objective) answer.value has_text.value,
      length-command command,
      length-objective objective word,
      length-append (codes "command ") (command_word command),
      length-append (codes "objective ") (objective_word objective),
    )

-- each level of a proof counts a cell
counts_some : (X : Problem) (perm : List ℕ) (before : Option ℤ) (left : ℕ → ℕ → Bool) (levels : List Level) → AreLevelsFrom X perm before left levels → All (λ level. 1 ≤ level.count) levels
counts_some X perm before left [] all = All-nil (λ (level : Level). 1 ≤ level.count)
counts_some X perm before left (level ∷ rest) all = All-cons (λ (l : Level). 1 ≤ l.count) level rest all.0.proved.some (counts_some X perm _ (left_after X before left level) rest all.1)

-- the text of a best document for `lex`
pub length-lex : (X : Problem) (document : Document) → length X.rows ≤ 1000 → square_side X ≤ most_side → IsBestDocument Lex X SolveForm document → length (text_of document) ≤ longest_file
length-lex X document few within best = by_proof best.answer best.proof best.claims
  where
    by_proof : (answer : Answer) (proof : Proof) → document.claim ≡ Best answer proof → length (text_of document) ≤ longest_file
    by_proof answer (Phases words) claims = absurd (subst (IsPromisedClaim SolveForm Lex X) claims best.written.promised)
    by_proof answer (Below rows) claims = absurd (subst (IsPromisedClaim SolveForm Lex X) claims best.written.promised)
    by_proof answer (Windows windows) claims = absurd (subst (IsPromisedClaim SolveForm Lex X) claims best.written.promised)
    by_proof answer (Levels perm levels) claims =
        let has_text = subst (HasClaimText document.objective) claims best.written.has_text.claim in
        let truly = subst (IsTrueClaim Lex X) claims best.written.truly in
        let certifies = subst (CertifiesClaim Lex X) claims best.written.certifies.claim in
        let promised = subst (IsPromisedClaim SolveForm Lex X) claims best.written.promised in
        let same : text_of document ≡ text_of (record { command = document.command; objective = document.objective; claim = Best answer (Levels perm levels) }) =
        λ i. text_of (record { command = document.command; objective = document.objective; claim = claims i }) in
        omega (
          arith,
          few,
          ap length same,
          length-levelled document.command document.objective (square_side X) answer perm levels within best.written.has_text.objective has_text.0 has_text.1 promised.0
              (counts_some X perm _ _ levels certifies.proved.levels_hold) promised.1,
          ap length truly.written,
          length-cells_by_id-le X truly.choice,
          few_listed Lex X certifies.choice answer.value certifies.written.valid certifies.value,
        )
