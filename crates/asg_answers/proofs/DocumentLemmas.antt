-- What makes a document of an outcome.
use Rattle.asg_answers.proofs.Common.{◌≡◌, ℕ, ◌*◌, ◌<◌, ◌≤◌, true, List, length, get_or, ℤ, pos, ◌≤ℤ◌, is_some, IsTrue, ◌==◌, unsigned_abs, FitsSigned, count_by, Option, sym, refl, ap, subst, arith, eq-eqb, le-leb, and_from, count_by-le-length, fits_signed_from_abs, ints, length-map, w128, AreAnswersOf, KeepsRanges, IsEditDocument, IsBestDocument, IsNoneDocument, IsPromisedProof, IsRankedDocument, cells_by_id, AreCells, AreRows, HasProofText, HasValueText, HaveLevelText, HaveWindowText, HasWord, IsAsked, has_grades, Answer, Claim, Best, Nothing, Ranked, Document, AreWritable, IsBestAt, EditorOf, placed_by, active_count, descending, IsHall, IsInstance, IsPlaceInRange, most_cost, most_rows, most_side, Problem, PassesNegative, square_side, IsValid, IsValueInRange, choice_value, costs_of, first_parts, Between, Whole, Under, Over, Objective, Sum, SumMax, SumPair, Capped, Bottleneck, BottleneckMax, TimeCost, Balanced, Lex, One, Two, Many, Place, Word, ProvesPhases, ProvesRanks, PhaseOf, AreFewPhases, AreIds, Level, Below, Levels, Phases, Windows, IsProvedRanking, AreNodeParts, Node}
use Rattle.asg_model.specs.declared.objectives.Value.{Value}
use Rattle.asg_proof.specs.Outcomes.{IsProvedBest}
use Rattle.asg_proof.specs.Proves.{Proves, takes}
use Rattle.asg_proof.specs.Threshold.{ProvesBelow}
use Rattle.asg_proof.specs.Windows.{AreWindows, ProvesWindows}
use Rattle.asg_proof.specs.declared.windows.Window.{Window}
use Rattle.asg_proof.specs.declared.outcomes.Proof.{Proof}
use Rattle.asg_doc.specs.declared.documents.Command.{Command}
use Rattle.asg_check.specs.Certifies.{Certifies}
use Rattle.asg_check.specs.TrueClaim.{ClaimsTruly}
use Rattle.asg_check.specs.declared.document_forms.Form.{Form}
use Rattle.asg_check.specs.declared.document_forms.Form.TheVariants.{Solve, Rank, Edit}
use Rattle.asg_check.specs.DocumentForm.{MayBeAsked, has_form, is_answer_count, is_command_of}
use Rattle.asg_model.specs.Objectives.{is_algebraic}
use Rattle.asg_model.specs.DifferentCosts.{most_costs}
use Rattle.asg_answers.specs.Laws.{length-cells_by_id-le, length-cells_by_id-some}
use Rattle.asg_answers.proofs.CellIds.{cell_ids}
use Rattle.asg_answers.proofs.HallRows.{AreRows-hall, IsHallShort}
use Rattle.asg_answers.proofs.LevelTexts.{HaveLevelText-promised, costs_written}
use Rattle.asg_answers.proofs.PhaseTexts.{HavePhaseText-few, HavePhaseText-over, HaveStepTexts-proved}
use Rattle.asg_answers.proofs.RankingTexts.{HasTreeText-proved}
use Rattle.asg_model.specs.declared.parts.Place.TheVariants.{All as PlaceAll, Exactly}
use Rattle.asg_doc.specs.declared.documents.Command.TheVariants as commands

-- a valid choice of an instance places a row
places_some : (X : Problem) (f : List (Option ℕ)) → IsInstance X → IsValid X f → 0 < count_by is_some f
places_some X f i valid = by_place X.place i.well_formed.place_in_range valid.counted
  where
    by_place : (place : Place) → IsPlaceInRange X place → count_by is_some f ≡ placed_by place (active_count X) → 0 < count_by is_some f
    by_place PlaceAll within counted = omega (arith, counted, i.well_formed.some_active)
    by_place (Exactly k) within counted = omega (arith, counted, within.0)

-- the cells of a valid choice can be written
pub AreCells-by_id : (X : Problem) (f : List (Option ℕ)) (cells : List (ℕ × ℕ)) → IsInstance X → IsValid X f → cells ≡ cells_by_id X f → AreCells cells
AreCells-by_id X f cells i valid e = subst AreCells (sym e) (record {
  some = length-cells_by_id-some X f valid (places_some X f i valid);
  few = omega (arith, length-cells_by_id-le X f, i.well_formed.few_rows);
  ids = cell_ids X f i;
})

-- the law of documents that all this rests on
abbrev pub IsSound : Type 0
IsSound = (objective : Objective) (X : Problem) (form : Form) (document : Document) → IsInstance X → PassesNegative objective X → MayBeAsked form objective X → Certifies objective X form document → ClaimsTruly objective X document

-- rows of a threshold proof can be written
AreRows-below : IsHallShort → (objective : Objective) (X : Problem) (value : Value) (rows : List ℕ) → ProvesBelow objective X value rows → AreIds rows → AreRows rows
AreRows-below short Bottleneck X (One value) rows proves ids = AreRows-hall short X (Under value) rows proves ids
AreRows-below short BottleneckMax X (One value) rows proves ids = AreRows-hall short X (Over value) rows proves ids
AreRows-below short _ X _ rows proves ids = absurd proves

-- a value of an objective that has a word has a text
fits_wide : (x : ℤ) → unsigned_abs x ≤ most_cost * most_rows → FitsSigned w128 x
fits_wide x within = fits_signed_from_abs w128 x (omega (arith, within))

spread_abs : (x : ℤ) → pos 0 ≤ℤ x → x ≤ℤ pos (2 * most_cost) → unsigned_abs x ≤ 2 * most_cost
spread_abs x above below = grind (arith, ints)

fits_spread : (x : ℤ) → pos 0 ≤ℤ x → x ≤ℤ pos (2 * most_cost) → FitsSigned w128 x
fits_spread x above below = fits_signed_from_abs w128 x (omega (arith, spread_abs x above below))

pub HasValueText-ranged : (objective : Objective) (X : Problem) (f : List (Option ℕ)) (value : Value) → HasWord objective → IsInstance X → IsValid X f → value ≡ choice_value objective X f → IsValueInRange objective value → HasValueText objective value
HasValueText-ranged Sum X f (One x) word instance valid is within = fits_wide x within
HasValueText-ranged SumMax X f (One x) word instance valid is within = fits_wide x within
HasValueText-ranged SumPair X f (Two x y) word instance valid is within = (fits_wide x within.0, fits_wide y within.1)
HasValueText-ranged (Capped cap) X f (One x) word instance valid is within = fits_wide x within.0
HasValueText-ranged Bottleneck X f (One x) word instance valid is within = fits_wide x (omega (arith, within))
HasValueText-ranged BottleneckMax X f (One x) word instance valid is within = fits_wide x (omega (arith, within))
HasValueText-ranged TimeCost X f (Two x y) word instance valid is within = (fits_wide x (omega (arith, within.0)), fits_wide y within.1)
HasValueText-ranged Balanced X f (One x) word instance valid is within = fits_spread x within.0 within.1
HasValueText-ranged Balanced X f (Two x y) word instance valid is within = absurd within
HasValueText-ranged Balanced X f (Many xs) word instance valid is within = absurd within
HasValueText-ranged Lex X f (Many xs) word instance valid is within =
    let same : xs ≡ descending (first_parts (costs_of X f)) = cc in
    costs_written X f xs valid (places_some X f instance valid) same within.1
HasValueText-ranged Lex X f (One x) word instance valid is within = absurd within
HasValueText-ranged Lex X f (Two x y) word instance valid is within = absurd within
HasValueText-ranged Sum X f (Two x y) word instance valid is within = absurd within
HasValueText-ranged Sum X f (Many xs) word instance valid is within = absurd within
HasValueText-ranged SumMax X f (Two x y) word instance valid is within = absurd within
HasValueText-ranged SumMax X f (Many xs) word instance valid is within = absurd within
HasValueText-ranged SumPair X f (One x) word instance valid is within = absurd within
HasValueText-ranged SumPair X f (Many xs) word instance valid is within = absurd within
HasValueText-ranged (Capped cap) X f (Two x y) word instance valid is within = absurd within
HasValueText-ranged (Capped cap) X f (Many xs) word instance valid is within = absurd within
HasValueText-ranged Bottleneck X f (Two x y) word instance valid is within = absurd within
HasValueText-ranged Bottleneck X f (Many xs) word instance valid is within = absurd within
HasValueText-ranged BottleneckMax X f (Two x y) word instance valid is within = absurd within
HasValueText-ranged BottleneckMax X f (Many xs) word instance valid is within = absurd within
HasValueText-ranged TimeCost X f (One x) word instance valid is within = absurd within
HasValueText-ranged TimeCost X f (Many xs) word instance valid is within = absurd within

-- phases prove a choice for an algebraic objective alone, and thresholds for a bottleneck one
takes_phases : (objective : Objective) (X : Problem) (choice : List (Option ℕ)) (words : List (PhaseOf Word)) → ProvesPhases objective X choice words → takes objective (Phases words) ≡ true
takes_phases Balanced X choice words proves = absurd proves
takes_phases Lex X choice words proves = absurd proves
takes_phases Sum X choice words proves = refl
takes_phases SumMax X choice words proves = refl
takes_phases SumPair X choice words proves = refl
takes_phases (Capped cap) X choice words proves = refl
takes_phases Bottleneck X choice words proves = refl
takes_phases BottleneckMax X choice words proves = refl
takes_phases TimeCost X choice words proves = refl

takes_below : (objective : Objective) (X : Problem) (value : Value) (rows : List ℕ) → ProvesBelow objective X value rows → takes objective (Below rows) ≡ true
takes_below Bottleneck X value rows proves = refl
takes_below BottleneckMax X value rows proves = refl
takes_below _ X value rows proves = absurd proves

takes_windows : (objective : Objective) (X : Problem) (value : Value) (windows : List Window) → ProvesWindows objective X value windows → takes objective (Windows windows) ≡ true
takes_windows Balanced X value windows proves = refl
takes_windows _ X value windows proves = absurd proves

takes_levels : (objective : Objective) (X : Problem) (choice : List (Option ℕ)) (perm : List ℕ) (levels : List Level) → ProvesRanks objective X choice perm levels → takes objective (Levels perm levels) ≡ true
takes_levels Lex X choice perm levels proves = refl
takes_levels _ X choice perm levels proves = absurd proves

takes_proved : (objective : Objective) (X : Problem) (choice : List (Option ℕ)) (proof : Proof) → Proves objective X choice proof → takes objective proof ≡ true
takes_proved objective X choice (Phases words) proves = takes_phases objective X choice words proves
takes_proved objective X choice (Below rows) proves = takes_below objective X (choice_value objective X choice) rows proves
takes_proved objective X choice (Windows windows) proves = takes_windows objective X (choice_value objective X choice) windows proves
takes_proved objective X choice (Levels perm levels) proves = takes_levels objective X choice perm levels proves

-- phases that are promised are few
few_phases : (objective : Objective) (X : Problem) (words : List (PhaseOf Word)) → IsPromisedProof objective X (Phases words) → AreFewPhases (square_side X) words
few_phases Sum X words promised = promised
few_phases SumMax X words promised = promised
few_phases SumPair X words promised = promised
few_phases (Capped cap) X words promised = promised
few_phases TimeCost X words promised = promised
few_phases Bottleneck X words promised = absurd promised
few_phases BottleneckMax X words promised = absurd promised
few_phases Balanced X words promised = absurd promised
few_phases Lex X words promised = absurd promised

-- windows that are promised are few
few_windows : (objective : Objective) (X : Problem) (windows : List Window) → IsPromisedProof objective X (Windows windows) → length windows ≤ most_costs
few_windows Balanced X windows promised = promised
few_windows Bottleneck X windows promised = absurd promised
few_windows BottleneckMax X windows promised = absurd promised
few_windows _ X windows promised = absurd promised

-- windows that prove a spread can be written, where they are few
HaveWindowText-proved : IsHallShort → (objective : Objective) (X : Problem) (value : Value) (windows : List Window) → ProvesWindows objective X value windows → AreWindows windows → length windows ≤ most_costs → HaveWindowText windows
HaveWindowText-proved short Balanced X (One d) windows proves kept few = record {
  few = omega (arith, few);
  each = λ k w below.
      let window = get_or windows k w in
      let keeps = kept k w below in
      record {
        lo_fits = keeps.lo_fits;
        hi_fits = keeps.hi_fits;
        rows = AreRows-hall short X (Between window.lo window.hi) window.rows (proves.halls k w below) keeps.rows_are_ids;
      };
}
HaveWindowText-proved short _ X _ windows proves kept few = absurd proves

-- levels that prove a choice can be written, where they are few
HaveLevelText-proved : (objective : Objective) (X : Problem) (choice : List (Option ℕ)) (perm : List ℕ) (levels : List Level) → IsInstance X → IsValid X choice → square_side X ≤ most_side → ProvesRanks objective X choice perm levels → IsPromisedProof objective X (Levels perm levels) → KeepsRanges (Levels perm levels) → HaveLevelText perm levels
HaveLevelText-proved Lex X choice perm levels instance valid within proves promised kept =
    let some = places_some X choice instance valid in
    HaveLevelText-promised X choice perm levels instance within (omega (arith, some, valid.counted)) (omega (arith, some, valid.over, count_by-le-length is_some choice)) proves promised.0 promised.1 kept.0 kept.1
HaveLevelText-proved _ X choice perm levels instance valid within proves promised kept = absurd proves

-- a proof that is promised can be written
HasProofText-promised : IsHallShort → (objective : Objective) (X : Problem) (choice : List (Option ℕ)) (proof : Proof) → IsInstance X → IsValid X choice → HasWord objective → square_side X ≤ most_side → Proves objective X choice proof
    → IsPromisedProof objective X proof → KeepsRanges proof → HasProofText objective proof
HasProofText-promised short objective X choice (Phases words) instance valid word within proves promised kept =
    HavePhaseText-few (has_grades objective) (square_side X) words within (few_phases objective X words promised) kept (HaveStepTexts-proved objective X choice words word proves)
HasProofText-promised short objective X choice (Below rows) instance valid word within proves promised kept =
    AreRows-below short objective X (choice_value objective X choice) rows proves kept
HasProofText-promised short objective X choice (Windows windows) instance valid word within proves promised kept =
    HaveWindowText-proved short objective X (choice_value objective X choice) windows proves kept (few_windows objective X windows promised)
HasProofText-promised short objective X choice (Levels perm levels) instance valid word within proves promised kept =
    HaveLevelText-proved objective X choice perm levels instance valid within proves promised kept

-- the document of a claim
abbrev made : Objective → Claim → Document
made objective claim = record { command = commands.Solve; objective = objective; claim = claim }

-- the document of a proved choice
pub IsBestDocument-made : IsHallShort → IsSound → (objective : Objective) (X : Problem) (choice : List (Option ℕ)) (answer : Answer) (proof : Proof) → IsInstance X → PassesNegative objective X → HasWord objective
    → square_side X ≤ most_side → IsProvedBest objective X choice proof → IsPromisedProof objective X proof → KeepsRanges proof
    → answer.value ≡ choice_value objective X choice → HasValueText objective answer.value → answer.cells ≡ cells_by_id X choice → AreCells answer.cells
    → IsBestDocument objective X Solve (record { command = commands.Solve; objective = objective; claim = Best answer proof })
IsBestDocument-made short sound objective X choice answer proof instance passes word within proved promised kept is_value value_text are_cells cells_text =
    let certifies : Certifies objective X Solve (made objective (Best answer proof)) = record {
      of_objective = refl;
      of_form = takes_proved objective X choice proof proved.proved;
      claim = record { choice = choice; written = record { valid = proved.valid; written = are_cells }; value = is_value; proved = proved.proved };
    } in
    record {
      answer = answer;
      proof = proof;
      claims = refl;
      written = record {
        has_text = record {
          objective = word;
          claim = (record { value = value_text; cells = cells_text }, HasProofText-promised short objective X choice proof instance proved.valid word within proved.proved promised kept);
        };
        certifies = certifies;
        truly = sound objective X Solve (made objective (Best answer proof)) instance passes tt certifies;
        promised = promised;
      };
    }

-- the document of a proved choice of an edited instance
pub IsEditDocument-best : IsSound → (objective : Objective) (editor : EditorOf) (choice : List (Option ℕ)) (answer : Answer) (proof : Proof) → IsInstance editor.instance → PassesNegative objective editor.instance → HasWord objective → IsTrue (is_algebraic objective)
    → IsBestAt objective editor.instance editor.phases editor.unsure choice proof → KeepsRanges proof
    → answer.value ≡ choice_value objective editor.instance choice → HasValueText objective answer.value → answer.cells ≡ cells_by_id editor.instance choice → AreCells answer.cells
    → IsEditDocument objective editor (record { command = commands.Edit; objective = objective; claim = Best answer proof })
IsEditDocument-best sound objective editor choice answer (Phases words) instance passes word algebraic best kept is_value value_text are_cells cells_text =
    let X = editor.instance in
    let document : Document = record { command = commands.Edit; objective = objective; claim = Best answer (Phases words) } in
    let proves : ProvesPhases objective X choice words = best.proved.proved in
    let writable : AreWritable (square_side X) words = subst (AreWritable (square_side X)) (sym best.phases) best.writable in
    let certifies : Certifies objective X Edit document = record {
      of_objective = refl;
      of_form = algebraic;
      claim = record { choice = choice; written = record { valid = best.proved.valid; written = are_cells }; value = is_value; proved = proves };
    } in
    record {
      written = record {
        has_text = record {
          objective = word;
          claim = (record { value = value_text; cells = cells_text }, HavePhaseText-over (has_grades objective) (square_side X) words writable.few writable.each kept (HaveStepTexts-proved objective X choice words word proves));
        };
        certifies = certifies;
        truly = sound objective X Edit document instance passes tt certifies;
        promised = writable.each;
      };
      claims = (best.phases, best.all);
    }
IsEditDocument-best sound objective editor choice answer (Below rows) instance passes word algebraic best kept is_value value_text are_cells cells_text = absurd best.phases
IsEditDocument-best sound objective editor choice answer (Windows windows) instance passes word algebraic best kept is_value value_text are_cells cells_text = absurd best.phases
IsEditDocument-best sound objective editor choice answer (Levels perm levels) instance passes word algebraic best kept is_value value_text are_cells cells_text = absurd best.phases

-- a document that no choice is valid has the form of its command
none_form : (objective : Objective) (form : Form) (command : Command) (rows : List ℕ) → IsTrue (is_command_of form command)
    → has_form objective form (record { command = command; objective = objective; claim = Nothing rows }) ≡ true
none_form objective Solve commands.Solve rows is = refl
none_form objective (Rank count) commands.Rank rows is = refl
none_form objective Edit commands.Edit rows is = refl
none_form objective Solve commands.Rank rows is = cc
none_form objective Solve commands.Edit rows is = cc
none_form objective (Rank count) commands.Solve rows is = cc
none_form objective (Rank count) commands.Edit rows is = cc
none_form objective Edit commands.Solve rows is = cc
none_form objective Edit commands.Rank rows is = cc

-- the document of a Hall set
pub IsNoneDocument-made : IsHallShort → IsSound → (objective : Objective) (X : Problem) (form : Form) (command : Command) (rows : List ℕ) → IsInstance X → PassesNegative objective X → MayBeAsked form objective X → IsTrue (is_command_of form command)
    → HasWord objective → IsHall X Whole rows → AreIds rows
    → IsNoneDocument objective X form (record { command = command; objective = objective; claim = Nothing rows })
IsNoneDocument-made short sound objective X form command rows instance passes asked commanded word hall ids =
    let document : Document = record { command = command; objective = objective; claim = Nothing rows } in
    let certifies : Certifies objective X form document = record { of_objective = refl; of_form = none_form objective form command rows commanded; claim = hall } in
    record {
      rows = rows;
      claims = refl;
      written = record {
        has_text = record { objective = word; claim = AreRows-hall short X Whole rows hall ids };
        certifies = certifies;
        truly = sound objective X form document instance passes asked certifies;
        promised = tt;
      };
    }

-- the document of a proved ranking
pub IsRankedDocument-made : IsHallShort → IsSound → (objective : Objective) (X : Problem) (count : ℕ) (choices : List (List (Option ℕ))) (answers : List Answer) (nodes : List Node) → IsInstance X → PassesNegative objective X
    → MayBeAsked (Rank count) objective X → HasWord objective → IsAsked count → IsProvedRanking objective X count choices nodes → AreNodeParts nodes → AreAnswersOf objective X choices answers
    → IsRankedDocument objective X count (record { command = commands.Rank; objective = objective; claim = Ranked count answers nodes })
IsRankedDocument-made short sound objective X count choices answers nodes instance passes asked word within ranking parts are =
    let document : Document = record { command = commands.Rank; objective = objective; claim = Ranked count answers nodes } in
    let as_many : length answers ≡ length choices = omega (arith, ap length are.cells, length-map answers (λ (answer : Answer). answer.cells), length-map choices (cells_by_id X)) in
    let some : 1 ≤ length answers = omega (arith, as_many, ranking.listed.some) in
    let few : length answers ≤ count = omega (arith, as_many, ranking.listed.few) in
    let counted : is_answer_count count (length answers) ≡ true = and_from _ _ (le-leb 1 (length answers) some) (le-leb (length answers) count few) in
    let of_form : has_form objective (Rank count) document ≡ true = and_from _ _ (and_from (count == count) _ (eq-eqb count count refl) counted) asked.0 in
    let certifies : Certifies objective X (Rank count) document = record {
      of_objective = refl;
      of_form = of_form;
      claim = record {
        choices = choices;
        written = record { valid = ranking.valid; written = are.cells };
        values = are.values;
        listed = ranking.listed;
        proved = ranking.proved;
      };
    } in
    record {
      answers = answers;
      nodes = nodes;
      claims = refl;
      written = record {
        has_text = record {
          objective = word;
          claim = (within, (record { some = omega (arith, some); few = omega (arith, few, within.1); each = are.texts }, HasTreeText-proved short objective X count choices nodes word ranking parts));
        };
        certifies = certifies;
        truly = sound objective X (Rank count) document instance passes asked certifies;
        promised = ranking.phases;
      };
    }
