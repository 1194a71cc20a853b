-- What phases that lead on from the square of an instance show of it.
use Rattle.asg_objectives.proofs.Common.{◌≡◌, ℕ, ◌<◌, ◌≤◌, List, [], map, length, get_or, is_some, is_none, IfSome, Option, sym, refl, ap, ◌∙◌, subst, arith, count_by-le-length, length-map, HasLabelsOf-kept, admitted_over, words_over, unmatched, Matches, IsPerfect, IsInstance, live_at, Problem, square_side, costs_of, Cost, Objective, IsFoldOutcome, IsOutcome, IsChoiceBy, IsBestBy, IsNothingBy, IsSquareOutcome, costs_fold, choice_fold, Monoid, IsValue, IsOrderedMonoid, fold_of, Word, Forest, ProvesFold, EntersValues, PhaseOf, worded, after_phases, AreAdmittedPhases, index_of, AreFewPhases, GivesFewPhases, HasSide, HasValues, assignment_fold, Outcome, Best, Nothing, Phases, square_cell, IsAssignment, IsPresent, choice_of, assignment_values, Grid, cell_at, HasLabelsOf, IsSquareOf, IsWithinSquareOf, IsPerm, grid_choice}
use Rattle.asg_admit.specs.declared.reduced.Reduced.{Reduced}
use Rattle.asg_growth.specs.Growing.{IsAbsorbed}
use Rattle.asg_algebra.specs.Solved.{LeadTo}
use Rattle.asg_model.specs.declared.bands.Band.TheVariants.{Whole}
use Rattle.asg_proof.specs.laws.PhaseLists.{is_some-phases, index_is_value}
use Rattle.asg_proof.specs.laws.Squares.{HasSide-square_cell, HasValues-square_cell}
use Rattle.asg_square.specs.Grid.{HasPresenceOf}
use Rattle.asg_square.specs.Presence.{has_cell}

-- the square of an instance, whose live costs enter as values, is of values
pub HasValues-of_square : {V : Type 0} (M : Monoid V) → IsOrderedMonoid M → (X : Problem) (enter : Cost → V) (Q : Grid V) → IsSquareOf X M.unit enter Q → EntersValues M enter X → HasValues M Q.side (cell_at Q)
HasValues-of_square M laws X enter Q square live r k x hr hk e =
    HasValues-square_cell M laws enter X live r k x
    (subst (λ n. r < n) square.labels.side hr) (subst (λ n. k < n) square.labels.side hk) (sym (square.cells r k) ∙ e)

-- absorbed cells are present
pub IsPerfect-present : {V : Type 0} (M : Monoid V) (z : V) (square : ℕ → ℕ → Option V) (side : ℕ) (matching : List (Option ℕ)) → IsPerfect (IsAbsorbed M z square) side matching → IsPerfect (IsPresent square) side matching
IsPerfect-present M z square side matching perfect = record {
  rows = perfect.rows;
  columns = perfect.columns;
  all = perfect.all;
  cells = λ r k has. let absorbed = perfect.cells r k has in ap is_some absorbed.there;
}

-- as few phases as rows have no column, with each step as its word
pub AreFewPhases-words : {V : Type 0} (M : Monoid V) (difference : V → V → V) (word_of : V → Word) (before after : Reduced V) (phases : List (PhaseOf V)) (forest forest_after : Forest V) (trail last : Option ℕ) → LeadTo M difference phases before after forest forest_after trail last → (matching : List (Option ℕ)) → length phases ≤ unmatched matching → length matching ≡ before.now.side → AreFewPhases before.now.side (map (worded word_of) phases)
AreFewPhases-words M difference word_of before after phases forest forest_after trail last lead matching few whole = record {
  few = omega (arith, few, whole, count_by-le-length (is_none {T = ℕ}) matching, length-map phases (worded word_of));
  each = words_over word_of before.now.side phases (admitted_over M difference before.now.side phases (cell_at before.now) lead.admitted lead.sizes);
}

-- ---- the outcome

-- what the fold law says of a square
abbrev pub FoldLaw : {V : Type 0} → Monoid V → (V → V → V) → Type 0
FoldLaw {V} M difference =
    (side : ℕ) (phases : List (PhaseOf V)) (square after : ℕ → ℕ → Option V) (matching : List (Option ℕ)) (p : List ℕ)
    → HasSide side square
    → HasValues M side square
    → AreAdmittedPhases M difference side phases square
    → ((r k : ℕ) → after r k ≡ after_phases M difference phases square r k)
    → IsPerfect (IsAbsorbed M (index_of M phases) after) side matching
    → length p ≡ side
    → ((r : ℕ) → r < side → Matches matching r (get_or p r 0))
    → IsAssignment square side p × (assignment_fold M side square p ≡ index_of M phases)

-- what the laws of squares say
pub record SquareLaws (V : Type 0) : Type 0 where
  pub folds : (M : Monoid V) (X : Problem) (enter : Cost → V) (p : List ℕ) → IsOrderedMonoid M → IsInstance X → ((r c : ℕ) → IfSome (live_at X r c) (λ cost. IsValue M (enter cost))) → IsAssignment (square_cell X M.unit enter) (square_side X) p → fold_of M (assignment_values (square_cell X M.unit enter) (square_side X) p) ≡ costs_fold M enter (costs_of X (choice_of X p))
  pub presence : (X : Problem) (free : V) (enter : Cost → V) (r c : ℕ) → is_some (square_cell X free enter r c) ≡ has_cell X Whole r c
  pub choice : (X : Problem) (Q : Grid V) (p : List ℕ) → IsInstance X → IsWithinSquareOf X Q → IsPerm Q p → grid_choice Q p ≡ choice_of X p

module _ {V : Type 0} (M : Monoid V) (laws : IsOrderedMonoid M) (difference : V → V → V) (X : Problem) (instance : IsInstance X) (Q : Grid V) (before after : Reduced V) (start : before.now ≡ Q) (unit : before.index ≡ M.unit)
    (phases : List (PhaseOf V)) (forest forest_after : Forest V) (trail last : Option ℕ) (lead : LeadTo M difference phases before after forest forest_after trail last) (squares : SquareLaws V)
  where
    module _ (enter : Cost → V) (square : IsSquareOf X M.unit enter Q) where
      cells_are : cell_at before.now ≡ square_cell X M.unit enter
      cells_are = ap cell_at start ∙ (λ i r k. square.cells r k i)

      side_is : before.now.side ≡ square_side X
      side_is = ap (λ (g : Grid V). g.side) start ∙ square.labels.side

      pub labels_after : HasLabelsOf X after.now
      labels_after = HasLabelsOf-kept X before.now after.now lead.labels (subst (HasLabelsOf X) (sym start) square.labels)

      admitted : AreAdmittedPhases M difference (square_side X) phases (square_cell X M.unit enter)
      admitted = subst (λ n. AreAdmittedPhases M difference n phases (square_cell X M.unit enter)) side_is
          (subst (AreAdmittedPhases M difference before.now.side phases) cells_are lead.admitted)

      outcome_is : (r k : ℕ) → cell_at after.now r k ≡ after_phases M difference phases (square_cell X M.unit enter) r k
      outcome_is r k = lead.outcome r k ∙ ap (λ q. after_phases M difference phases q r k) cells_are

      -- the same cells are present as in the square of the instance
      presence_is : (r k : ℕ) → is_some (cell_at after.now r k) ≡ has_cell X Whole r k
      presence_is r k =
          ap is_some (outcome_is r k)
          ∙ is_some-phases M difference phases (square_cell X M.unit enter) r k
          ∙ squares.presence X M.unit enter r k

      within : IsWithinSquareOf X after.now
      within = record { labels = labels_after; cells = λ r k h. sym (presence_is r k) ∙ h }

      -- rows that are deficient give a Hall set of the whole instance
      pub IsFoldOutcome-nothing : (word_of : V → Word) (outcome : Outcome) → IsNothingBy X after.now outcome → IsFoldOutcome M difference word_of enter X outcome
      IsFoldOutcome-nothing word_of (Best choice proof) by = absurd by
      IsFoldOutcome-nothing word_of (Nothing rows) gives =
          gives X Whole refl refl refl (λ r k. (λ h. sym (presence_is r k) ∙ h, λ h. presence_is r k ∙ h))

      module _ (live : EntersValues M enter X) (fold : FoldLaw M difference) (matching : List (Option ℕ)) (perfect : IsPerfect (IsAbsorbed M after.index (cell_at after.now)) after.now.side matching) where
        index_is : after.index ≡ index_of M phases
        index_is =
            lead.index
            ∙ ap (λ z. M.product z (index_of M phases)) unit
            ∙ laws.unit_neutral (index_of M phases) (index_is_value M laws difference (square_side X) phases (square_cell X M.unit enter) admitted)

        perfect_is : IsPerfect (IsAbsorbed M (index_of M phases) (cell_at after.now)) (square_side X) matching
        perfect_is = subst (λ n. IsPerfect (IsAbsorbed M (index_of M phases) (cell_at after.now)) n matching) labels_after.side
            (subst (λ z. IsPerfect (IsAbsorbed M z (cell_at after.now)) after.now.side matching) index_is perfect)

        module _ (choice : List (Option ℕ)) (by : IsChoiceBy after.now matching choice) where
          solved_by : IsAssignment (square_cell X M.unit enter) (square_side X) by.columns × (assignment_fold M (square_side X) (square_cell X M.unit enter) by.columns ≡ index_of M phases)
          solved_by =
              fold (square_side X) phases (square_cell X M.unit enter) (cell_at after.now) matching by.columns
              (HasSide-square_cell X M.unit enter)
              (HasValues-square_cell M laws enter X live)
              admitted outcome_is perfect_is
              (by.over ∙ perfect_is.rows)
              (λ r h. by.matched r (subst (λ n. r < n) (sym perfect_is.rows) h))

          fold_is : index_of M phases ≡ choice_fold M enter X choice
          fold_is =
              sym solved_by.1
              ∙ squares.folds M X enter by.columns laws instance live solved_by.0
              ∙ ap (λ f. costs_fold M enter (costs_of X f)) (sym (by.chosen ∙ squares.choice X after.now by.columns instance within by.perm))

          proves : (word_of : V → Word) (words : List (PhaseOf Word)) → words ≡ map (worded word_of) phases → ProvesFold M difference word_of enter X choice words
          proves word_of words e = record {
            phases = phases;
            written = sym e;
            proved = record { admitted = admitted; index = fold_is };
          }

        -- the choice is valid, and the phases prove its fold
        pub IsFoldOutcome-best : (word_of : V → Word) (outcome : Outcome) → IsBestBy after.now matching (map (worded word_of) phases) outcome → IsFoldOutcome M difference word_of enter X outcome
        IsFoldOutcome-best word_of (Best choice (Phases words)) by = record {
          valid = by.0.valid X instance within;
          proved = proves choice by.0 word_of words by.1;
        }
        IsFoldOutcome-best word_of (Best choice _) by = absurd by.1
        IsFoldOutcome-best word_of (Nothing rows) by = absurd by

-- the phases of a best outcome
pub GivesFewPhases-best : {V : Type 0} (Q : Grid V) (matching : List (Option ℕ)) (words : List (PhaseOf Word)) (side : ℕ) (outcome : Outcome) → AreFewPhases side words → IsBestBy Q matching words outcome → GivesFewPhases side outcome
GivesFewPhases-best Q matching words side (Best choice (Phases phases)) few by = subst (AreFewPhases side) (sym by.1) few
GivesFewPhases-best Q matching words side (Best choice _) few by = absurd by.1
GivesFewPhases-best Q matching words side (Nothing rows) few by = tt

pub GivesFewPhases-nothing : {V : Type 0} (X : Problem) (Q : Grid V) (side : ℕ) (outcome : Outcome) → IsNothingBy X Q outcome → GivesFewPhases side outcome
GivesFewPhases-nothing X Q side (Best choice proof) by = absurd by
GivesFewPhases-nothing X Q side (Nothing rows) by = tt

-- rows with fewer present cells of the square than they are give a Hall set of the instance
pub IsSquareOutcome-nothing : {V : Type 0} (M : Monoid V) (difference : V → V → V) (word_of : V → Word) (X : Problem) (Q : Grid V) → ((X : Problem) (free : V) (enter : Cost → V) (r c : ℕ) → is_some (square_cell X free enter r c) ≡ has_cell X Whole r c) → (outcome : Outcome) → IsNothingBy X Q outcome → IsSquareOutcome M difference word_of X Q outcome
IsSquareOutcome-nothing M difference word_of X Q presence (Best choice proof) by enter square live = absurd by
IsSquareOutcome-nothing M difference word_of X Q presence (Nothing rows) gives enter square live =
    let present : (r k : ℕ) → is_some (cell_at Q r k) ≡ has_cell X Whole r k = λ r k. ap is_some (square.cells r k) ∙ presence X M.unit enter r k in
    gives X Whole refl refl refl (λ r k. (λ h. sym (present r k) ∙ h, λ h. present r k ∙ h))

-- whatever the objective is
pub IsOutcome-nothing : {V : Type 0} (objective : Objective) (X : Problem) (Q : Grid V) → HasPresenceOf X Q → (outcome : Outcome) → IsNothingBy X Q outcome → IsOutcome objective X outcome
IsOutcome-nothing objective X Q present (Best choice proof) by = absurd by
IsOutcome-nothing objective X Q present (Nothing rows) gives =
    gives X Whole refl refl refl (λ r k. (λ h. sym (present r k) ∙ h, λ h. present r k ∙ h))
