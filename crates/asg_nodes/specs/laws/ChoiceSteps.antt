-- The choice of a node that has its best choice.
use Rattle.std.proofs.Common.{◌≡◌, ◌↔◌, ℕ, ◌<◌, List, length, map, Option, Some, None, refl, sym, ◌∙◌, ap, subst, is_some}
use Rattle.std.proofs.lemmas.List.{length-map, get_or-map}
use Rattle.std.specs.Prelude.{IsSome, slice_index, unwrap_or}
use Rattle.asg_model.specs.declared.parts.Cost.{Cost}
use Rattle.asg_model.specs.Instances.{IsInstance}
use Rattle.asg_model.specs.Problem.{Problem}
use Rattle.asg_model.specs.Shapes.{square_side}
use Rattle.asg_model.specs.ValidChoice.{IsValid}
use Rattle.asg_match.specs.Matching.{Matches, IsMatched, IsPerfect, column_at}
use Rattle.asg_match.specs.laws.Matchings.{AllPairs-listed, Some-from_test}
use Rattle.asg_order.specs.Monoid.{IsOrderedMonoid}
use Rattle.asg_growth.specs.Growing.{IsAbsorbed}
use Rattle.asg_pool.specs.Forest.{Forest, phases_to}
use Rattle.asg_proof.specs.PhaseProofs.{EntersValues}
use Rattle.asg_proof.specs.Phases.{PhaseOf, AreAdmittedPhases, after_phases, index_of}
use Rattle.asg_proof.specs.Steps.{HasSide, HasValues, assignment_fold}
use Rattle.asg_proof.specs.laws.PhaseLists.{is_some-phases}
use Rattle.asg_proof.specs.laws.Squares.{HasSide-square_cell, HasValues-square_cell}
use Rattle.asg_square.specs.Cells.{IsAssignment, IsPresent, IsSquareChoice, choice_of, square_cell}
use Rattle.asg_nodes.specs.Rules.{Rules, Leads, IsSolved, reduced_cell}

some_present : {V : Type 0} (o : Option V) (x : V) → o ≡ Some x → IsSome o
some_present o x e = ap is_some e

module _ {V : Type 0} (R : Rules V) (laws : IsOrderedMonoid R.monoid) (F : Forest V) (Y : Problem) (trail : Option ℕ) (index : V) (leads : Leads R F Y trail index)
    (matching : List (Option ℕ)) (solved : IsSolved R F Y trail index matching) (columns : List ℕ) (over : length columns ≡ length matching)
    (matched : (r : ℕ) → r < length matching → Matches matching r (slice_index columns r))
  where
    there : (r : ℕ) → r < square_side Y → IsPresent (square_cell Y R.monoid.unit R.enter) r (slice_index columns r)
    there r h =
        let below : r < length matching = subst (λ n. r < n) (sym solved.rows) h in
        let absorbed = solved.cells r (slice_index columns r) (matched r below) in
        sym (is_some-phases R.monoid R.difference (phases_to F trail) (square_cell Y R.monoid.unit R.enter) r (slice_index columns r))
        ∙ some_present (reduced_cell R F Y trail r (slice_index columns r)) absorbed.value absorbed.there

    -- the columns are an assignment of the part's square
    pub assigned : {W : Type 0} (cells : ℕ → ℕ → Option W) (side : ℕ) → IsAssignment cells side columns → IsAssignment (square_cell Y R.monoid.unit R.enter) (square_side Y) columns
    assigned cells side perm = record {
      over = over ∙ solved.rows;
      apart = perm.apart;
      present = there;
    }

    module _ (enters : EntersValues R.monoid R.enter Y)
        (fold_law : (side : ℕ) (phases : List (PhaseOf V)) (square after : ℕ → ℕ → Option V) (matching : List (Option ℕ)) (p : List ℕ) → HasSide side square → HasValues R.monoid side square → AreAdmittedPhases R.monoid R.difference side phases square → ((r k : ℕ) → after r k ≡ after_phases R.monoid R.difference phases square r k) → IsPerfect (IsAbsorbed R.monoid (index_of R.monoid phases) after) side matching → length p ≡ side → ((r : ℕ) → r < side → Matches matching r (slice_index p r)) → IsAssignment square side p × (assignment_fold R.monoid side square p ≡ index_of R.monoid phases))
      where
        -- its product is the index
        pub fold_is : assignment_fold R.monoid (square_side Y) (square_cell Y R.monoid.unit R.enter) columns ≡ index
        fold_is =
            let phases = phases_to F trail in
            let square = square_cell Y R.monoid.unit R.enter in
            (fold_law (square_side Y) phases square (reduced_cell R F Y trail) matching columns (HasSide-square_cell Y R.monoid.unit R.enter) (HasValues-square_cell R.monoid laws R.enter Y enters) leads.admitted (λ r k. refl)
            (subst (λ z. IsPerfect (IsAbsorbed R.monoid z (reduced_cell R F Y trail)) (square_side Y) matching) leads.index_is solved)
            (over ∙ solved.rows) (λ r h. matched r (subst (λ n. r < n) (sym solved.rows) h))).1
            ∙ sym leads.index_is

-- the columns of a matching in which every row has one
abbrev columns_in : List (Option ℕ) → List ℕ
columns_in matching = map (λ o. unwrap_or o 0) matching

column_matches : (matching : List (Option ℕ)) (r : ℕ) → r < length matching → IsMatched matching r → Matches matching r (slice_index (columns_in matching) r)
column_matches matching r below matched =
    let x = Some-from_test (column_at matching r) matched in
    x.1 ∙ ap Some (sym (get_or-map (λ (o : Option ℕ). unwrap_or o 0) matching r None 0 below ∙ ap (λ (o : Option ℕ). unwrap_or o 0) x.1))

module _ {V : Type 0} (R : Rules V) (laws : IsOrderedMonoid R.monoid) (F : Forest V) (Y : Problem) (instance : IsInstance Y) (trail : Option ℕ) (index : V) (leads : Leads R F Y trail index)
    (matching : List (Option ℕ)) (solved : IsSolved R F Y trail index matching)
    (choices : (Z : Problem) (free : V) (enter : Cost → V) (f : List (Option ℕ)) → IsInstance Z → IsValid Z f ↔ IsSquareChoice Z free enter f)
  where
    -- a part of which a node has its best choice has a valid one
    pub some_choice : (f : List (Option ℕ)) × IsValid Y f
    some_choice =
        let columns = columns_in matching in
        let over : length columns ≡ length matching = length-map matching (λ (o : Option ℕ). unwrap_or o 0) in
        let matched : (r : ℕ) → r < length matching → Matches matching r (slice_index columns r) = λ r h. column_matches matching r h (solved.all r (subst (λ n. r < n) solved.rows h)) in
        let apart = AllPairs-listed matching columns solved.columns (λ r h. matched r (subst (λ n. r < n) over h)) in
        let perm : IsAssignment (square_cell Y R.monoid.unit R.enter) (square_side Y) columns = record {
          over = over ∙ solved.rows;
          apart = apart;
          present = there R laws F Y trail index leads matching solved columns over matched;
        } in
        (choice_of Y columns, (choices Y R.monoid.unit R.enter (choice_of Y columns) instance).1 (columns, perm, refl))
