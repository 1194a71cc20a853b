-- What a session keeps through an edit.
use Rattle.asg_repair.proofs.Common.{◌≡◌, ℕ, ◌<◌, ◌≤◌, Bool, true, false, ◌||◌, List, length, take, replicate, nat_lt, Some, None, Option, sym, refl, ap, ◌∙◌, subst, ⊎_elim, arith, length-take-le, take_all, lt-ltb, cases_lt, false≢true, length-replicate, nat_tests, after_phases-cell, edited_side, PassesNegative-edited, Touches, NamesPlaces, MaySolve, places_of, IsNamed, label_at, HasColumnsOf, NamedPlaces, column_at, Matches, IsMatching, edited, refusal_of, IsInstance, Problem, square_side, Edit, Objective, Cost, MayEnter, Monoid, IsValue, PhaseOf, IsClearedOf, AreAbsorbedAfter, IsSized, sure_columns, Work, square_cell, Grid}
use Rattle.asg_admit.specs.KeptCells.{cell_after_phases}
use Rattle.asg_square.specs.Labels.{column_label}
use Rattle.asg_repair.proofs.EditedCosts.{EntersValues-edited}
use Rattle.asg_kept_phases.specs.laws.EditedLabels.{HasColumnsOf-edited}
use Rattle.asg_kept_phases.specs.laws.NamedCells.{label_of_column, named_touched, touched_named, untouched_same}

-- the edited instance may be solved
pub MaySolve-edited : {V : Type 0} (M : Monoid V) (enter : Cost → V) (objective : Objective) (reach : ℕ) (X : Problem) (edit : Edit) → MaySolve M enter objective reach X → refusal_of objective X edit ≡ None → ((cost : Cost) → MayEnter objective reach cost → IsValue M (enter cost)) → IsInstance (edited X edit) → MaySolve M enter objective reach (edited X edit)
MaySolve-edited M enter objective reach X edit before passes values instance = record {
  instance = instance;
  small = let same = edited_side X edit in omega (arith, before.small, same);
  passes = PassesNegative-edited objective X edit passes before.instance before.passes;
  far = before.far;
  live = EntersValues-edited objective X edit passes M enter reach before.far values before.instance before.live;
}

-- what a session solves in fits the edited instance
pub IsSized-edited : {V : Type 0} (X : Problem) (edit : Edit) (work : Work V) → IsSized X work → IsSized (edited X edit) work
IsSized-edited X edit work sized =
    let same = edited_side X edit in
    record {
      square = HasColumnsOf-edited X edit work.reduced.now sized.square;
      matching_side = sized.matching_side ∙ sym same;
      is_matching = sized.is_matching;
      bench_side = sized.bench_side ∙ sym same;
      columns_side = sized.columns_side ∙ sym same;
      steps_room = let few = sized.steps_room in omega (arith, few, same);
    }

-- ---- rows whose cell was named lost their column

module _ {V : Type 0} (X : Problem) (edit : Edit) (names : NamesPlaces X edit) (Q : Grid V) (columns : HasColumnsOf X Q) (places : NamedPlaces) (places_are : places ≡ places_of X edit)
    (before after : List (Option ℕ)) (size : length before ≡ square_side X) (is_matching : IsMatching before) (cleared : IsClearedOf places Q before after)
  where
    label : (r k : ℕ) → Matches before r k → label_at Q k ≡ column_label X k
    label r k h = label_of_column X Q k columns (subst (λ n. k < n) size (is_matching.below r k h))

    -- no row has a touched cell
    pub untouched : (r k : ℕ) → Matches after r k → Touches X edit r k → ⊥
    untouched r k h touched =
        cleared.cleared r k h
        (subst (λ p. IsNamed p (label_at Q) r k) (sym places_are) (named_touched X (label_at Q) r k (label r k (cleared.only r k h)) edit names touched))

    -- a row that the edit doesn't touch keeps its column
    pub column_kept : (r : ℕ) → ((k : ℕ) → Touches X edit r k → ⊥) → column_at after r ≡ column_at before r
    column_kept r apart = by (column_at before r) refl (column_at after r) refl
      where
        by : (o : Option ℕ) → column_at before r ≡ o → (p : Option ℕ) → column_at after r ≡ p → column_at after r ≡ column_at before r
        by (Some k) e p f =
            cleared.kept r k e
            (λ named. apart k (touched_named X (label_at Q) r k (label r k e) edit names (subst (λ p. IsNamed p (label_at Q) r k) places_are named)))
            ∙ sym e
        by None e None f = f ∙ sym e
        by None e (Some k) f = absurd (let some = sym e ∙ cleared.only r k f in cc)

    -- matched cells are absorbed after the phases as before
    pub absorbed_edited : (M : Monoid V) (difference : V → V → V) (enter : Cost → V) (phases : List (PhaseOf V)) → IsInstance X → AreAbsorbedAfter M difference enter X phases before → AreAbsorbedAfter M difference enter (edited X edit) phases after
    absorbed_edited M difference enter phases is absorbed r k h =
        let one = absorbed r k (cleared.only r k h) in
        let old = square_cell X M.unit enter in
        let new = square_cell (edited X edit) M.unit enter in
        let same = untouched_same M.unit enter X edit r k is names (untouched r k h) in
        record {
          value = one.value;
          there =
              after_phases-cell M difference phases new r k
              ∙ ap (cell_after_phases M difference phases r k) same
              ∙ sym (after_phases-cell M difference phases old r k)
              ∙ one.there;
          is = one.is;
        }

-- ---- whether phases were cut

-- where none were, all are kept
pub uncut : {V : Type 0} (phases : List (PhaseOf V)) (cut : Bool) (kept n : ℕ) → n ≡ length phases → (cut || nat_lt kept n) ≡ false → (cut ≡ false) × (take kept phases ≡ phases)
uncut phases true kept n size e = absurd (false≢true (sym e))
uncut phases false kept n size e = (
  refl,
  take_all kept phases
      (⊎_elim
      (λ (less : kept < n). absurd (false≢true (sym e ∙ lt-ltb kept n less)))
      (λ (all : n ≤ kept). let from : length phases ≤ kept = omega (arith, all, size) in from)
      (cases_lt kept n)),
)

-- where all phases are the same none were cut
pub still_whole : {V : Type 0} (phases : List (PhaseOf V)) (cut : Bool) (kept n : ℕ) → n ≡ length phases → kept ≤ n → take kept phases ≡ phases → (cut || nat_lt kept n) ≡ cut
still_whole phases true kept n size few same = refl
still_whole phases false kept n size few same =
    let all : kept ≡ length phases = sym (length-take-le kept phases (omega (arith, few, size))) ∙ ap length same in
    ap (λ k. nat_lt k n) (all ∙ sym size) ∙ not_less n
  where
    not_less : (n : ℕ) → nat_lt n n ≡ false
    not_less n = grind (arith, nat_tests)

-- how many columns are seen, and which
pub length-sure : (cut : Bool) (matching : List (Option ℕ)) → length (sure_columns cut matching) ≡ length matching
length-sure true matching = length-replicate (length matching) None
length-sure false matching = refl

pub sure_kept : (cut : Bool) (before after : List (Option ℕ)) (r : ℕ) → length after ≡ length before → column_at after r ≡ column_at before r → column_at (sure_columns cut after) r ≡ column_at (sure_columns cut before) r
sure_kept true before after r size same = ap (λ n. column_at (replicate n None) r) size
sure_kept false before after r size same = same
