-- What the solved square of an instance shows of the root of a search.
use Rattle.asg_rank.proofs.Common.{◌≡◌, ℕ, ◌+◌, ◌-◌, ◌*◌, ◌<◌, ◌≤◌, Bool, true, false, cond, List, is_some, IsSome, None, Option, sym, refl, ap, ◌∙◌, subst, ⊎_elim, arith, cases_lt, Solved, IsRankable, HasMemory, Search, placed, IsInstance, most_cost, most_side, Problem, PassesNegative, square_side, Whole, Objective, Cost, AreBitsFor, Rules, Leads, IsSolved, IsReducedTo, reduced_cell, IsValue, IsOrderedMonoid, phases_to, AreAdmittedPhases, after_phases, index_of, IsRootOf, IsBlank, IsPlantable, root_in, IsSolvedRoot, IsInstanceRoot, enters_values, square_cell, IsPresent}
use Rattle.asg_match.specs.Deficient.{IsDeficient}
use Rattle.asg_match.specs.HallSets.{AllowsCells}
use Rattle.asg_match.specs.Matching.{IsPerfect}
use Rattle.asg_order.specs.Entering.{MayEnter}
use Rattle.asg_proof.specs.laws.PhaseLists.{is_some-phases, index_is_value, HasSide-phases}
use Rattle.asg_proof.specs.laws.Squares.{HasSide-square_cell}
use Rattle.asg_bit_rows.specs.BitTable.{BitTable}
use Rattle.asg_square.specs.Grid.{Grid, cell_at, HasLabelsOf, IsSquareOf}
use Rattle.asg_square.specs.Masked.{keeps, masked_grid}
use Rattle.asg_square.specs.Presence.{has_cell}
use Rattle.asg_square.specs.laws.Masks.{cell_at-masked}
use Rattle.asg_algebra.specs.declared.solving.Solved.TheVariants.{Perfect, Short}
use Rattle.asg_algebra.specs.Ended.{last_of}
use Rattle.asg_growth.specs.Growing.{IsAbsorbed}
use Rattle.asg_roots.specs.declared.roots.Root.{Root}
use Rattle.asg_nodes.specs.laws.BitSteps.{keeps_by}
use Rattle.asg_admit.specs.laws.KeptLabels.{HasLabelsOf-kept}
use Rattle.asg_model.specs.declared.parts.Place.TheVariants.{All as PlaceAll}
use Rattle.asg_values.specs.laws.Options.{none_there}

kept_outside : {V : Type 0} (b : Bool) (o : Option V) → (IsSome o → ⊥) → cond b o None ≡ o
kept_outside true o not = refl
kept_outside false o not = sym (none_there o not)

module _ {V : Type 0} (R : Rules V) (laws : IsOrderedMonoid R.monoid) (X : Problem) (Q : Grid V) (square : IsSquareOf X R.monoid.unit R.enter Q) (records : ℕ) (root : Root V) (is : IsSolvedRoot R.monoid R.difference Q records root)
  where
    abbrev last : Option ℕ
    last = last_of root.ended

    abbrev first : ℕ → ℕ → Option V
    first = square_cell X R.monoid.unit R.enter

    cells_first : cell_at is.before.now ≡ first
    cells_first = ap cell_at is.start ∙ (λ i r k. square.cells r k i)

    side_first : is.before.now.side ≡ square_side X
    side_first = ap (λ (g : Grid V). g.side) is.start ∙ square.labels.side

    pub root_labels : HasLabelsOf X root.reduced.now
    root_labels =
        HasLabelsOf-kept X is.before.now root.reduced.now is.lead.labels (subst (HasLabelsOf X) (sym is.start) square.labels)

    root_admitted : AreAdmittedPhases R.monoid R.difference (square_side X) (phases_to root.region last) first
    root_admitted =
        subst (λ n. AreAdmittedPhases R.monoid R.difference n (phases_to root.region last) first) side_first
        (subst (AreAdmittedPhases R.monoid R.difference is.before.now.side (phases_to root.region last)) cells_first is.lead.admitted)

    pub root_cells : (r k : ℕ) → cell_at root.reduced.now r k ≡ reduced_cell R root.region X last r k
    root_cells r k = is.lead.outcome r k ∙ ap (λ q. after_phases R.monoid R.difference (phases_to root.region last) q r k) cells_first

    pub root_leads : Leads R root.region X last root.reduced.index
    root_leads = record {
      live = is.live;
      admitted = root_admitted;
      index_is =
          is.lead.index
          ∙ ap (λ z. R.monoid.product z (index_of R.monoid (phases_to root.region last))) is.at_unit
          ∙ laws.unit_neutral (index_of R.monoid (phases_to root.region last)) (index_is_value R.monoid laws R.difference (square_side X) (phases_to root.region last) first root_admitted);
    }

    pub root_reduced : IsReducedTo R root.region X last root.reduced.index root.reduced
    root_reduced = record { labels = root_labels; values = is.lead.reduced; cells = root_cells; index_is = refl }

    pub root_solved : (matching : List (Option ℕ)) → IsPerfect (IsAbsorbed R.monoid root.reduced.index (cell_at root.reduced.now)) root.reduced.now.side matching → IsSolved R root.region X last root.reduced.index matching
    root_solved matching perfect =
        let same : cell_at root.reduced.now ≡ reduced_cell R root.region X last = (λ i r k. root_cells r k i) in
        subst (λ n. IsPerfect (IsAbsorbed R.monoid root.reduced.index (reduced_cell R root.region X last)) n matching) root_labels.side
        (subst (λ cells. IsPerfect (IsAbsorbed R.monoid root.reduced.index cells) root.reduced.now.side matching) same perfect)

    outside : (r k : ℕ) → ((r < square_side X) × (k < square_side X) → ⊥) → IsSome (cell_at root.reduced.now r k) → ⊥
    outside r k not h =
        not (HasSide-phases R.monoid R.difference (square_side X) (phases_to root.region last) first (HasSide-square_cell X R.monoid.unit R.enter) r k (subst IsSome (root_cells r k) h))

    module _ (bits : BitTable) (all : AreBitsFor root.reduced.now.side (λ _ _. true) bits) where
      -- all cells are kept
      masked_same : (r k : ℕ) → cell_at (masked_grid root.reduced.now bits.words) r k ≡ cell_at root.reduced.now r k
      masked_same r k =
          let side = root_labels.side in
          let kept = keeps root.reduced.now.side bits.words r k in
          cell_at-masked root.reduced.now bits.words r k
          ∙ ⊎_elim
          (λ (row : r < square_side X).
          ⊎_elim
          (λ (column : k < square_side X). ap (λ b. cond b (cell_at root.reduced.now r k) None) (keeps_by root.reduced.now.side bits all.columns r k ∙ all.each r k (omega (arith, row, side)) (omega (arith, column, side))))
          (λ (past : square_side X ≤ k). kept_outside kept (cell_at root.reduced.now r k) (outside r k (λ h. let low = h.1 in omega (arith, past, low))))
          (cases_lt k (square_side X)))
          (λ (past : square_side X ≤ r). kept_outside kept (cell_at root.reduced.now r k) (outside r k (λ h. let low = h.0 in omega (arith, past, low))))
          (cases_lt r (square_side X))

      pub masked_all : cell_at (masked_grid root.reduced.now bits.words) ≡ cell_at root.reduced.now
      masked_all = (λ i r k. masked_same r k i)

      -- the cells that are kept are those of the instance
      pub allows_cells : ((free : V) (enter : Cost → V) (r c : ℕ) → is_some (square_cell X free enter r c) ≡ has_cell X Whole r c) → AllowsCells (IsPresent (cell_at (masked_grid root.reduced.now bits.words))) X Whole
      allows_cells presence r k =
          let same : is_some (cell_at (masked_grid root.reduced.now bits.words) r k) ≡ has_cell X Whole r k =
          ap is_some (masked_same r k) ∙ ap is_some (root_cells r k) ∙ is_some-phases R.monoid R.difference (phases_to root.region last) first r k ∙ presence R.monoid.unit R.enter r k in (
            λ h. sym same ∙ h,
            λ h. same ∙ h,
          )

-- what the root of a search came to
pub root_of : {V : Type 0} (R : Rules V) → IsOrderedMonoid R.monoid → (X : Problem) (Q : Grid V) → IsSquareOf X R.monoid.unit R.enter Q → ((free : V) (enter : Cost → V) (r c : ℕ) → is_some (square_cell X free enter r c) ≡ has_cell X Whole r c) → (records : ℕ) (S : Search V) → S.desk.work.now ≡ S.base.now → AreBitsFor S.base.now.side (λ _ _. true) S.desk.bits → (matching : List (Option ℕ)) (ended : Solved) → IsSolvedRoot R.monoid R.difference Q records (root_in S ended matching) → IsRootOf R X S matching ended
root_of {V} R laws X Q square presence records S work bits matching (Perfect trail) is =
    let root : Root V = root_in S (Perfect trail) matching in (
      root_reduced R laws X Q square records root is,
      root_leads R laws X Q square records root is,
      root_solved R laws X Q square records root is matching is.ends,
    )
root_of {V} R laws X Q square presence records S work bits matching (Short trail) is =
    let root : Root V = root_in S (Short trail) matching in
    subst (λ (G : Grid V). let cells = IsPresent (cell_at (masked_grid G S.desk.bits.words)) in HasLabelsOf X G × IsDeficient cells G.side S.desk.bench.rows × AllowsCells cells X Whole) (sym work) (
      root_labels R laws X Q square records root is,
      subst (λ cells. IsDeficient (IsPresent cells) S.base.now.side S.desk.bench.rows) (sym (masked_all R laws X Q square records root is S.desk.bits bits)) is.ends,
      allows_cells R laws X Q square records root is S.desk.bits bits presence,
    )

-- the root that was solved is the one that a search is over
pub root_is : {V : Type 0} (root : Root V) (S : Search V) (ended : Solved) (matching : List (Option ℕ)) → S.base ≡ root.reduced → ended ≡ root.ended → matching ≡ root.matching → S.desk.bench ≡ root.bench → S.tree.region ≡ root.region → root ≡ root_in S ended matching
root_is root S ended matching base ends matched bench region i = record { reduced = sym base i; ended = sym ends i; matching = sym matched i; bench = sym bench i; region = sym region i }

-- rankings ask no more of an instance
pub rankable_by : {V : Type 0} (R : Rules V) (objective : Objective) (reach : ℕ) (X : Problem) → X.place ≡ PlaceAll → square_side X ≤ most_side → most_cost ≤ reach → IsInstance X → PassesNegative objective X → ((cost : Cost) → MayEnter objective reach cost → IsValue R.monoid (R.enter cost)) → IsRankable R X
rankable_by R objective reach X place small far instance passes values = record {
  place = place;
  small = small;
  enters = enters_values R.monoid R.enter objective reach X far instance passes values;
}

-- a search over a root that was solved can have its root made
pub plantable : {V : Type 0} (R : Rules V) → IsOrderedMonoid R.monoid → (X : Problem) → IsRankable R X → ((free : V) (enter : Cost → V) (r c : ℕ) → is_some (square_cell X free enter r c) ≡ has_cell X Whole r c) → (room records : ℕ) → 1 ≤ room → records ≡ square_side X + (room - 1) * placed X
    → (S : Search V) (ended : Solved) (matching : List (Option ℕ)) → IsInstanceRoot R.monoid R.difference R.enter X records (root_in S ended matching) → IsBlank X room S → HasMemory X S → IsPlantable R X room S ended matching
plantable R laws X rankable presence room records some are S ended matching is blank memory =
    let spare = is.solved.spare in
    let side = is.of_instance.labels.side in
    record {
      some = some;
      rankable = rankable;
      blank = blank;
      memory = memory;
      root = root_of R laws X is.square is.of_instance presence records S blank.work blank.bits matching ended is.solved;
      phases_fit = omega (arith, spare, side, are);
    }
