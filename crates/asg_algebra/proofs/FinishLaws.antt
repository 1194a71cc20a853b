-- How a phase begins and ends, on its growth.
use Rattle.asg_algebra.proofs.Common.{◌≡◌, ℕ, ◌+◌, ◌*◌, ◌<◌, ◌≤◌, cond, List, [], ◌∷◌, length, get_or, is_some, IsSome, slice_index, None, vec_len, Option, sym, refl, ap, ◌∙◌, subst, ⊎_elim, arith, le-ltb, cases_lt, false≢true, IsReduced, IsPhaseTo, Reduced, made_of, IsServed, ArePushed, unmatched, stage_of, IsAbsorbed, never, leads_in, IsSearch, IsReady, IsPlanted, HasNoLead, lead_at, place_at, IsRest, cut, IsUnderway, Growth, open_unseen, search_cell, Flips, column_at, IsMatched, AllAllowed, parents_in, HasDifferences, Monoid, IsOrderedMonoid, fold_of, Forest, phase_of, square_after, IsAdmittedPhase, IsPresent, Grid, cell_at}
use Rattle.asg_model.specs.Limits.{most_side}
use Rattle.asg_match.specs.ColumnSet.{word_count}
use Rattle.asg_match.specs.Deficient.{IsDeficient}
use Rattle.asg_proof.specs.laws.PhaseSteps.{is_some-after}
use Rattle.asg_growth.specs.Nearest.{AreNearest}
use Rattle.asg_growth.specs.laws.NearestLemmas.{AreNearest-none}
use Rattle.asg_algebra.proofs.PhaseEnds.{phase_ends, planted}
use Rattle.asg_algebra.proofs.SolvedLaws.{LeadTo-made}
use Rattle.asg_growth.specs.laws.UnderwayLaws.{IsDeficient-now}

-- a present cell of a square lies in one of its columns
pub present_below : {V : Type 0} (Q : Grid V) (r k : ℕ) → IsSome (cell_at Q r k) → k < Q.side
present_below Q r k some =
    ⊎_elim
    (λ within. within)
    (λ past. absurd (false≢true (sym (ap (λ b. is_some (cond b (get_or Q.cells (r * Q.side + k) None) None)) (le-ltb k Q.side past)) ∙ some)))
    (cases_lt k Q.side)

module _ {V : Type 0} {M : Monoid V} (laws : IsOrderedMonoid M) {difference : V → V → V} (has : HasDifferences M difference) where
  -- what a planted growth begins
  pub planted_search : {Q : Grid V} {index : V} {m : List (Option ℕ)} {b : Growth V} {sum : V} {root : ℕ} → Q.side ≤ most_side → IsPlanted M Q.side b sum root → IsRest M Q.side (cell_at Q) index m → root < Q.side → column_at m root ≡ None → IsSearch M difference Q index m b sum 0
  planted_search {Q} {index} {m} {b} {sum} {root} small e rest below free =
      let base = planted M laws difference has never (omega arith) Q.side (cell_at Q) index m root rest below free (parents_in b.tree) e.none_reached (lead_at M (leads_in b)) (place_at (leads_in b)) (λ k _. e.no_lead k) in
      record {
        small = small;
        roomy = e.roomy;
        keys_side = e.keys_side;
        unseen = e.unseen;
        underway = subst (λ A. A) (λ i. IsUnderway M difference never Q.side (cell_at Q) index m ((sym e.rows) i) (parents_in b.tree) ((sym e.sums) i) (lead_at M (leads_in b)) (place_at (leads_in b)) ((sym e.enters) i) ((sym e.leaves) i) ((sym e.steps) i) ((sym e.at_unit) i) 0) base;
        few_steps = omega (arith, b.steps.ok.0, ap length e.steps);
        nearest = subst (AreNearest M (leads_in b) b.tree.unseen.items) (sym e.nearest) (AreNearest-none M (leads_in b) b.tree.unseen.items (word_count Q.side) (sym e.unseen.count) e.no_lead);
      }

  module _ {Q : Grid V} {index : V} {m : List (Option ℕ)} {b : Growth V} {sum : V} (search : IsSearch M difference Q index m b sum (vec_len b.tree.rows)) where
    -- a search that found no key has rows with too few columns
    pub stuck_deficient : HasNoLead M b → IsDeficient (IsPresent (cell_at Q)) Q.side b.tree.rows.items
    stuck_deficient none =
        let now = IsDeficient-now M laws difference has never Q.side (cell_at Q) index m b.tree.rows.items (parents_in b.tree) b.sums.items (lead_at M (leads_in b)) (place_at (leads_in b)) b.enters.items b.leaves.items b.steps.items sum (vec_len b.tree.rows) search.underway b.tree.rows.ok.0
        (λ k w. none k (open_unseen laws has search k w.0 w.1)) in
        record {
          below = now.below;
          apart = now.apart;
          few = record {
            columns = now.few.columns;
            fewer = now.few.fewer;
            all = λ k w.
                now.few.all k (w.0, w.1, (present_below Q w.0 k w.2, is_some-after M difference (phase_of b.steps.items b.enters.items b.leaves.items) (cell_at Q) (length b.steps.items) w.0 k ∙ w.2));
          };
        }

    -- the cut marks, and the phase that they make
    pub finished_phase : {column place : ℕ} {after : List (Option ℕ)} → IsReady M b sum column → place ≡ get_or b.tree.parents.items column 0 → Flips b.tree.rows.items (parents_in b.tree) place column m after → IsAdmittedPhase M difference Q.side (phase_of b.steps.items (cut (length b.steps.items) b.enters.items) (cut (length b.steps.items) b.leaves.items)) (cell_at Q) × IsRest M Q.side (square_after M difference (phase_of b.steps.items (cut (length b.steps.items) b.enters.items) (cut (length b.steps.items) b.leaves.items)) (cell_at Q) (length b.steps.items)) (M.product index (fold_of M b.steps.items)) after
    finished_phase {column} {place} {after} ready at flipped =
        let cell = search_cell laws has search refl ready.least ready.low in
        let here = subst (λ p. IsAbsorbed M (M.product index (fold_of M b.steps.items)) (square_after M difference (phase_of b.steps.items b.enters.items b.leaves.items) (cell_at Q) (length b.steps.items)) (get_or b.tree.rows.items p 0) column) (sym at) cell in
        phase_ends M laws difference has never Q.side (cell_at Q) index m b.tree.rows.items (parents_in b.tree) b.sums.items (lead_at M (leads_in b)) (place_at (leads_in b)) b.enters.items b.leaves.items b.steps.items sum (vec_len b.tree.rows) search.underway place column after here flipped

  -- the row has a column by at most one phase
  pub finished : (before new : Reduced V) {m : List (Option ℕ)} {b : Growth V} {sum : V} → IsSearch M difference before.now before.index m b sum (vec_len b.tree.rows) → IsReduced M before → length b.steps.items ≤ before.now.side → {column place : ℕ} {after : List (Option ℕ)} → IsReady M b sum column → place ≡ get_or b.tree.parents.items column 0 → Flips b.tree.rows.items (parents_in b.tree) place column m after → IsPhaseTo M difference (phase_of b.steps.items (cut (length b.steps.items) b.enters.items) (cut (length b.steps.items) b.leaves.items)) before new → {f g : Forest V} {trail last : Option ℕ} → ArePushed (made_of (phase_of b.steps.items (cut (length b.steps.items) b.enters.items) (cut (length b.steps.items) b.leaves.items)) b.steps.items) f g trail last → (root : ℕ) → root ≡ slice_index b.tree.rows.items 0 → IsServed M difference (stage_of before m f) (stage_of new after g) trail last root
  finished before new {m} {b} {sum} search is few {column} {place} {after} ready at flipped to {f} {g} {trail} {last} pushed root root_is =
      let count = length b.steps.items in
      let phase = phase_of b.steps.items (cut count b.enters.items) (cut count b.leaves.items) in
      let ends = finished_phase search ready at flipped in
      let made = LeadTo-made M laws difference b.steps.items (cut count b.enters.items) (cut count b.leaves.items) before new f g trail last is few ends.0 to pushed in
      let same : cell_at new.now ≡ square_after M difference phase (cell_at before.now) count = λ i r k. to.cells r k i in
      let free : column_at m root ≡ None = ap (column_at m) root_is ∙ search.underway.searching.growing.tree.root_free in
      record {
        phases = made_of phase b.steps.items;
        one = omega (arith, made.1, ap (λ o. unmatched (o ∷ [])) free);
        lead = made.0;
        rows = record {
          side = flipped.side;
          columns = flipped.columns;
          absorbed = subst (λ A. A) (λ i. AllAllowed (IsAbsorbed M ((sym to.index) i) ((sym same) i)) after) ends.1.absorbed;
          kept = flipped.kept;
        };
        served = subst (λ r. IsMatched after r) (sym root_is) flipped.added;
      }
