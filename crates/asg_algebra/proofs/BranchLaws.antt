-- What the growth of one tree on a square that isn't touched comes to.
use Rattle.asg_algebra.proofs.Common.{◌≡◌, ℕ, ◌≤◌, List, length, get_or, slice_index, vec_len, Option, sym, refl, ap, ◌∙◌, subst, arith, Reduced, made_of, ArePushed, stage_of, never, leads_in, IsSearch, IsReady, phase_in, lead_at, place_at, IsRest, Growth, few_rows, Flips, IsMatched, parents_in, HasDifferences, Monoid, IsOrderedMonoid, fold_of, Forest, after_phase, cell_at}
use Rattle.asg_algebra.specs.Branches.{IsAtLimit, IsBranch, IsLeft}
use Rattle.asg_algebra.proofs.FinishLaws.{finished_phase}
use Rattle.asg_algebra.proofs.PhaseEnds.{phase_so_far}

module _ {V : Type 0} {M : Monoid V} (laws : IsOrderedMonoid M) {difference : V → V → V} (has : HasDifferences M difference) (before : Reduced V) {m : List (Option ℕ)} {b : Growth V} {sum : V} where
  -- the index with the steps of the phase so far
  pub led_index : (seen : ℕ) → IsSearch M difference before.now before.index m b sum seen → (index : V) → index ≡ M.product before.index sum → index ≡ M.product before.index (fold_of M b.steps.items)
  led_index seen search index e = e ∙ ap (M.product before.index) search.underway.sums_are.now

  -- the phase so far has at most side steps
  pub few_led : (seen : ℕ) → seen ≤ vec_len b.tree.rows → IsSearch M difference before.now before.index m b sum seen → length b.steps.items ≤ before.now.side
  few_led seen within search = omega (arith, within, search.few_steps, few_rows laws has search, b.steps.ok.0)

  -- the root has a column by one phase
  pub branched : IsSearch M difference before.now before.index m b sum (vec_len b.tree.rows) → {column place : ℕ} {after : List (Option ℕ)} → IsReady M b sum column → place ≡ get_or b.tree.parents.items column 0 → Flips b.tree.rows.items (parents_in b.tree) place column m after → (index : V) → index ≡ M.product before.index sum → {f g : Forest V} {trail last : Option ℕ} → ArePushed (made_of (phase_in b) b.steps.items) f g trail last → (root : ℕ) → root ≡ slice_index b.tree.rows.items 0 → IsBranch M difference (stage_of before m f) (stage_of before after g) index trail last root
  branched search {column} {place} {after} ready at flipped index e pushed root root_is =
      let ends = finished_phase laws has search ready at flipped in
      let same = led_index (vec_len b.tree.rows) search index e in
      record {
        phase = phase_in b;
        led = record { admitted = ends.0; few = few_led (vec_len b.tree.rows) (omega arith) search; index_is = same; pushed = pushed };
        same_square = refl;
        rest = subst (λ z. IsRest M before.now.side (after_phase M difference (phase_in b) (cell_at before.now)) z after) (sym same) ends.1;
        kept = flipped.kept;
        served = subst (λ r. IsMatched after r) (sym root_is) flipped.added;
      }

  -- the tree was left at the limit
  pub left_at : (seen : ℕ) → seen ≤ vec_len b.tree.rows → IsSearch M difference before.now before.index m b sum seen → (limit : Option V) → IsAtLimit M limit (M.product before.index sum) → (index : V) → index ≡ M.product before.index sum → {f g : Forest V} {trail last : Option ℕ} → ArePushed (made_of (phase_in b) b.steps.items) f g trail last → IsLeft M difference (stage_of before m f) (stage_of before m g) limit index trail last
  left_at seen within search limit far index e pushed = record {
    phase = phase_in b;
    led = record {
      admitted = phase_so_far M laws difference has never before.now.side (cell_at before.now) before.index m b.tree.rows.items (parents_in b.tree) b.sums.items (lead_at M (leads_in b)) (place_at (leads_in b)) b.enters.items b.leaves.items b.steps.items sum seen search.underway;
      few = few_led seen within search;
      index_is = led_index seen search index e;
      pushed = pushed;
    };
    far = subst (IsAtLimit M limit) (sym e) far;
    same_square = refl;
    same_matching = refl;
  }
