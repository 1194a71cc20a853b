-- Phases of one step that lowers one line of a square.
use Rattle.asg_algebra.proofs.Common.{◌≡◌, ◌≢◌, ℕ, zero, suc, leb-true, ltb-true, ◌<◌, ◌≤◌, List, [], ◌∷◌, length, slice_index, replicate, set, vec_len, Some, Option, All, AllPairs, sym, refl, ap, ◌∙◌, subst, ⊎_elim, arith, cases_eq, get_or-replicate, get_or-set_other, length-replicate, length-set, Reduced, made_of, ArePushed, stage_of, Monoid, IsOrderedMonoid, IsValue, IsLe, fold_of, Forest, phase_of, entered_at, staying_at, IsAdmittedPhase, cell_at, Grid, Growth, IsRoomy, IsBench}
use Rattle.asg_algebra.specs.Branches.{IsAtLimit, IsLeft}
use Rattle.asg_algebra.specs.LineSteps.{LowersRow, LowersColumn, WritesLine, AreCounted, steps_in}
use Rattle.asg_proof.specs.Phases.{AreAdmittedSteps}
use Rattle.asg_proof.specs.Steps.{count_below}

-- the row that enters before the first step
row_marks : (n row r : ℕ) → r < n → slice_index (set (replicate n 1) row 0) r ≡ 0 → r ≡ row
row_marks n row r below here =
    ⊎_elim
    (λ (same : r ≡ row). same)
    (λ (other : r ≡ row → ⊥).
    let kept : slice_index (set (replicate n 1) row 0) r ≡ slice_index (replicate n 1) r = get_or-set_other {A = ℕ} (replicate n 1) row r 0 0 other in
    let one : slice_index (replicate n 1) r ≡ 1 = get_or-replicate {A = ℕ} n r 1 0 below in
    absurd (omega (arith, here, kept, one)))
    (cases_eq r row)

-- the column that stays at it
column_marks : (n column k : ℕ) → k < n → 0 < slice_index (set (replicate n 0) column 1) k → k ≡ column
column_marks n column k below here =
    ⊎_elim
    (λ (same : k ≡ column). same)
    (λ (other : k ≡ column → ⊥).
    let kept : slice_index (set (replicate n 0) column 1) k ≡ slice_index (replicate n 0) k = get_or-set_other {A = ℕ} (replicate n 0) column k 1 0 other in
    let none : slice_index (replicate n 0) k ≡ 0 = get_or-replicate {A = ℕ} n k 0 0 below in
    absurd (omega (arith, here, kept, none)))
    (cases_eq k column)

-- counts of lists that are the same
pub same_counts : {a b c d : List ℕ} → a ≡ c → b ≡ d → AreCounted a b → AreCounted c d
same_counts e f counted = subst (λ A. A) (λ i. AreCounted (e i) (f i)) counted

module _ {V : Type 0} (M : Monoid V) (difference : V → V → V) (Q : Grid V) (step : V) (value : IsValue M step) where
  one_admitted : (enters leaves : List ℕ) → length enters ≡ Q.side → length leaves ≡ Q.side → AreCounted enters leaves → ((r k : ℕ) (x : V) → r < Q.side → k < Q.side → slice_index enters r ≡ 0 → 0 < slice_index leaves k → cell_at Q r k ≡ Some x → IsLe M step x) → IsAdmittedPhase M difference Q.side (phase_of (step ∷ []) enters leaves) (cell_at Q)
  one_admitted enters leaves rows columns count allows = record {
    rows = rows;
    columns = columns;
    admitted = each;
  }
    where
      each : AreAdmittedSteps M difference Q.side (phase_of (step ∷ []) enters leaves) (cell_at Q) 1
      each zero h = record {
        value = value;
        count =
            let a : count_below (entered_at enters 0) (length enters) ≡ count_below (entered_at enters 0) Q.side = ap (count_below (entered_at enters 0)) rows in
            let b : count_below (staying_at leaves 0) (length leaves) ≡ count_below (staying_at leaves 0) Q.side = ap (count_below (staying_at leaves 0)) columns in
            omega (arith, a, b, count, rows);
        least = λ r k x hr hk entered stays is.
            let low = leb-true (slice_index enters r) 0 entered in
            allows r k x hr hk (omega (arith, low)) (ltb-true 0 (slice_index leaves k) stays) is;
      }
      each (suc t) h = absurd (omega (arith, h))

  row_admitted : (row : ℕ) → LowersRow M step Q row → AreCounted (set (replicate Q.side 1) row 0) (replicate Q.side 1) → IsAdmittedPhase M difference Q.side (phase_of (step ∷ []) (set (replicate Q.side 1) row 0) (replicate Q.side 1)) (cell_at Q)
  row_admitted row lowers count =
      one_admitted (set (replicate Q.side 1) row 0) (replicate Q.side 1)
      (length-set (replicate Q.side 1) row 0 ∙ length-replicate Q.side 1)
      (length-replicate Q.side 1)
      count
      (λ r k x hr hk entered stays is. lowers k hk x (subst (λ q. cell_at Q q k ≡ Some x) (row_marks Q.side row r hr entered) is))

  column_admitted : (column : ℕ) → LowersColumn M step Q column → AreCounted (replicate Q.side 0) (set (replicate Q.side 0) column 1) → IsAdmittedPhase M difference Q.side (phase_of (step ∷ []) (replicate Q.side 0) (set (replicate Q.side 0) column 1)) (cell_at Q)
  column_admitted column lowers count =
      one_admitted (replicate Q.side 0) (set (replicate Q.side 0) column 1)
      (length-replicate Q.side 0)
      (length-set (replicate Q.side 0) column 1 ∙ length-replicate Q.side 0)
      count
      (λ r k x hr hk entered stays is. lowers r hr x (subst (λ q. cell_at Q r q ≡ Some x) (column_marks Q.side column k hk stays) is))

  module _ {before after : Growth V} where
    -- the bench stays one
    pub written_bench : {enters leaves : List ℕ} (side : ℕ) → IsBench side before → WritesLine before after step enters leaves → IsBench side after
    written_bench side bench written = record {
      roomy = subst (λ n. IsRoomy n after) bench.roomy.enters_side written.roomy;
      below = subst (λ t. All (λ r. r < side) t.rows.items) (sym written.tree) bench.below;
      apart = subst (λ t. AllPairs ◌≢◌ t.rows.items) (sym written.tree) bench.apart;
    }

    -- the phase that was written is admitted
    admitted_as : {enters leaves : List ℕ} → WritesLine before after step enters leaves → AreCounted after.enters.items after.leaves.items → (AreCounted enters leaves → IsAdmittedPhase M difference Q.side (phase_of (step ∷ []) enters leaves) (cell_at Q)) → IsAdmittedPhase M difference Q.side (steps_in after) (cell_at Q)
    admitted_as {enters} {leaves} written count shown =
        let same : steps_in after ≡ phase_of (step ∷ []) enters leaves = λ i. phase_of (written.steps i) (written.enters_are i) (written.leaves_are i) in
        subst (λ phase. IsAdmittedPhase M difference Q.side phase (cell_at Q)) (sym same)
        (shown (same_counts written.enters_are written.leaves_are count))

    pub row_written : (row : ℕ) → IsBench Q.side before → WritesLine before after step (set (replicate (vec_len before.enters) 1) row 0) (replicate (vec_len before.enters) 1) → AreCounted after.enters.items after.leaves.items → LowersRow M step Q row → IsAdmittedPhase M difference Q.side (steps_in after) (cell_at Q)
    row_written row bench written count lowers =
        admitted_as (subst (λ n. WritesLine before after step (set (replicate n 1) row 0) (replicate n 1)) bench.roomy.enters_side written) count (row_admitted row lowers)

    pub column_written : (column : ℕ) → IsBench Q.side before → WritesLine before after step (replicate (vec_len before.enters) 0) (set (replicate (vec_len before.enters) 0) column 1) → AreCounted after.enters.items after.leaves.items → LowersColumn M step Q column → IsAdmittedPhase M difference Q.side (steps_in after) (cell_at Q)
    column_written column bench written count lowers =
        admitted_as (subst (λ n. WritesLine before after step (replicate n 0) (set (replicate n 0) column 1)) bench.roomy.enters_side written) count (column_admitted column lowers)

-- a branch was left by one step
pub left_by_line : {V : Type 0} {M : Monoid V} (laws : IsOrderedMonoid M) (difference : V → V → V) (before : Reduced V) {m : List (Option ℕ)} (b : Growth V) {step : V} → IsValue M step → b.steps.items ≡ step ∷ [] → 1 ≤ before.now.side → IsAdmittedPhase M difference before.now.side (steps_in b) (cell_at before.now) → (limit : Option V) → IsAtLimit M limit (M.product before.index step) → (index : V) → index ≡ M.product before.index step → {f g : Forest V} {trail last : Option ℕ} → ArePushed (steps_in b ∷ []) f g trail last → IsLeft M difference (stage_of before m f) (stage_of before m g) limit index trail last
left_by_line {V} {M} laws difference before {m} b {step} value one some admitted limit far index e {f} {g} {trail} {last} pushed = record {
  phase = steps_in b;
  led = record {
    admitted = admitted;
    few = let count : length b.steps.items ≡ 1 = ap length one in omega (arith, count, some);
    index_is = e ∙ ap (M.product before.index) (sym (ap (fold_of M) one ∙ laws.unit_neutral step value));
    pushed = subst (λ phases. ArePushed phases f g trail last) (sym (ap (made_of (steps_in b)) one)) pushed;
  };
  far = subst (IsAtLimit M limit) (sym e) far;
  same_square = refl;
  same_matching = refl;
}
