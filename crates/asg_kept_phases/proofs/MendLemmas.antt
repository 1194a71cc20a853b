-- Cells that are written into a square.
use Rattle.asg_kept_phases.proofs.Common.{◌≡◌, ℕ, suc, ◌+◌, ◌*◌, ◌<◌, ◌≤◌, ◌⊎◌, List, [], ◌∷◌, length, take, slice_set, None, Option, sym, refl, ◌∙◌, subst, ⊎_elim, arith, take_all, cases_lt, AllowsPhases, AllowsSoMany, cell_after_phases, same_labels, chained_labels, MendsCells, Monoid, PhaseOf, Grid, IsGrid, cell_at}
use Rattle.asg_bit_rows.specs.laws.Places.{place_hit, place_missed}
use Rattle.asg_cell_tables.specs.laws.Entries.{entry_at-set}
use Rattle.asg_kept_phases.proofs.LeftLemmas.{fewer_allowed}

module _ {V : Type 0} (M : Monoid V) (difference : V → V → V) where
  pub absent_after : (phases : List (PhaseOf V)) (r k : ℕ) → cell_after_phases M difference phases r k None ≡ None
  absent_after [] r k = refl
  absent_after (phase ∷ rest) r k = absent_after rest r k

  -- a cell that allows all phases is told to allow as many
  pub allows_all : (phases : List (PhaseOf V)) (r k : ℕ) (cell : Option V) (n : ℕ) → AllowsPhases M difference phases r k cell → AllowsSoMany M difference phases r k cell n → take n phases ≡ phases
  allows_all phases r k cell n all so_many =
      ⊎_elim
      (λ (fewer : n < length phases).
      absurd (so_many.no_more fewer
      (fewer_allowed M difference phases r k cell (suc n) (length phases) (omega (arith, fewer))
      (subst (λ list. AllowsPhases M difference list r k cell) (sym (take_all (length phases) phases (omega arith))) all))))
      (λ (h : length phases ≤ n). take_all n phases h)
      (cases_lt n (length phases))

  -- one cell was written
  pub MendsCells-set : (phases : List (PhaseOf V)) (after : ℕ → ℕ → Option V) (r k : ℕ) (cell : Option V) (Q R : Grid V) → IsGrid Q → r < Q.side → k < Q.side → cell ≡ cell_after_phases M difference phases r k (after r k) → R ≡ record Q { cells = slice_set Q.cells (r * Q.side + k) cell } → MendsCells M difference phases after (λ s j. (s ≡ r) × (j ≡ k)) Q R
  MendsCells-set phases after r k cell Q R grid hr hk is e =
      subst (MendsCells M difference phases after (λ s j. (s ≡ r) × (j ≡ k)) Q) (sym e)
      (record {
        labels = record { side = refl; rows = refl; row_labels = refl; column_labels = refl };
        mended = λ s j hs hj seen.
            entry_at-set Q.side Q.cells r k cell s j (whole grid) hr hk
            ∙ place_hit s r j k cell (cell_at Q s j) seen.0 seen.1
            ∙ is
            ∙ (λ i. cell_after_phases M difference phases (sym seen.0 i) (sym seen.1 i) (after (sym seen.0 i) (sym seen.1 i)));
        others = λ s j not_seen.
            entry_at-set Q.side Q.cells r k cell s j (whole grid) hr hk
            ∙ place_missed s r j k cell (cell_at Q s j) (λ a b. not_seen (a, b));
      })
    where
      whole : IsGrid Q → length Q.cells ≡ Q.side * Q.side
      whole g = g.table.count

  -- cells that were written in two steps, each in one of them
  pub MendsCells-both : (phases : List (PhaseOf V)) (after : ℕ → ℕ → Option V) (first second all : ℕ → ℕ → Type 0) (Q R S : Grid V) → ((r k : ℕ) → all r k → first r k ⊎ second r k) → ((r k : ℕ) → first r k → all r k) → ((r k : ℕ) → second r k → all r k) → ((r k : ℕ) → first r k → second r k → ⊥) → MendsCells M difference phases after first Q R → MendsCells M difference phases after second R S → MendsCells M difference phases after all Q S
  MendsCells-both phases after first second all Q R S covers one two apart a b = record {
    labels = chained_labels Q R S a.labels b.labels;
    mended = λ r k hr hk seen.
        ⊎_elim
        (λ (h : first r k). b.others r k (apart r k h) ∙ a.mended r k hr hk h)
        (λ (h : second r k). b.mended r k (subst (λ n. r < n) (sym a.labels.side) hr) (subst (λ n. k < n) (sym a.labels.side) hk) h)
        (covers r k seen);
    others = λ r k unseen. b.others r k (λ h. unseen (two r k h)) ∙ a.others r k (λ h. unseen (one r k h));
  }

  -- nothing was written where nothing is seen
  pub MendsCells-none : (phases : List (PhaseOf V)) (after : ℕ → ℕ → Option V) (is_seen : ℕ → ℕ → Type 0) (Q : Grid V) → ((r k : ℕ) → r < Q.side → k < Q.side → is_seen r k → ⊥) → MendsCells M difference phases after is_seen Q Q
  MendsCells-none phases after is_seen Q none = record {
    labels = same_labels Q;
    mended = λ r k hr hk seen. absurd (none r k hr hk seen);
    others = λ r k unseen. refl;
  }

  -- the same cells, seen otherwise
  pub MendsCells-same : (phases : List (PhaseOf V)) (after : ℕ → ℕ → Option V) (first second : ℕ → ℕ → Type 0) (Q R : Grid V) → ((r k : ℕ) → r < Q.side → k < Q.side → second r k → first r k) → ((r k : ℕ) → first r k → second r k) → MendsCells M difference phases after first Q R → MendsCells M difference phases after second Q R
  MendsCells-same phases after first second Q R to from mends = record {
    labels = mends.labels;
    mended = λ r k hr hk seen. mends.mended r k hr hk (to r k hr hk seen);
    others = λ r k unseen. mends.others r k (λ h. unseen (from r k h));
  }
