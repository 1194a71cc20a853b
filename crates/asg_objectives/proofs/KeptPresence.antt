-- Squares with the same labels and present cells.
use Rattle.asg_objectives.proofs.Common.{◌≡◌, ℕ, ◌<◌, List, map, slice_index, slice_index_or, None, Option, sym, ◌∙◌, subst, range_with_len, KeepsPresence, HasLabelsOf-kept, IsPerfect, Problem, IsChoiceBy, IsBestBy, Word, PhaseOf, Outcome, Best, Nothing, IsPresent, Grid, cell_at, IsWithinSquareOf, IsPerm, grid_choice}
use Rattle.std.specs.Option.{option_and_then}

module _ {V : Type 0} (before after : Grid V) (kept : KeepsPresence before after) where
  -- a perfect assignment by present cells is one of the other
  pub IsPerfect-kept : (matching : List (Option ℕ)) → IsPerfect (IsPresent (cell_at before)) before.side matching → IsPerfect (IsPresent (cell_at after)) after.side matching
  IsPerfect-kept matching perfect = subst (λ n. IsPerfect (IsPresent (cell_at after)) n matching) (sym kept.labels.side) (record {
    rows = perfect.rows;
    columns = perfect.columns;
    all = perfect.all;
    cells = λ r k has. kept.present r k ∙ perfect.cells r k has;
  })

  IsPerm-kept : (p : List ℕ) → IsPerm after p → IsPerm before p
  IsPerm-kept p perm = record {
    over = perm.over ∙ kept.labels.side;
    apart = perm.apart;
    present = λ r h. sym (kept.present r (slice_index p r)) ∙ perm.present r (subst (λ n. r < n) (sym kept.labels.side) h);
  }

  within_kept : (X : Problem) → IsWithinSquareOf X before → IsWithinSquareOf X after
  within_kept X within = record {
    labels = HasLabelsOf-kept X before after kept.labels within.labels;
    cells = λ r k some. within.cells r k (sym (kept.present r k) ∙ some);
  }

  -- the choice of an assignment is that of the other
  choice_kept : (p : List ℕ) → grid_choice after p ≡ grid_choice before p
  choice_kept p = λ i. map (λ r. option_and_then (λ _. slice_index_or (kept.labels.column_labels i) (slice_index p r) None) (slice_index_or (kept.labels.row_labels i) r None)) (range_with_len 0 (kept.labels.rows i))

  -- what is the best choice by one is so by the other
  pub IsBestBy-kept : (matching : List (Option ℕ)) (words : List (PhaseOf Word)) (outcome : Outcome) → IsBestBy after matching words outcome → IsBestBy before matching words outcome
  IsBestBy-kept matching words (Nothing rows) by = absurd by
  IsBestBy-kept matching words (Best choice proof) by = (chosen, by.1)
    where
      chosen : IsChoiceBy before matching choice
      chosen = record {
        columns = by.0.columns;
        over = by.0.over;
        matched = by.0.matched;
        perm = IsPerm-kept by.0.columns by.0.perm;
        chosen = by.0.chosen ∙ choice_kept by.0.columns;
        valid = λ X instance within. by.0.valid X instance (within_kept X within);
      }
