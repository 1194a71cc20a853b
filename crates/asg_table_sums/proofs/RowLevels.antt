-- Rows that choose their least cells, or none.
use Rattle.asg_table_sums.proofs.Common.{◌≡◌, ℕ, List, slice_get, Some, None, Option, sym, ◌∙◌, subst, same_Some, Problem, Chooses, Objective, IsLeastCell, IsUnder, IsOver, IsRowLevel}

none_and_some : (c : ℕ) → None ≡ Some c → ⊥
none_and_some c e = cc

module _ (objective : Objective) (X : Problem) (f : List (Option ℕ)) (rises : List ℕ) (level r : ℕ) where
  -- a row that chooses a column
  pub level_chosen : (column : ℕ) → Chooses f r column → IsLeastCell objective X rises r column → IsUnder objective X rises level r column → IsRowLevel objective X f rises level r
  level_chosen column at least under = record {
    least = λ d chooses. subst (IsLeastCell objective X rises r) (same d chooses) least;
    under = λ d chooses. subst (IsUnder objective X rises level r) (same d chooses) under;
    over = λ out. absurd (none_and_some column (same_Some _ _ (sym out ∙ at)));
  }
    where
      same : (d : ℕ) → Chooses f r d → column ≡ d
      same d chooses = same_Some _ _ (same_Some _ _ (sym at ∙ chooses))

  -- a row that chooses none
  pub level_out : slice_get f r ≡ Some None → IsOver objective X rises level r → IsRowLevel objective X f rises level r
  level_out out over = record {
    least = λ d chooses. absurd (none_and_some d (same_Some _ _ (sym out ∙ chooses)));
    under = λ d chooses. absurd (none_and_some d (same_Some _ _ (sym out ∙ chooses)));
    over = λ _. over;
  }
