-- A tree that grows step after step.
use Rattle.asg_match.proofs.Common.{◌≡◌, ℕ, ◌<◌, ◌⊎◌, List, length, get_or, is_some, Option, sym, ap, ◌∙◌, subst, ⊎_elim, arith, HasParent, IsReached, parents_in, IsGrown, IsSearch, Extends, Some-from_test}
use Rattle.asg_match.specs.declared.alternating_tree.Branches.{Branches}

pub Extends-join : (first second third : Branches) → Extends first second → Extends second third → Extends first third
Extends-join first second third e f =
    record {
      rows = λ k h. f.rows k (omega (arith, e.longer)) ∙ e.rows k h;
      longer = omega (arith, e.longer, f.longer);
      parents = λ c p h. f.parents c p (e.parents c p h);
      room = f.room ∙ e.room;
      side = f.side ∙ e.side;
      words = f.words ∙ e.words;
    }

-- a column that was reached stays reached
pub IsReached-later : (before after : Branches) → Extends before after → (c : ℕ) → IsReached (parents_in before) c → IsReached (parents_in after) c
IsReached-later before after e c reached =
    let from = Some-from_test (parents_in before c) reached in
    ap (is_some {T = ℕ}) (e.parents c from.0 from.1)

-- a search goes on where the only new parent is by an allowed cell
pub IsSearch-more : (allows : ℕ → ℕ → Type 0) (matching : List (Option ℕ)) (before after : Branches) (place column : ℕ) → IsSearch allows matching before → allows (get_or before.rows.items place 0) column → IsGrown matching after → Extends before after → ((c p : ℕ) → HasParent (parents_in after) c p → HasParent (parents_in before) c p ⊎ ((c ≡ column) × (p ≡ place))) → place < length before.rows.items → IsSearch allows matching after
IsSearch-more allows matching before after place column search cell grown extends only within =
    record {
      tree_grown = grown;
      cells = λ c p e.
          ⊎_elim
          (λ old.
          let f = search.tree_grown.grown.followed c p old in
          let there : p < length before.rows.items = omega (arith, f.later, f.within) in
          subst (λ r. allows r c) (sym (extends.rows p there)) (search.cells c p old))
          (λ new.
          let same = extends.rows place within in
          subst (λ q. allows (get_or after.rows.items q 0) c) (sym new.1)
          (subst (λ d. allows (get_or after.rows.items place 0) d) (sym new.0)
          (subst (λ r. allows r column) (sym same) cell)))
          (only c p e);
    }
