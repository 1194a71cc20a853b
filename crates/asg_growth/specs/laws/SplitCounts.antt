-- How many rows and columns a tree splits off.
use Rattle.std.proofs.Common.{◌≡◌, ◌↔◌, ℕ, ◌+◌, ◌<◌, Bool, not, List, length, Option, None, get_or, is_some, refl, sym, ◌∙◌, ap, subst, arith, ⊎_elim}
use Rattle.std.specs.Prelude.{Contains}
use Rattle.std.proofs.lemmas.Bool.{cases_lt, not-true, not_from_false}
use Rattle.std.proofs.lemmas.List.{get_or_default}
use Rattle.std.proofs.lemmas.List.Elements.{All-contains, Contains-get_or}
use Rattle.std.proofs.lemmas.Option.{none-some}
use Rattle.asg_match.specs.laws.Deficiency.{IsStuck-from_tree}
use Rattle.asg_match.specs.laws.Matchings.{Matches-same, Some-from_test}
use Rattle.asg_match.specs.Augmentation.{IsStuck}
use Rattle.asg_match.specs.Matching.{column_at, Matches, IsMatching}
use Rattle.asg_match.specs.Alternating.{HasParent, IsReached, IsTree}
use Rattle.asg_proof.specs.Steps.{count_below}
use Rattle.asg_proof.specs.laws.CountsBelow.{count_below-list, count_below-not}
use Rattle.asg_growth.specs.Growing.{IsSplit}

module _ (m : List (Option ℕ)) (rows : List ℕ) (parents : ℕ → Option ℕ) (matching : IsMatching m) (tree : IsTree m rows parents) where
  -- the cell that a column was reached by
  abbrev reaches : ℕ → ℕ → Type 0
  reaches r k = (p : ℕ) × (p < length rows) × (get_or rows p 0 ≡ r) × HasParent parents k p

  stuck : IsStuck reaches m (get_or rows 0 0) rows
  stuck = IsStuck-from_tree m rows parents reaches matching tree
      (λ c p e. let f = tree.followed c p e in let h : p < length rows = omega (arith, f.later, f.within) in (p, h, refl, e))
      (λ k h c w. ap (is_some {T = ℕ}) w.3)

  -- a matched row is one of the tree's exactly where its column was reached
  pub matched_both : (r k : ℕ) → Matches m r k → Contains rows r ↔ IsReached parents k
  matched_both r k has = (
    λ in_tree.
        let at = get_or_default rows in_tree.0 0 r in_tree.1 ∙ in_tree.2 in
        let here = subst (λ s. Matches m s k) (sym at) has in
        ⊎_elim
        (λ later.
        let j = tree.joined in_tree.0 later in_tree.1 in
        let same = Matches-same m (get_or rows in_tree.0 0) j.column k j.has here in
        ap (is_some {T = ℕ}) (subst (λ d. HasParent parents d j.parent) same j.reached))
        (λ first.
        let at_root : 0 ≡ in_tree.0 = omega arith in
        absurd (none-some k (sym (subst (λ i. column_at m (get_or rows i 0) ≡ None) at_root tree.root_free) ∙ here)))
        (cases_lt 0 in_tree.0),
    λ reached.
        let from = Some-from_test (parents k) reached in
        let f = tree.followed k from.0 from.1 in
        subst (Contains rows) (matching.apart (get_or rows f.place 0) r k f.has has) (Contains-get_or rows f.place 0 f.within),
  )

  module _ (side : ℕ) (entered staying : ℕ → Bool) (matching_side : length m ≡ side) (split : IsSplit side rows parents entered staying) where
    rows_counted : count_below entered side ≡ length rows
    rows_counted =
        count_below-list entered side rows tree.apart
        (λ q has.
        let below : q < side = subst (λ n. q < n) matching_side (All-contains (λ r. r < length m) rows q tree.below has) in
        (below, (split.rows_are q below).1 has))
        (λ q below passes. (split.rows_are q below).0 passes)

    left_counted : count_below (λ k. not (staying k)) side + 1 ≡ length rows
    left_counted =
        let columns = stuck.count.0 in
        let same = count_below-list (λ k. not (staying k)) side columns stuck.count.1.apart
        (λ q has.
        let w = (stuck.count.1.exact q).0 has in
        let f = tree.followed q w.2.0 w.2.3 in
        let below : q < side = subst (λ n. q < n) matching_side (matching.below (get_or rows f.place 0) q f.has) in
        (below, not_from_false (staying q) ((split.columns_are q below).1 (ap (is_some {T = ℕ}) w.2.3))))
        (λ q below passes.
        let from = Some-from_test (parents q) ((split.columns_are q below).0 (not-true (staying q) passes)) in
        let f = tree.followed q from.0 from.1 in
        let h : from.0 < length rows = omega (arith, f.later, f.within) in
        (stuck.count.1.exact q).1 (get_or rows from.0 0, Contains-get_or rows from.0 0 h, (from.0, h, refl, from.1))) in
        omega (arith, same, stuck.count.2)

    -- the rows of the tree and the columns that it didn't reach are one more than the side
    pub split_count : count_below entered side + count_below staying side ≡ side + 1
    split_count = omega (arith, rows_counted, left_counted, count_below-not staying side)
