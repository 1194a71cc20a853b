-- Marks of more cells and of fewer.
use Rattle.asg_live_cells.proofs.Common.{◌≡◌, ℕ, ◌+◌, ◌<◌, ◌≤◌, true, false, ◌⊎◌, List, sym, refl, ap, ◌∙◌, subst, inl, inr, ⊎_elim, arith, cases_lt, BitTable, PutsBit, entry_at, IsNamed, MarksMore, MarksFewer, Entry}
use Rattle.asg_live_cells.specs.laws.Puts.{put_more, put_fewer}

-- the cells that are named up to the next place
named_kept : (entries : List Entry) (from to r c : ℕ) → IsNamed entries from to r c → IsNamed entries from (to + 1) r c
named_kept entries from to r c n = record { place = n.place; after = n.after; before = let high = n.before in omega (arith, high); row = n.row; column = n.column }

named_next : (entries : List Entry) (from to : ℕ) → from ≤ to → IsNamed entries from (to + 1) (entry_at entries to).row (entry_at entries to).column
named_next entries from to h = record { place = to; after = h; before = omega arith; row = refl; column = refl }

named_cases : (entries : List Entry) (from to r c : ℕ) → IsNamed entries from (to + 1) r c → IsNamed entries from to r c ⊎ ((r ≡ (entry_at entries to).row) × (c ≡ (entry_at entries to).column))
named_cases entries from to r c n =
    ⊎_elim
    (λ (less : n.place < to). inl (record { place = n.place; after = n.after; before = less; row = n.row; column = n.column }))
    (λ (more : to ≤ n.place).
    let high = n.before in
    let same : n.place ≡ to = omega (arith, more, high) in
    inr (sym n.row ∙ ap (λ k. (entry_at entries k).row) same, sym n.column ∙ ap (λ k. (entry_at entries k).column) same))
    (cases_lt n.place to)

pub more_next : (B M after : BitTable) (entries : List Entry) (from to : ℕ) → from ≤ to → MarksMore B M entries from to → PutsBit M after (entry_at entries to).row (entry_at entries to).column true → MarksMore B after entries from (to + 1)
more_next B M after entries from to h more p r c =
    let put = put_more M after (entry_at entries to).row (entry_at entries to).column p r c in (
      λ marked.
          ⊎_elim
          (λ had. ⊎_elim (λ before. inl before) (λ n. inr (named_kept entries from to r c n)) ((more r c).0 had))
          (λ here. inr (subst (λ s. IsNamed entries from (to + 1) s c) (sym here.0) (subst (λ d. IsNamed entries from (to + 1) (entry_at entries to).row d) (sym here.1) (named_next entries from to h))))
          (put.0 marked),
      λ either.
          ⊎_elim
          (λ before. put.1 (inl ((more r c).1 (inl before))))
          (λ n. ⊎_elim (λ old. put.1 (inl ((more r c).1 (inr old)))) (λ here. put.1 (inr here)) (named_cases entries from to r c n))
          either,
    )

pub fewer_next : (B M after : BitTable) (entries : List Entry) (from to : ℕ) → from ≤ to → MarksFewer B M entries from to → PutsBit M after (entry_at entries to).row (entry_at entries to).column false → MarksFewer B after entries from (to + 1)
fewer_next B M after entries from to h fewer p r c =
    let put = put_fewer M after (entry_at entries to).row (entry_at entries to).column p r c in (
      λ marked.
          let had = put.0 marked in
          let before = (fewer r c).0 had.0 in
          (before.0, λ n. ⊎_elim before.1 (λ here. had.1 here.0 here.1) (named_cases entries from to r c n)),
      λ both.
          put.1 (
            (fewer r c).1 (both.0, λ n. both.1 (named_kept entries from to r c n)),
            λ row column. both.1 (subst (λ s. IsNamed entries from (to + 1) s c) (sym row) (subst (λ d. IsNamed entries from (to + 1) (entry_at entries to).row d) (sym column) (named_next entries from to h))),
          ),
    )
