use Rattle.asg_live_cells.proofs.Common.{inl, rules, All-permutation, Contains-permutation, IsNonDecreasingBy-from_sort_by_key, IsEntryOf, IsUnder, Entry}
use Rattle.asg_live_cells.proofs.live_cells.in_order.Goals as goal

pub returns : goal.returns
returns c =
    let before = c.in_ok-entries.ensures in
    let moved = c.sort_unstable_by_key.ensures.permutation in
    record {
      each = All-permutation (IsEntryOf c.args.square.now) _ _ moved before.each;
      under = All-permutation (IsUnder c.args.limit) _ _ moved before.under;
      every = λ r d grade row column live under cell. Contains-permutation _ _ _ moved (before.every r d grade row column (inl row) live under cell);
      ascending = IsNonDecreasingBy-from_sort_by_key (λ (e : Entry). e.grade) _ c.sort_unstable_by_key.ensures.sorted (λ a r q k. search rules);
    }
