-- Sets of nodes.
use Rattle.asg_networks.proofs.Common.{◌≡◌, ℕ, ◌<◌, ◌≤◌, true, false, cond, not, List, [], length, get_or, replicate, nat_lt, filter, nat_cmp, ap, ◌∙◌, ⊎_elim, arith, cases_lt, contains, get_or-replicate, get_or_past, length-replicate, range_with_len, is_among, has, NodeSet}
use Rattle.asg_networks.specs.AsnArcs.{targets}

none_low : (n id : ℕ) → get_or (replicate n false) id false ≡ false
none_low n id =
    ⊎_elim
    (λ (within : id < n). get_or-replicate n id false false within)
    (λ (past : n ≤ id). get_or_past (replicate n false) id false (omega (arith, length-replicate n false)))
    (cases_lt id n)

-- before the first id
pub has_none : (set : NodeSet) (n id : ℕ) → set.low.items ≡ replicate n false → set.high.keys ≡ [] → has set id ≡ false
has_none set n id low high =
    let in_low : get_or set.low.items id false ≡ false = ap (λ xs. get_or xs id false) low ∙ none_low n id in
    let in_high : contains nat_cmp set.high id ≡ false = cc in
    elim (nat_lt id (length set.low.items)) as (λ v. cond v (get_or set.low.items id false) (contains nat_cmp set.high id) ≡ false) [ true ↦ in_low | false ↦ in_high ]

-- the nodes that are no sources, by a set of the sources
pub others_are : (set : NodeSet) (ids : List ℕ) (nodes : ℕ) → ((id : ℕ) → has set id ≡ is_among ids id) → filter (λ id. not (has set id)) (range_with_len 1 nodes) ≡ targets ids nodes
unfolding targets
others_are set ids nodes told = λ i. filter (λ id. not (told id i)) (range_with_len 1 nodes)
