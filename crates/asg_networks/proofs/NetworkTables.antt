-- The table of a network.
use Rattle.asg_networks.proofs.Common.{◌≡◌, ℕ, ◌-◌, ◌*◌, ◌<◌, ◌≤◌, true, false, not, ◌≢◌, List, [], ◌∷◌, ◌++◌, map, length, get_or, ℤ, pos, IfSome, nat_eq, Some, None, All, filter, Option, sym, refl, ap, ◌∙◌, subst, arith, length-append, le-leb, All-append, All-cons, All-filter, All-nil, All-weaker, AllPairs-filter, AllPairs-from_IsDistinct, Decides-eqb, IsDistinct, and_from, get_or-map, get_or-range_with_len, is_member-Decides, is_member-filter, length-filter_both, length-le_from_is_member, length-map, length-range_with_len, map-append, nat_eq_equiv, range_with_len, problem_of, IsTable, table_cells, IsPartInRange, is_among, plain_cost, AreNodeIds, first_of, row_of, column_of, first_part, IsSlot, AreDistinct, range_is_distinct, same_cells, is_table}
use Rattle.std.proofs.Common.{eqb-true}
use Rattle.asg_model.specs.declared.parts.Cost.{Cost}
use Rattle.asg_tokens.specs.Readings.{table_of}
use Rattle.asg_networks.specs.AsnArcs.{targets, costs_between}
use Rattle.asg_networks.specs.Networks.{firsts_between}
use Rattle.asg_tokens.specs.laws.ReadCells.{slot_of_none, slot_in_range}
use Rattle.asg_tokens.specs.laws.TableInstances.{AreSlots}
use Rattle.asg_model.specs.declared.parts.Place.TheVariants.{All as PlaceAll}

-- a node that is no source is among the others
pub target_among : (sources : List ℕ) (nodes id : ℕ) → is_among sources id ≡ false → 1 ≤ id → id ≤ nodes → is_among (targets sources nodes) id ≡ true
unfolding targets
target_among sources nodes id none low high =
    let within : id - 1 < nodes = omega arith in
    let node : is_among (range_with_len 1 nodes) id ≡ true = (is_member-Decides Decides-eqb (range_with_len 1 nodes) id).1 (id - 1, omega (arith, length-range_with_len 1 nodes), omega (arith, get_or-range_with_len 1 nodes (id - 1) id within)) in
    is_member-filter nat_eq_equiv (λ id. not (is_among sources id)) id (λ x same. ap (λ id. not (is_among sources id)) (eqb-true id x same)) (range_with_len 1 nodes) ∙ and_from _ _ node (ap not none)

-- different sources among so many nodes
module _ (sources : List ℕ) (nodes : ℕ) (distinct : IsDistinct nat_eq sources) (in_range : All (λ id. (1 ≤ id) × (id ≤ nodes)) sources) where
  source_is_node : (q : ℕ) → is_among sources q ≡ true → is_among (range_with_len 1 nodes) q ≡ true
  source_is_node q among =
      let at = (is_member-Decides Decides-eqb sources q).0 among in
      let range = in_range at.0 q at.1 in
      let low : 1 ≤ q = subst (λ id. 1 ≤ id) at.2 range.0 in
      let high : q ≤ nodes = subst (λ id. id ≤ nodes) at.2 range.1 in
      let within : q - 1 < nodes = omega arith in
      (is_member-Decides Decides-eqb (range_with_len 1 nodes) q).1 (q - 1, omega (arith, length-range_with_len 1 nodes), omega (arith, get_or-range_with_len 1 nodes (q - 1) q within))

  -- the other nodes are no more than those that are left
  pub length-targets : length (targets sources nodes) ≤ nodes - length sources
  unfolding targets
  length-targets =
      let all = range_with_len 1 nodes in
      let both = length-filter_both (is_among sources) (λ id. not (is_among sources id)) (λ x. refl) all in
      let some : length sources ≤ length (filter (is_among sources) all) =
      length-le_from_is_member nat_eq_equiv sources (filter (is_among sources) all) distinct
      (λ q among. is_member-filter nat_eq_equiv (is_among sources) q (λ x same. ap (is_among sources) (eqb-true q x same)) all ∙ and_from _ _ (source_is_node q among) among) in
      omega (arith, both, length-range_with_len 1 nodes)

  pub sources_differ : AreDistinct sources
  sources_differ = AllPairs-from_IsDistinct Decides-eqb sources distinct

  pub targets_differ : AreDistinct (targets sources nodes)
  unfolding targets
  targets_differ =
      AllPairs-filter (λ x y. x ≢ y) (λ id. not (is_among sources id)) (range_with_len 1 nodes) (range_is_distinct nodes)

  -- both are ids of nodes
  pub sources_are_ids : AreNodeIds nodes sources
  sources_are_ids = record {
    differ = sources_differ;
    within = All-weaker (λ id. (1 ≤ id) × (id ≤ nodes)) (λ id. id ≤ nodes) (λ id h. h.1) sources in_range;
  }

  pub targets_are_ids : AreNodeIds nodes (targets sources nodes)
  unfolding targets
  targets_are_ids = record {
    differ = targets_differ;
    within =
        All-filter (λ id. not (is_among sources id)) (λ id. id ≤ nodes) (range_with_len 1 nodes)
        (λ k d within. omega (arith, length-range_with_len 1 nodes, get_or-range_with_len 1 nodes k d));
  }

-- costs in range
module _ (cost : ℕ → ℕ → Option ℤ) (in_range : (s t : ℕ) → IfSome (cost s t) IsPartInRange) where
  abbrev StandsByFirst : Option Cost → Type 0
  StandsByFirst c = IsSlot c (first_part c) (pos 0)

  plain_slot : (c : Option ℤ) → IfSome c IsPartInRange → StandsByFirst (plain_cost c)
  plain_slot None h = slot_of_none
  plain_slot (Some a) h = slot_in_range (record { a = a; b = pos 0 }) (and_from _ _ (le-leb _ _ h) refl)

  row_slots : (source : ℕ) (others : List ℕ) → All StandsByFirst (map (λ t. plain_cost (cost source t)) others)
  row_slots source [] = All-nil StandsByFirst
  row_slots source (t ∷ others) = All-cons StandsByFirst (plain_cost (cost source t)) (map (λ t. plain_cost (cost source t)) others) (plain_slot (cost source t) (in_range source t)) (row_slots source others)

  all_slots : (sources others : List ℕ) → All StandsByFirst (costs_between cost sources others)
  unfolding costs_between
  all_slots [] others = All-nil StandsByFirst
  all_slots (s ∷ sources) others = All-append StandsByFirst (map (λ t. plain_cost (cost s t)) others) (costs_between cost sources others) (row_slots s others) (all_slots sources others)

  row_firsts : (source : ℕ) (others : List ℕ) → map (λ t. first_of (cost source t)) others ≡ map first_part (map (λ t. plain_cost (cost source t)) others)
  row_firsts source [] = refl
  row_firsts source (t ∷ others) = ap (λ xs. first_of (cost source t) ∷ xs) (row_firsts source others)

  firsts_are : (sources others : List ℕ) → firsts_between cost sources others ≡ map first_part (costs_between cost sources others)
  unfolding costs_between firsts_between
  firsts_are [] others = refl
  firsts_are (s ∷ sources) others = (λ i. row_firsts s others i ++ firsts_are sources others i) ∙ sym (map-append first_part (map (λ t. plain_cost (cost s t)) others) (costs_between cost sources others))

  length-costs : (sources others : List ℕ) → length (costs_between cost sources others) ≡ length sources * length others
  unfolding costs_between
  length-costs [] others = omega arith
  length-costs (s ∷ sources) others =
      omega (arith, length-append (map (λ t. plain_cost (cost s t)) others) (costs_between cost sources others), length-map others (λ t. plain_cost (cost s t)), length-costs sources others)

  module _ (sources others : List ℕ) where
    length-firsts : length (firsts_between cost sources others) ≡ length (costs_between cost sources others)
    length-firsts = ap length (firsts_are sources others) ∙ length-map (costs_between cost sources others) first_part

    slots : AreSlots (costs_between cost sources others) (firsts_between cost sources others) []
    unfolding AreSlots
    slots k within =
        let there : k < length (costs_between cost sources others) = omega (arith, length-firsts) in
        let first : get_or (firsts_between cost sources others) k (pos 0) ≡ first_part (get_or (costs_between cost sources others) k None) = ap (λ xs. get_or xs k (pos 0)) (firsts_are sources others) ∙ get_or-map first_part (costs_between cost sources others) k None (pos 0) there in
        subst (λ a. IsSlot (get_or (costs_between cost sources others) k None) a (pos 0)) (sym first) (all_slots sources others k None there)

    pub whole_table : IsTable (length sources) (length others) (firsts_between cost sources others) []
    whole_table =
        is_table (length sources) (length others) (costs_between cost sources others) (firsts_between cost sources others) [] (length-firsts ∙ length-costs sources others) slots (All-nil IsPartInRange)

    pub table_same : table_of sources others (costs_between cost sources others) ≡ problem_of (map row_of sources) (map column_of others) (table_cells (length others) (firsts_between cost sources others) []) PlaceAll
    unfolding table_of
    table_same =
        ap (λ cells. problem_of (map row_of sources) (map column_of others) cells PlaceAll) (same_cells (length others) (costs_between cost sources others) (firsts_between cost sources others) [] (sym length-firsts) slots)
