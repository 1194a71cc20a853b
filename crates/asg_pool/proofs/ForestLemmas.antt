-- What a region's table shows of its trails.
use Rattle.asg_pool.proofs.Common.{◌≡◌, ℕ, ◌-◌, [], ◌∷◌, ◌++◌, map, length, get_or, is_some, IfSome, Some, None, Option, option_and_then, unwrap_or, sym, refl, ap, ◌∙◌, subst, inl, inr, arith, length-append, cases_lt, get_or-append_seam, get_or-map-range_with_len, get_or_past, length-map-range_with_len, range_with_len, option_map, Branch, Forest, trail_at, IsLive, parent_of, phases_of, phases_to, last_phase, IsGrown, IsForest, Table, link_at, path, parent_at, depth_at, branch_at, forest_of, AreRooted, Link, PhaseOf, phase_of, IsPhaseOver}
use Rattle.asg_pool.proofs.PathLemmas.{some_of, some_there, if_some, if_some_at, depth_is, IsThere, closed, parent_there, path_more, path_length}

module _ {V : Type 0} (side : ℕ) (L : Table) (phase : ℕ → PhaseOf V) where
  abbrev shown : Forest V
  shown = forest_of side L phase

  -- the trail of each number is that of its record
  pub trail_shown : (k : ℕ) → trail_at shown k ≡ branch_at L.slots phase k
  trail_shown k =
      elim (cases_lt k (length L.slots)) [
        | inl below ↦ get_or-map-range_with_len (branch_at L.slots phase) 0 (length L.slots) k k None below (omega arith)
        | inr past ↦
            get_or_past (map (branch_at L.slots phase) (range_with_len 0 (length L.slots))) k None (omega (arith, length-map-range_with_len (branch_at L.slots phase) 0 (length L.slots)))
            ∙ ap (option_map (λ link. record { parent = link.parent; phases = path L.slots phase link.depth (Some k) })) (sym (get_or_past L.slots k None past))
      ]

  map_there : {X Y : Type 0} (f : X → Y) (o : Option X) → is_some (option_map f o) ≡ is_some o
  map_there f None = refl
  map_there f (Some x) = refl

  same_there : (k : ℕ) → is_some (trail_at shown k) ≡ is_some (link_at L.slots k)
  same_there k = ap is_some (trail_shown k) ∙ map_there (λ link. record { parent = link.parent; phases = path L.slots phase link.depth (Some k) }) (link_at L.slots k)

  -- a trail is live where its record is there
  pub there_of_live : (k : ℕ) → IsLive shown k → IsThere L.slots k
  there_of_live k live = sym (same_there k) ∙ live

  pub live_of_there : (k : ℕ) → IsThere L.slots k → IsLive shown k
  live_of_there k there = same_there k ∙ there

  pub branch_shown : (k : ℕ) (link : Link) → link_at L.slots k ≡ Some link → trail_at shown k ≡ Some (record { parent = link.parent; phases = path L.slots phase link.depth (Some k) })
  branch_shown k link e = trail_shown k ∙ ap (option_map (λ l. record { parent = l.parent; phases = path L.slots phase l.depth (Some k) })) e

  pub parent_shown : (k : ℕ) → parent_of shown k ≡ parent_at L.slots k
  parent_shown k = ap (option_and_then (λ b. b.parent)) (trail_shown k) ∙ through (link_at L.slots k)
    where
      through : (o : Option Link) → option_and_then (λ (b : Branch V). b.parent) (option_map (λ link. record { parent = link.parent; phases = path L.slots phase link.depth (Some k) }) o) ≡ option_and_then (λ link. link.parent) o
      through None = refl
      through (Some link) = refl

  pub phases_shown : (k : ℕ) → IsThere L.slots k → phases_of shown k ≡ path L.slots phase (depth_at L.slots (Some k)) (Some k)
  phases_shown k there =
      let has = some_of (link_at L.slots k) there in
      ap (λ (o : Option (Branch V)). unwrap_or (option_map (λ b. b.phases) o) []) (branch_shown k has.0 has.1)
      ∙ ap (λ n. path L.slots phase n (Some k)) (sym (depth_is L.slots k has.0 has.1))

  -- the list up to a trail is the way to its record
  pub way_shown : (trail : Option ℕ) → IfSome trail (IsThere L.slots) → phases_to shown trail ≡ path L.slots phase (depth_at L.slots trail) trail
  way_shown None there = refl
  way_shown (Some k) there = phases_shown k there

  module _ (rooted : AreRooted L.slots) where
    -- a trail's list ends with its record's phase
    pub list_shown : (k : ℕ) → IsThere L.slots k → phases_of shown k ≡ phases_to shown (parent_at L.slots k) ++ phase k ∷ []
    list_shown k there =
        phases_shown k there ∙ path_more L.slots phase rooted k there
        ∙ ap (λ xs. xs ++ phase k ∷ []) (sym (way_shown (parent_at L.slots k) (parent_there L.slots rooted k there)))

    pub last_shown : (k : ℕ) → IsThere L.slots k → last_phase (phases_of shown k) ≡ phase k
    last_shown k there =
        let before = phases_to shown (parent_at L.slots k) in
        let end : length (before ++ phase k ∷ []) - 1 ≡ length before = omega (arith, length-append before (phase k ∷ [])) in
        ap last_phase (list_shown k there)
        ∙ ap (λ n. get_or (before ++ phase k ∷ []) n (phase_of [] [] [])) end
        ∙ get_or-append_seam before (phase k) [] (phase_of [] [] [])

    pub length_shown : (k : ℕ) (link : Link) → link_at L.slots k ≡ Some link → link.depth ≡ length (phases_of shown k)
    length_shown k link e =
        let there = some_there (link_at L.slots k) link e in
        sym (ap length (phases_shown k there) ∙ path_length L.slots phase rooted (depth_at L.slots (Some k)) (Some k) there refl ∙ depth_is L.slots k link e)

    -- what the table shows is a forest
    pub forest_shown : ((k : ℕ) → IsThere L.slots k → IsPhaseOver side (phase k)) → IsForest shown
    forest_shown over t =
        if_some (IsGrown shown) (trail_at shown t)
        (λ branch e.
        let there = there_of_live t (some_there (trail_at shown t) branch e) in
        let parent : branch.parent ≡ parent_at L.slots t = sym (ap (option_and_then (λ b. b.parent)) e) ∙ parent_shown t in
        let list : branch.phases ≡ phases_of shown t = sym (ap (λ (o : Option (Branch V)). unwrap_or (option_map (λ b. b.phases) o) []) e) in
        record {
          phase = phase t;
          over = over t there;
          parent = subst (λ o. IfSome o (IsLive shown)) (sym parent) (if_some (IsLive shown) (parent_at L.slots t) (λ p h. live_of_there p (closed L.slots rooted t p there h)));
          list = list ∙ list_shown t there ∙ ap (λ o. phases_to shown o ++ phase t ∷ []) (sym parent);
        })

-- a live trail of the forest that a table shows has its record there
pub there_in : {V : Type 0} (side : ℕ) (L : Table) (phase : ℕ → PhaseOf V) (F : Forest V) (trail k : ℕ) → forest_of side L phase ≡ F → IsLive F trail → k ≡ trail → IsThere L.slots k
there_in side L phase F trail k shows live same =
    subst (IsThere L.slots) (sym same) (there_of_live side L phase trail (subst (λ G. IsLive G trail) (sym shows) live))

-- the same of a trail, if there is one
pub way_there : {V : Type 0} (side : ℕ) (L : Table) (phase : ℕ → PhaseOf V) (F : Forest V) (trail k : Option ℕ) → forest_of side L phase ≡ F → IfSome trail (IsLive F) → k ≡ trail → IfSome k (IsThere L.slots)
way_there side L phase F trail k shows live same =
    if_some (IsThere L.slots) k (λ n e. there_in side L phase F n n shows (if_some_at (IsLive F) trail n live (sym same ∙ e)) refl)

-- how many phases lead to a trail, by what the table shows
pub depth_shown : {V : Type 0} (side : ℕ) (L : Table) (phase : ℕ → PhaseOf V) → AreRooted L.slots → (trail : Option ℕ) → IfSome trail (IsThere L.slots)
    → length (phases_to (forest_of side L phase) trail) ≡ depth_at L.slots trail
depth_shown side L phase rooted trail there = ap length (way_shown side L phase trail there) ∙ path_length L.slots phase rooted (depth_at L.slots trail) trail there refl
