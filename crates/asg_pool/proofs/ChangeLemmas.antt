-- A table before and after one of its records changed.
use Rattle.asg_pool.proofs.Common.{◌≡◌, ℕ, ◌+◌, ◌≢◌, List, is_some, IfSome, Some, None, Option, unwrap_or, sym, refl, ap, ◌∙◌, subst, inl, inr, cases_eq, option_map, Branch, Forest, trail_at, Changes, Table, link_at, path, parent_at, depth_at, branch_at, forest_of, IsRooted, AreRooted, Link, PhaseOf}
use Rattle.asg_pool.proofs.PathLemmas.{some_there, if_some, if_some_at, parent_is, IsThere, rooted_at, closed, path_same}
use Rattle.asg_pool.proofs.ForestLemmas.{trail_shown}

-- the same change, of equal forests and trails
pub Changes-at : {V : Type 0} {F G after : Forest V} {k t : ℕ} {branch other : Option (Branch V)} → Changes F after k branch → F ≡ G → k ≡ t → branch ≡ other → Changes G after t other
Changes-at {V} {F} {G} {after} {k} {t} {branch} {other} changes same at is =
    subst (λ b. Changes G after t b) is (subst (λ n. Changes G after n branch) at (subst (λ H. Changes H after k branch) same changes))

module _ {V : Type 0} (slots after : List (Option Link)) (phase phase_after : ℕ → PhaseOf V) (k : ℕ)
    (others : (j : ℕ) → j ≢ k → link_at after j ≡ link_at slots j) (phases : (j : ℕ) → j ≢ k → phase_after j ≡ phase j)
    (rooted : AreRooted slots) (leaf : (j : ℕ) → parent_at slots j ≢ Some k) where
  -- a record that was there and isn't the changed one
  abbrev pub Stays : ℕ → Type 0
  Stays j = IsThere slots j × (j ≢ k)

  parent_stays : (j p : ℕ) → IsThere slots j → parent_at slots j ≡ Some p → Stays p
  parent_stays j p there e = (closed slots rooted j p there e, λ same. leaf j (e ∙ ap Some same))

  -- the way to a record that stays
  pub way_stays : (n : ℕ) (trail : Option ℕ) → IfSome trail Stays → path after phase_after n trail ≡ path slots phase n trail
  way_stays =
      path_same slots after phase phase_after Stays (λ j stays. others j stays.1) (λ j stays. phases j stays.1)
      (λ j p stays e. parent_stays j p stays.0 e)

  -- every other trail is as it was
  pub branch_stays : (t : ℕ) → t ≢ k → branch_at after phase_after t ≡ branch_at slots phase t
  branch_stays t other = by_link (link_at slots t) refl (others t other)
    where
      by_link : (o : Option Link) → link_at slots t ≡ o → link_at after t ≡ link_at slots t → branch_at after phase_after t ≡ branch_at slots phase t
      by_link None e same =
          ap (option_map (λ link. record { parent = link.parent; phases = path after phase_after link.depth (Some t) })) (same ∙ e)
          ∙ sym (ap (option_map (λ link. record { parent = link.parent; phases = path slots phase link.depth (Some t) })) e)
      by_link (Some link) e same =
          ap (option_map (λ l. record { parent = l.parent; phases = path after phase_after l.depth (Some t) })) (same ∙ e)
          ∙ ap (λ xs. Some (record { parent = link.parent; phases = xs })) (way_stays link.depth (Some t) (some_there (link_at slots t) link e, other))
          ∙ sym (ap (option_map (λ l. record { parent = l.parent; phases = path slots phase l.depth (Some t) })) e)

  pub depth_stays : (trail : Option ℕ) → IfSome trail Stays → depth_at after trail ≡ depth_at slots trail
  depth_stays None stays = refl
  depth_stays (Some p) stays = ap (λ o. unwrap_or (option_map (λ link. link.depth) o) 0) (others p stays.1)

  pub there_stays : (p : ℕ) → Stays p → IsThere after p
  there_stays p stays = ap is_some (others p stays.1) ∙ stays.0

  -- a link on a record that stays is rooted as before
  pub IsRooted-stays : (link : Link) → IfSome link.parent Stays → link.depth ≡ depth_at slots link.parent + 1 → IsRooted after link
  IsRooted-stays link stays deep =
      record {
        parent = if_some (IsThere after) link.parent (λ p e. there_stays p (if_some_at Stays link.parent p stays e));
        depth = deep ∙ ap (λ n. n + 1) (sym (depth_stays link.parent stays));
      }

  -- all records are rooted where the changed one is
  pub AreRooted-changed : IfSome (link_at after k) (IsRooted after) → AreRooted after
  AreRooted-changed changed j =
      elim (cases_eq j k) [
        | inl same ↦ subst (λ i. IfSome (link_at after i) (IsRooted after)) (sym same) changed
        | inr other ↦
            if_some (IsRooted after) (link_at after j)
            (λ link e.
            let was : link_at slots j ≡ Some link = sym (others j other) ∙ e in
            let there = some_there (link_at slots j) link was in
            IsRooted-stays link (if_some Stays link.parent (λ p h. parent_stays j p there (parent_is slots j link was ∙ h))) (rooted_at slots rooted j link was).depth)
      ]

  -- the trails after are those before, but for the changed one
  pub trails_changed : (side : ℕ) (L M : Table) → L.slots ≡ slots → M.slots ≡ after → (branch : Option (Branch V)) → branch_at after phase_after k ≡ branch
      → Changes (forest_of side L phase) (forest_of side M phase_after) k branch
  trails_changed side L M was is branch here =
      let before : (t : ℕ) → trail_at (forest_of side L phase) t ≡ branch_at slots phase t = λ t. trail_shown side L phase t ∙ ap (λ xs. branch_at xs phase t) was in
      let now : (t : ℕ) → trail_at (forest_of side M phase_after) t ≡ branch_at after phase_after t = λ t. trail_shown side M phase_after t ∙ ap (λ xs. branch_at xs phase_after t) is in
      record {
        changed = now k ∙ here;
        others = λ t other. now t ∙ branch_stays t other ∙ sym (before t);
      }
