-- A region after a phase was written into one of its free records.
use Rattle.asg_pool.proofs.Common.{◌≡◌, ℕ, suc, ◌+◌, ◌≤◌, ◌≢◌, List, [], ◌∷◌, ◌++◌, length, is_some, IfSome, IsSome, Some, None, Option, option_and_then, sym, refl, ap, ◌∙◌, subst, inl, inr, arith, cases_eq, option_map, phases_to, grown_on, Changes, Table, link_at, path, parent_at, depth_at, phase_at, branch_at, forest_of, IsRooted, AreRooted, AreRowsFor, IsRegion, Rows, row_at, with_row, Link, PhaseOf, phase_of, IsPhaseOver}
use Rattle.asg_pool.proofs.LinkLemmas.{with_row-same, with_row-other, length-with_row}
use Rattle.asg_pool.proofs.PathLemmas.{if_some, if_some_at, IsThere, closed}
use Rattle.asg_pool.proofs.ForestLemmas.{way_shown}
use Rattle.asg_pool.proofs.ChangeLemmas.{Stays, way_stays, IsRooted-stays, AreRooted-changed, trails_changed}

-- only a record that is there has a parent
there_of_parent : (slots : List (Option Link)) (j p : ℕ) → parent_at slots j ≡ Some p → IsThere slots j
there_of_parent slots j p e = by_link (link_at slots j) e
  where
    by_link : (o : Option Link) → option_and_then (λ link. link.parent) o ≡ Some p → IsSome o
    by_link None h = absurd (cc)
    by_link (Some link) h = refl

module _ {T : Type 0} (S after : Rows T) (k : ℕ) (row : List T) (place : k ≤ length S.rows) (written : after ≡ record S { rows = with_row S.rows k row }) where
  pub row_written : row_at after k ≡ row
  row_written = ap (λ R. row_at R k) written ∙ with_row-same S.rows k row [] place

  pub row_other : (j : ℕ) → j ≢ k → row_at after j ≡ row_at S j
  row_other j other = ap (λ R. row_at R j) written ∙ with_row-other S.rows k j row [] place other

  pub rows_written : (side : ℕ) (L M : Table) (link : Option Link) → M.room ≡ L.room → M.slots ≡ with_row L.slots k link → AreRowsFor side L S → AreRowsFor side M after
  rows_written side L M link room slots were =
      let long = length-with_row S.rows k row place in
      let longer = length-with_row L.slots k link (omega (arith, place, were.count)) in
      record {
        width = ap (λ R. R.width) written ∙ were.width;
        count = omega (arith, ap (λ R. length R.rows) written, ap length slots, long, longer, were.count);
        room = omega (arith, ap (λ R. R.room) written, room, were.room);
      }

module _ (L M : Table) (k : ℕ) (parent : Option ℕ) (depth : ℕ) (place : k ≤ length L.slots) (free : link_at L.slots k ≡ None)
    (written : M.slots ≡ with_row L.slots k (Some (record { parent = parent; depth = depth })))
    (rooted : AreRooted L.slots) (there : IfSome parent (IsThere L.slots)) (deep : depth ≡ depth_at L.slots parent + 1) where
  abbrev link : Link
  link = record { parent = parent; depth = depth }

  others : (j : ℕ) → j ≢ k → link_at M.slots j ≡ link_at L.slots j
  others j other = ap (λ xs. link_at xs j) written ∙ with_row-other L.slots k j (Some link) None place other

  here : link_at M.slots k ≡ Some link
  here = ap (λ xs. link_at xs k) written ∙ with_row-same L.slots k (Some link) None place

  not_free : (j : ℕ) → IsThere L.slots j → j ≢ k
  not_free j is same = absurd (let none = ap (link_at L.slots) same ∙ free in cc)

  leaf : (j : ℕ) → parent_at L.slots j ≢ Some k
  leaf j e = not_free k (closed L.slots rooted j k (there_of_parent L.slots j k e) e) refl

  module _ {V : Type 0} (side : ℕ) (phase phase_after : ℕ → PhaseOf V) (new : PhaseOf V)
      (phases : (j : ℕ) → j ≢ k → phase_after j ≡ phase j) (written_phase : phase_after k ≡ new) where
    parent_stays : IfSome parent (Stays L.slots M.slots phase phase_after k others phases rooted leaf)
    parent_stays =
        if_some (Stays L.slots M.slots phase phase_after k others phases rooted leaf) parent
        (λ p e. let is = if_some_at (IsThere L.slots) parent p there e in (is, not_free p is))

    pub AreRooted-pushed : AreRooted M.slots
    AreRooted-pushed =
        AreRooted-changed L.slots M.slots phase phase_after k others phases rooted leaf
        (subst (λ o. IfSome o (IsRooted M.slots)) (sym here) (IsRooted-stays L.slots M.slots phase phase_after k others phases rooted leaf link parent_stays deep))

    pub over_pushed : ((j : ℕ) → IsThere L.slots j → IsPhaseOver side (phase j)) → IsPhaseOver side new → (j : ℕ) → IsThere M.slots j → IsPhaseOver side (phase_after j)
    over_pushed were now j is =
        elim (cases_eq j k) [
          | inl same ↦ subst (IsPhaseOver side) (sym (ap phase_after same ∙ written_phase)) now
          | inr other ↦ subst (IsPhaseOver side) (sym (phases j other)) (were j (ap is_some (sym (others j other)) ∙ is))
        ]

    -- the new trail has the list of its parent and then the new phase
    pushed_branch : branch_at M.slots phase_after k ≡ Some (grown_on (forest_of side L phase) parent new)
    pushed_branch =
        let more : depth ≡ suc (depth_at L.slots parent) = omega (arith, deep) in
        let up : parent_at M.slots k ≡ parent = ap (option_and_then (λ l. l.parent)) here in
        let way : path M.slots phase_after (depth_at L.slots parent) parent ≡ phases_to (forest_of side L phase) parent =
        way_stays L.slots M.slots phase phase_after k others phases rooted leaf (depth_at L.slots parent) parent parent_stays
        ∙ sym (way_shown side L phase parent there) in
        let list : path M.slots phase_after depth (Some k) ≡ phases_to (forest_of side L phase) parent ++ new ∷ [] =
        ap (λ n. path M.slots phase_after n (Some k)) more
        ∙ ap (λ o. path M.slots phase_after (depth_at L.slots parent) o ++ phase_after k ∷ []) up
        ∙ ap (λ xs. xs ++ phase_after k ∷ []) way
        ∙ ap (λ x. phases_to (forest_of side L phase) parent ++ x ∷ []) written_phase in
        ap (option_map (λ l. record { parent = l.parent; phases = path M.slots phase_after l.depth (Some k) })) here
        ∙ ap (λ xs. Some (record { parent = parent; phases = xs })) list

    pub trails_pushed : Changes (forest_of side L phase) (forest_of side M phase_after) k (Some (grown_on (forest_of side L phase) parent new))
    trails_pushed =
        trails_changed L.slots M.slots phase phase_after k others phases rooted leaf side L M refl refl (Some (grown_on (forest_of side L phase) parent new)) pushed_branch

same_lists : {V : Type 0} (steps steps_new : List V) (enters enters_new leaves leaves_new : List ℕ) → steps ≡ steps_new → enters ≡ enters_new → leaves ≡ leaves_new
    → phase_of steps enters leaves ≡ phase_of steps_new enters_new leaves_new
same_lists steps steps_new enters enters_new leaves leaves_new a b c =
    ap (λ xs. phase_of xs enters leaves) a ∙ ap (λ xs. phase_of steps_new xs leaves) b ∙ ap (λ xs. phase_of steps_new enters_new xs) c

module _ {V : Type 0} (side : ℕ) (L M : Table) (k : ℕ) (parent : Option ℕ) (depth : ℕ) (place : k ≤ length L.slots) (free : link_at L.slots k ≡ None)
    (written : M.slots ≡ with_row L.slots k (Some (record { parent = parent; depth = depth })))
    (there : IfSome parent (IsThere L.slots)) (deep : depth ≡ depth_at L.slots parent + 1)
    (steps steps_after : Rows V) (enters enters_after leaves leaves_after : Rows ℕ) (new : PhaseOf V) (was : IsRegion side L steps enters leaves)
    (put_steps : steps_after ≡ record steps { rows = with_row steps.rows k new.steps })
    (put_enters : enters_after ≡ record enters { rows = with_row enters.rows k new.enters })
    (put_leaves : leaves_after ≡ record leaves { rows = with_row leaves.rows k new.leaves }) where
  in_steps : k ≤ length steps.rows
  in_steps = omega (arith, place, was.steps_rows.count)

  in_enters : k ≤ length enters.rows
  in_enters = omega (arith, place, was.enters_rows.count)

  in_leaves : k ≤ length leaves.rows
  in_leaves = omega (arith, place, was.leaves_rows.count)

  phases_stay : (j : ℕ) → j ≢ k → phase_at steps_after enters_after leaves_after j ≡ phase_at steps enters leaves j
  phases_stay j other =
      same_lists (row_at steps_after j) (row_at steps j) (row_at enters_after j) (row_at enters j) (row_at leaves_after j) (row_at leaves j)
      (row_other steps steps_after k new.steps in_steps put_steps j other)
      (row_other enters enters_after k new.enters in_enters put_enters j other)
      (row_other leaves leaves_after k new.leaves in_leaves put_leaves j other)

  phase_written : phase_at steps_after enters_after leaves_after k ≡ new
  phase_written =
      same_lists (row_at steps_after k) new.steps (row_at enters_after k) new.enters (row_at leaves_after k) new.leaves
      (row_written steps steps_after k new.steps in_steps put_steps)
      (row_written enters enters_after k new.enters in_enters put_enters)
      (row_written leaves leaves_after k new.leaves in_leaves put_leaves)

  pub IsRegion-pushed : M.room ≡ L.room → length M.slots ≤ M.room → IsPhaseOver side new → IsRegion side M steps_after enters_after leaves_after
  IsRegion-pushed room used over =
      let phase = phase_at steps enters leaves in
      let after = phase_at steps_after enters_after leaves_after in
      let link : Option Link = Some (record { parent = parent; depth = depth }) in
      record {
        rooted = AreRooted-pushed L M k parent depth place free written was.rooted there deep side phase after new phases_stay phase_written;
        over = over_pushed L M k parent depth place free written was.rooted there deep side phase after new phases_stay phase_written was.over over;
        steps_rows = rows_written steps steps_after k new.steps in_steps put_steps side L M link room written was.steps_rows;
        enters_rows = rows_written enters enters_after k new.enters in_enters put_enters side L M link room written was.enters_rows;
        leaves_rows = rows_written leaves leaves_after k new.leaves in_leaves put_leaves side L M link room written was.leaves_rows;
        used = used;
        most = omega (arith, room, was.most);
      }

  pub trails_after : Changes (forest_of side L (phase_at steps enters leaves)) (forest_of side M (phase_at steps_after enters_after leaves_after)) k
      (Some (grown_on (forest_of side L (phase_at steps enters leaves)) parent new))
  trails_after =
      trails_pushed L M k parent depth place free written was.rooted there deep side (phase_at steps enters leaves) (phase_at steps_after enters_after leaves_after) new phases_stay phase_written
