-- A child that was grown on its parent's square, of which bits tell the cells that are kept.
use Rattle.asg_branching.proofs.Common.{◌≡◌, ℕ, ◌<◌, ◌≤◌, Bool, true, false, cond, ◌≢◌, List, [], ◌∷◌, IsSome, Some, None, Option, sym, refl, ap, ◌∙◌, subst, ⊎_elim, arith, cases_eq, cases_lt, Reduced, IsBranch, IsLed, stage_of, IsAbsorbed, masked_reduced, IsMatched, Problem, square_side, Rules, Leads, IsSolved, IsReducedTo, reduced_cell, Pushes, pushes, Monoid, IsOrderedMonoid, IsLe, fold_of, le_product, neutral_right, Forest, phases_to, PhaseOf, phase_of, IsAdmittedPhase, AreAdmittedPhases, after_phase, after_phases, index_of, after_phases-append, AreAdmittedPhases-append, index_of-append, HasSide-phases, steps_value, index_is_value, child, masked, keeps_cell, after_phases-child, square_cell, cell_at, keeps, masked_grid, cell_at-masked}
use Rattle.asg_algebra.specs.Served.{made_of}
use Rattle.asg_proof.specs.laws.Squares.{HasSide-square_cell}

none_kept : {V : Type 0} (b d : Bool) (o : Option V) → o ≡ None → cond b o None ≡ cond d o None
none_kept b d o e = both b o e ∙ sym (both d o e)
  where
    both : {V : Type 0} (b : Bool) (o : Option V) → o ≡ None → cond b o None ≡ None
    both true o e = e
    both false o e = refl

none_outside : {V : Type 0} (o : Option V) → (IsSome o → ⊥) → o ≡ None
none_outside None not = refl
none_outside (Some x) not = absurd (not refl)

module _ {V : Type 0} (M : Monoid V) (difference : V → V → V) where
  made_after : (steps : List V) (enters leaves : List ℕ) (square : ℕ → ℕ → Option V) → after_phases M difference (made_of (phase_of steps enters leaves) steps) square ≡ after_phase M difference (phase_of steps enters leaves) square
  made_after [] enters leaves square = refl
  made_after (c ∷ steps) enters leaves square = refl

  made_admitted : (side : ℕ) (steps : List V) (enters leaves : List ℕ) (square : ℕ → ℕ → Option V) → IsAdmittedPhase M difference side (phase_of steps enters leaves) square → AreAdmittedPhases M difference side (made_of (phase_of steps enters leaves) steps) square
  made_admitted side [] enters leaves square admitted = tt
  made_admitted side (c ∷ steps) enters leaves square admitted = (admitted, tt)

  made_index : IsOrderedMonoid M → (side : ℕ) (steps : List V) (enters leaves : List ℕ) (square : ℕ → ℕ → Option V) → IsAdmittedPhase M difference side (phase_of steps enters leaves) square → index_of M (made_of (phase_of steps enters leaves) steps) ≡ fold_of M steps
  made_index laws side [] enters leaves square admitted = refl
  made_index laws side (c ∷ steps) enters leaves square admitted =
      neutral_right M laws (fold_of M (c ∷ steps)) (steps_value M laws difference side (phase_of (c ∷ steps) enters leaves) square admitted)

-- phases prove of a child what they prove of its instance
abbrev pub LeadsChild : {V : Type 0} → Rules V → Problem → Problem → Type 0
LeadsChild {V} R Y Z = (phases : List (PhaseOf V))
    → AreAdmittedPhases R.monoid R.difference (square_side Y) phases (square_cell Y R.monoid.unit R.enter)
    → AreAdmittedPhases R.monoid R.difference (square_side Z) phases (square_cell Z R.monoid.unit R.enter)

module _ {V : Type 0} (R : Rules V) (laws : IsOrderedMonoid R.monoid) (F : Forest V) (Y : Problem) (f : List (Option ℕ)) (branch : ℕ)
    (trail : Option ℕ) (index : V) (leads : Leads R F Y trail index) (raised : LeadsChild R Y (child Y f branch))
  where
    -- what leads to a part leads to its child
    pub leads_child : Leads R F (child Y f branch) trail index
    leads_child = record {
      live = leads.live;
      admitted = raised (phases_to F trail) leads.admitted;
      index_is = leads.index_is;
    }

    -- the child's square after the phases is the part's without the cells that the branch takes out
    pub reduced_child : reduced_cell R F (child Y f branch) trail ≡ masked (keeps_cell Y f branch) (reduced_cell R F Y trail)
    reduced_child = after_phases-child R.monoid R.difference R.enter Y f branch (phases_to F trail)

    module _ (work : Reduced V) (to : IsReducedTo R F Y trail index work) (words : List ℕ)
        (bits : (r k : ℕ) → r < square_side Y → k < square_side Y → keeps work.now.side words r k ≡ keeps_cell Y f branch r k)
      where
        outside : (r k : ℕ) → ((r < square_side Y) × (k < square_side Y) → ⊥) → cell_at work.now r k ≡ None
        outside r k not =
            none_outside (cell_at work.now r k)
            (λ h. not (HasSide-phases R.monoid R.difference (square_side Y) (phases_to F trail) (square_cell Y R.monoid.unit R.enter) (HasSide-square_cell Y R.monoid.unit R.enter) r k (subst IsSome (to.cells r k) h)))

        masked_at : (r k : ℕ) → cell_at (masked_grid work.now words) r k ≡ masked (keeps_cell Y f branch) (reduced_cell R F Y trail) r k
        masked_at r k =
            cell_at-masked work.now words r k
            ∙ ⊎_elim
            (λ (row : r < square_side Y).
            ⊎_elim
            (λ (column : k < square_side Y). ap (λ b. cond b (cell_at work.now r k) None) (bits r k row column))
            (λ (past : square_side Y ≤ k). none_kept (keeps work.now.side words r k) (keeps_cell Y f branch r k) (cell_at work.now r k) (outside r k (λ h. let low = h.1 in omega (arith, past, low))))
            (cases_lt k (square_side Y)))
            (λ (past : square_side Y ≤ r). none_kept (keeps work.now.side words r k) (keeps_cell Y f branch r k) (cell_at work.now r k) (outside r k (λ h. let low = h.0 in omega (arith, past, low))))
            (cases_lt r (square_side Y))
            ∙ ap (λ o. cond (keeps_cell Y f branch r k) o None) (to.cells r k)

        -- the cells that are kept are those of the child's square after the phases
        pub masked_child : cell_at (masked_grid work.now words) ≡ reduced_cell R F (child Y f branch) trail
        masked_child = (λ i r k. masked_at r k i) ∙ sym reduced_child

        module _ {G : Forest V} {last : Option ℕ} {now : V} (phase : PhaseOf V) (led : IsLed R.monoid R.difference (masked_reduced work words) phase now F G trail last) where
          admitted_child : IsAdmittedPhase R.monoid R.difference (square_side Y) phase (reduced_cell R F (child Y f branch) trail)
          admitted_child =
              subst (λ side. IsAdmittedPhase R.monoid R.difference side phase (reduced_cell R F (child Y f branch) trail)) to.labels.side
              (subst (λ square. IsAdmittedPhase R.monoid R.difference work.now.side phase square) masked_child led.admitted)

          pub led_pushes : Pushes phase F G trail last
          led_pushes = pushes F G trail last phase leads.live led.pushed

          -- the phases lead to the child
          pub led_child : Leads R G (child Y f branch) last now
          led_child =
              let p = led_pushes in
              let made = made_of phase phase.steps in
              let square = square_cell (child Y f branch) R.monoid.unit R.enter in
              let one = made_admitted R.monoid R.difference (square_side Y) phase.steps phase.enters phase.leaves (reduced_cell R F (child Y f branch) trail) admitted_child in
              let both = AreAdmittedPhases-append R.monoid R.difference (square_side Y) (phases_to F trail) made square leads_child.admitted one in
              record {
                live = p.live;
                admitted = subst (λ phases. AreAdmittedPhases R.monoid R.difference (square_side Y) phases square) (sym p.list) both;
                index_is =
                    led.index_is
                    ∙ ap (λ z. R.monoid.product z (fold_of R.monoid phase.steps)) (to.index_is ∙ leads.index_is)
                    ∙ ap (R.monoid.product (index_of R.monoid (phases_to F trail))) (sym (made_index R.monoid R.difference laws (square_side Y) phase.steps phase.enters phase.leaves (reduced_cell R F (child Y f branch) trail) admitted_child))
                    ∙ sym (index_of-append R.monoid laws R.difference (square_side Y) (phases_to F trail) made square leads_child.admitted one)
                    ∙ ap (index_of R.monoid) (sym p.list);
              }

          -- and the child's square after them is the one after the phase
          pub led_square : reduced_cell R G (child Y f branch) last ≡ after_phase R.monoid R.difference phase (cell_at (masked_grid work.now words))
          led_square =
              let square = square_cell (child Y f branch) R.monoid.unit R.enter in
              ap (λ phases. after_phases R.monoid R.difference phases square) led_pushes.list
              ∙ after_phases-append R.monoid R.difference (phases_to F trail) (made_of phase phase.steps) square
              ∙ made_after R.monoid R.difference phase.steps phase.enters phase.leaves (reduced_cell R F (child Y f branch) trail)
              ∙ ap (after_phase R.monoid R.difference phase) (sym masked_child)

          -- the index doesn't fall
          pub led_rises : IsLe R.monoid index now
          led_rises =
              let vi = index_is_value R.monoid laws R.difference (square_side Y) (phases_to F trail) (square_cell Y R.monoid.unit R.enter) leads.admitted in
              let vs = steps_value R.monoid laws R.difference (square_side Y) phase (reduced_cell R F (child Y f branch) trail) admitted_child in
              let is : now ≡ R.monoid.product index (fold_of R.monoid phase.steps) = led.index_is ∙ ap (λ z. R.monoid.product z (fold_of R.monoid phase.steps)) to.index_is in
              subst (IsLe R.monoid index) (sym is) (le_product R.monoid laws index (fold_of R.monoid phase.steps) (subst (λ z. R.monoid.is_value z ≡ true) (sym leads.index_is) vi) vs)

        -- where every row has a column then, the child is solved
        pub solved_child : {G : Forest V} {last : Option ℕ} {now : V} {matching after : List (Option ℕ)} (root : ℕ) (branched : IsBranch R.monoid R.difference (stage_of (masked_reduced work words) matching F) (stage_of (masked_reduced work words) after G) now trail last root) → ((r : ℕ) → r < square_side Y → r ≢ root → IsMatched matching r) → IsSolved R G (child Y f branch) last now after
        solved_child {G} {last} {now} {matching} {after} root branched others =
            let square = led_square branched.phase branched.led in
            record {
              rows = branched.rest.matching_side ∙ to.labels.side;
              columns = branched.rest.columns;
              all = λ r h.
                  ⊎_elim
                  (λ (same : r ≡ root). subst (λ q. IsMatched after q) (sym same) branched.served)
                  (λ (other : r ≡ root → ⊥). branched.kept r (others r h other))
                  (cases_eq r root);
              cells = λ r k e. subst (λ cells. IsAbsorbed R.monoid now cells r k) (sym square) (branched.rest.absorbed r k e);
            }
