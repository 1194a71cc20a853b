-- An open node gives its answer, and its children are to come.
use Rattle.asg_branching.proofs.Common.{◌≡◌, ℕ, ◌+◌, ◌-◌, ◌*◌, ◌<◌, ◌≤◌, true, cond, ◌≢◌, List, [], ◌∷◌, ◌++◌, length, IsTrue, nat_le, Option, sym, refl, ap, ◌∙◌, subst, inl, inr, ⊎_elim, mul-le-mul_right, arith, le-leb, leb-true, cases_eq, cases_lt, cond-false, cond-true, false≢true, get_or-append_seam, get_or_append_left, lt-leb, winner_in, IsSlot, IsBehind, IsKept, AreSlots, placed, Problem, IsValid, entry_at, is_open_state, is_open_at, child_number, with_state, HallSets, Rules, Leads, IsSolved, SlotList, slot_at, given_at, AreParts, HasState, HasNoPhases, IsNode, IsRoot, IsChildOf, IsWinner, IsTree, Entry, State, Answered, Open, Empty, Slot, Tree, entry_changed, entry_other, count_same, add_one_times, open_from, is_open_inside, is_open_outside, part_place, part_count, child, Splits, frontier_after, length-append}
use Rattle.asg_model.specs.declared.parts.Place.TheVariants.{All as PlaceAll}

-- what a state says of a node it says where one more answer was given
pub HasState-more : (given : List (List (Option ℕ))) (f : List (Option ℕ)) (winner : ℕ → ℕ) (halls : HallSets) (Y : Problem) (n : ℕ) (s : State) → HasState given winner halls Y n s → HasState (given ++ f ∷ []) winner halls Y n s
HasState-more given f winner halls Y n (Answered b) state =
    let less = state.2 in
    (state.0, state.1, omega (arith, less, length-append given (f ∷ [])), state.3)
HasState-more given f winner halls Y n Open state = tt
HasState-more given f winner halls Y n (Empty h) state = state

-- a state that names an answer doesn't ask for no phases
pub no_phases : (before trail : Option ℕ) (b : ℕ) → HasNoPhases before trail (Answered b)
no_phases before trail b = tt

module _ {V : Type 0} (R : Rules V) (X : Problem) (given : List (List (Option ℕ))) (winner : ℕ → ℕ) (upto : ℕ) (T : Tree V) (part : ℕ → Problem)
    (tree : IsTree R X given winner upto T part) (all : X.place ≡ PlaceAll) (whole : length T.entries.items ≡ upto)
    (n : ℕ) (from : 1 ≤ n) (there : n ≤ length T.entries.items) (is_open : (entry_at R.monoid.unit T.entries.items n).state ≡ Open)
    (f : List (Option ℕ)) (valid : IsValid (part n) f) (wins : winner (length given) ≡ n)
    (U : Tree V) (entries_are : U.entries.items ≡ with_state R.monoid.unit T.entries.items n (Answered (length given + 1)))
    (region_is : U.region ≡ T.region) (halls_are : U.halls ≡ T.halls)
  where
    abbrev k : ℕ
    k = placed X

    -- how far the nodes go now
    abbrev pub upto_now : ℕ
    upto_now = upto + placed X

    -- the parts now: those of the children stand behind the others
    abbrev pub part_now : ℕ → Problem
    part_now m = cond (nat_le m upto) (part m) (child (part n) f (m - upto))

    pub old_part : (m : ℕ) → m ≤ upto → part_now m ≡ part m
    old_part m h = cond-true (nat_le m upto) (part m) (child (part n) f (m - upto)) (le-leb m upto h)

    new_part : (i : ℕ) → 1 ≤ i → part_now (upto + i) ≡ child (part n) f i
    new_part i h =
        cond-false (nat_le (upto + i) upto) (part (upto + i)) (child (part n) f (upto + i - upto)) (lt-leb (upto + i) upto (omega (arith, h)))
        ∙ ap (child (part n) f) (let e : upto + i - upto ≡ i = omega arith in e)

    before : (a : ℕ) → a < length given → (1 ≤ winner a) × (winner a ≤ 1 + a * placed X)
    before a h = let w = tree.winners a h in (w.from, w.upto)

    fits : n ≤ 1 + length given * placed X
    fits = let e = tree.upto_is in omega (arith, there, whole, e)

    part_is : X.place ≡ (part n).place
    part_is = sym (part_place X given winner part tree.parts before n from fits)

    pub more : length (given ++ f ∷ []) ≡ length given + 1
    more = omega (arith, length-append given (f ∷ []))

    child_upto : (a i : ℕ) → a < length given → i ≤ placed X → child_number (placed X) a i ≤ upto
    child_upto a i less high =
        let far = mul-le-mul_right (placed X) (let s : a + 1 ≤ length given = omega (arith, less) in s) in
        let e = tree.upto_is in
        omega (arith, far, e, high)

    pub old_given : (a : ℕ) → a < length given → given_at (given ++ f ∷ []) a ≡ given_at given a
    old_given a h = get_or_append_left given (f ∷ []) [] a h

    pub new_given : given_at (given ++ f ∷ []) (length given) ≡ f
    new_given = get_or-append_seam given f [] []

    parts_now : AreParts X (given ++ f ∷ []) winner part_now
    parts_now = record {
      root = old_part 1 (let e = tree.upto_is in omega (arith, e)) ∙ tree.parts.root;
      children = λ a i less low high.
          ⊎_elim
          (λ (old : a < length given).
          let w = before a old in
          let w_upto = w.1 in
          let inside = child_upto a 0 old (omega arith) in
          old_part (child_number (placed X) a i) (child_upto a i old high)
          ∙ tree.parts.children a i old low high
          ∙ (λ q. child (sym (old_part (winner a) (omega (arith, w_upto, inside))) q) (sym (old_given a old) q) i))
          (λ (late : length given ≤ a).
          let here : length given ≡ a = omega (arith, late, less, more) in
          let times : length given * placed X ≡ a * placed X = ap (λ m. m * placed X) here in
          let e = tree.upto_is in
          let number : child_number (placed X) a i ≡ upto + i = omega (arith, times, e) in
          ap part_now number ∙ new_part i low
          ∙ (λ q. child (sym (old_part n (omega (arith, there, whole))) q) f i)
          ∙ (λ q. child (part_now (sym wins q)) f i)
          ∙ ap (λ b. child (part_now (winner b)) f i) here
          ∙ (λ q. child (part_now (winner a)) (sym new_given q) i)
          ∙ ap (λ b. child (part_now (winner a)) (given_at (given ++ f ∷ []) b) i) here)
          (cases_lt a (length given));
    }

    pub total : length U.entries.items ≡ length T.entries.items
    total = ap (λ (xs : List (Entry V)). length xs) entries_are ∙ count_same R.monoid.unit T.entries.items n from there (Answered (length given + 1))

    entry_here : entry_at R.monoid.unit U.entries.items n ≡ record (entry_at R.monoid.unit T.entries.items n) { state = Answered (length given + 1) }
    entry_here = ap (λ (xs : List (Entry V)). entry_at R.monoid.unit xs n) entries_are ∙ entry_changed R.monoid.unit T.entries.items n from there (Answered (length given + 1))

    pub entry_else : (m : ℕ) → 1 ≤ m → m ≢ n → entry_at R.monoid.unit U.entries.items m ≡ entry_at R.monoid.unit T.entries.items m
    entry_else m low other = ap (λ (xs : List (Entry V)). entry_at R.monoid.unit xs m) entries_are ∙ entry_other R.monoid.unit T.entries.items n from there (Answered (length given + 1)) m low other

    -- what holds of each node whatever its state, and of the changed one, holds of all now
    pub entry_now : (m : ℕ) (P : Entry V → Type 0) → 1 ≤ m → P (entry_at R.monoid.unit T.entries.items m) → (m ≡ n → P (record (entry_at R.monoid.unit T.entries.items n) { state = Answered (length given + 1) })) → P (entry_at R.monoid.unit U.entries.items m)
    entry_now m P low old new =
        ⊎_elim
        (λ (same : m ≡ n). subst (λ q. P (entry_at R.monoid.unit U.entries.items q)) (sym same) (subst P (sym entry_here) (new same)))
        (λ (other : m ≡ n → ⊥). subst P (sym (entry_else m low other)) old)
        (cases_eq m n)

    -- the trails and the indexes are as they were
    pub trail_now : (m : ℕ) → 1 ≤ m → (entry_at R.monoid.unit U.entries.items m).trail ≡ (entry_at R.monoid.unit T.entries.items m).trail
    trail_now m low = entry_now m (λ e. e.trail ≡ (entry_at R.monoid.unit T.entries.items m).trail) low refl (λ same. ap (λ q. (entry_at R.monoid.unit T.entries.items q).trail) (sym same))

    pub index_now : (m : ℕ) → 1 ≤ m → (entry_at R.monoid.unit U.entries.items m).index ≡ (entry_at R.monoid.unit T.entries.items m).index
    index_now m low = entry_now m (λ e. e.index ≡ (entry_at R.monoid.unit T.entries.items m).index) low refl (λ same. ap (λ q. (entry_at R.monoid.unit T.entries.items q).index) (sym same))

    open_was : (m : ℕ) → 1 ≤ m → is_open_state (entry_at R.monoid.unit U.entries.items m).state ≡ true → (m ≢ n) × (is_open_state (entry_at R.monoid.unit T.entries.items m).state ≡ true)
    open_was m low h =
        ⊎_elim
        (λ (same : m ≡ n). absurd (false≢true (sym (ap (λ (e : Entry V). is_open_state e.state) entry_here) ∙ ap (λ q. is_open_state (entry_at R.monoid.unit U.entries.items q).state) (sym same) ∙ h)))
        (λ (other : m ≡ n → ⊥). (other, ap (λ (e : Entry V). is_open_state e.state) (sym (entry_else m low other)) ∙ h))
        (cases_eq m n)

    node_now : (m : ℕ) → 1 ≤ m → m ≤ length U.entries.items → IsNode R (given ++ f ∷ []) winner U.region U.halls (part_now m) m (entry_at R.monoid.unit U.entries.items m)
    node_now m low high =
        let was = tree.nodes m low (omega (arith, high, total)) in
        subst (λ Y. IsNode R (given ++ f ∷ []) winner U.region U.halls Y m (entry_at R.monoid.unit U.entries.items m)) (sym (old_part m (omega (arith, high, total, whole))))
        (subst (λ F. IsNode R (given ++ f ∷ []) winner F U.halls (part m) m (entry_at R.monoid.unit U.entries.items m)) (sym region_is)
        (subst (λ halls. IsNode R (given ++ f ∷ []) winner T.region halls (part m) m (entry_at R.monoid.unit U.entries.items m)) (sym halls_are)
        (entry_now m (IsNode R (given ++ f ∷ []) winner T.region T.halls (part m) m) low
        (record { leads = was.leads; state_is = HasState-more given f winner T.halls (part m) m (entry_at R.monoid.unit T.entries.items m).state was.state_is })
        (λ same. record {
          leads = subst (λ q. Leads R T.region (part m) (entry_at R.monoid.unit T.entries.items q).trail (entry_at R.monoid.unit T.entries.items q).index) same was.leads;
          state_is = (length given, refl, omega (arith, more), wins ∙ sym same);
        }))))

    winner_now : (a : ℕ) → a < length (given ++ f ∷ []) → IsWinner (placed X) a (length U.entries.items) (winner a) (entry_at R.monoid.unit U.entries.items (winner a))
    winner_now a less =
        ⊎_elim
        (λ (old : a < length given).
        let was = tree.winners a old in
        let differs : winner a ≢ n = λ same. answered_open (length given) a (sym was.state_is ∙ ap (λ q. (entry_at R.monoid.unit T.entries.items q).state) same ∙ is_open) in
        record {
          from = was.from;
          there = let t = was.there in omega (arith, t, total);
          upto = was.upto;
          state_is = ap (λ (e : Entry V). e.state) (entry_else (winner a) was.from differs) ∙ was.state_is;
        })
        (λ (late : length given ≤ a).
        let here : length given ≡ a = omega (arith, late, less, more) in
        subst (λ b. IsWinner (placed X) b (length U.entries.items) (winner b) (entry_at R.monoid.unit U.entries.items (winner b))) here
        (subst (λ m. IsWinner (placed X) (length given) (length U.entries.items) m (entry_at R.monoid.unit U.entries.items m)) (sym wins)
        (record {
          from = from;
          there = omega (arith, there, total);
          upto = fits;
          state_is = ap (λ (e : Entry V). e.state) entry_here;
        })))
        (cases_lt a (length given))
      where
        answered_open : (g a : ℕ) → Answered (a + 1) ≡ Open → ⊥
        answered_open g a e = absurd (false≢true (ap is_open_state e))

    child_now : (a i : ℕ) → a < length (given ++ f ∷ []) → 1 ≤ i → i ≤ placed X → child_number (placed X) a i ≤ length U.entries.items → IsChildOf U.region (winner a) (entry_at R.monoid.unit U.entries.items (winner a)) i (entry_at R.monoid.unit U.entries.items (child_number (placed X) a i))
    child_now a i less low high within =
        ⊎_elim
        (λ (old : a < length given).
        let was = tree.children a i old low high (omega (arith, within, total)) in
        let w = tree.winners a old in
        subst (λ F. IsChildOf F (winner a) (entry_at R.monoid.unit U.entries.items (winner a)) i (entry_at R.monoid.unit U.entries.items (child_number (placed X) a i))) (sym region_is)
        (entry_now (winner a) (λ above. IsChildOf T.region (winner a) above i (entry_at R.monoid.unit U.entries.items (child_number (placed X) a i))) w.from
        (child_entry (winner a) (entry_at R.monoid.unit T.entries.items (winner a)) (child_number (placed X) a i) i (omega arith) was)
        (λ same. same_above (winner a) (entry_at R.monoid.unit T.entries.items n) i (entry_at R.monoid.unit U.entries.items (child_number (placed X) a i))
        (subst (λ q. IsChildOf T.region (winner a) (entry_at R.monoid.unit T.entries.items q) i (entry_at R.monoid.unit U.entries.items (child_number (placed X) a i))) same
        (child_entry (winner a) (entry_at R.monoid.unit T.entries.items (winner a)) (child_number (placed X) a i) i (omega arith) was)))))
        (λ (late : length given ≤ a).
        let here : length given ≡ a = omega (arith, late, less, more) in
        let times : length given * placed X ≡ a * placed X = ap (λ m. m * placed X) here in
        let e = tree.upto_is in
        absurd (omega (arith, within, total, whole, e, times, low)))
        (cases_lt a (length given))
      where
        same_above : (parent : ℕ) (above : Entry V) (i : ℕ) (e : Entry V) → IsChildOf T.region parent above i e → IsChildOf T.region parent (record above { state = Answered (length given + 1) }) i e
        same_above parent above i e c = record { parent_is = c.parent_is; branch_is = c.branch_is; next = c.next; empty = c.empty }

        child_entry : (parent : ℕ) (above : Entry V) (m i : ℕ) → 1 ≤ m → IsChildOf T.region parent above i (entry_at R.monoid.unit T.entries.items m) → IsChildOf T.region parent above i (entry_at R.monoid.unit U.entries.items m)
        child_entry parent above m i low c =
            entry_now m (IsChildOf T.region parent above i) low c
            (λ same.
            let c_n = subst (λ q. IsChildOf T.region parent above i (entry_at R.monoid.unit T.entries.items q)) same c in
            record { parent_is = c_n.parent_is; branch_is = c_n.branch_is; next = c_n.next; empty = tt })

    root_now : IsRoot (entry_at R.monoid.unit U.entries.items 1)
    root_now =
        entry_now 1 IsRoot (omega arith) tree.root
        (λ same.
        let root = subst (λ q. IsRoot (entry_at R.monoid.unit T.entries.items q)) same tree.root in
        record { parent_is = root.parent_is; branch_is = root.branch_is; empty = tt })

    splits : Splits (is_open_at R.monoid.unit T.entries.items upto) (is_open_at R.monoid.unit U.entries.items upto_now) part part_now upto n f
    splits = record {
      upto = λ m h.
          ⊎_elim
          (λ (late : length T.entries.items < m). leb-true m upto (sym (is_open_outside R.monoid.unit T.entries.items upto m late) ∙ h))
          (λ (early : m ≤ length T.entries.items). omega (arith, early, whole))
          (cases_lt (length T.entries.items) m);
      same = old_part;
      kept = λ m h other.
          let low = open_from R.monoid.unit T.entries.items upto m h in
          let high : m ≤ length T.entries.items = (⊎_elim
          (λ (late : length T.entries.items < m). let u = leb-true m upto (sym (is_open_outside R.monoid.unit T.entries.items upto m late) ∙ h) in omega (arith, u, whole))
          (λ (early : m ≤ length T.entries.items). early)
          (cases_lt (length T.entries.items) m)) in
          is_open_inside R.monoid.unit U.entries.items upto_now m low (omega (arith, high, total))
          ∙ ap (λ (e : Entry V). is_open_state e.state) (entry_else m low other)
          ∙ sym (is_open_inside R.monoid.unit T.entries.items upto m low high) ∙ h;
      child_parts = λ i low high. new_part i low;
      open_or_empty = λ i low high.
          let e = same_count in
          inl (is_open_outside R.monoid.unit U.entries.items upto_now (upto + i) (omega (arith, total, whole, low)) ∙ le-leb (upto + i) upto_now (omega (arith, high, e)));
      only = λ m h.
          let low = open_from R.monoid.unit U.entries.items upto_now m h in
          ⊎_elim
          (λ (late : length U.entries.items < m).
          let high = leb-true m upto_now (sym (is_open_outside R.monoid.unit U.entries.items upto_now m late) ∙ h) in
          let e = same_count in
          inr (m - upto, omega (arith, late, total, whole), omega (arith, high, e), omega (arith, late, total, whole)))
          (λ (early : m ≤ length U.entries.items).
          let was = open_was m low (sym (is_open_inside R.monoid.unit U.entries.items upto_now m low early) ∙ h) in
          inl (is_open_inside R.monoid.unit T.entries.items upto m low (omega (arith, early, total)) ∙ was.1, was.0))
          (cases_lt (length U.entries.items) m);
    }
      where
        same_count : placed (part n) ≡ placed X
        same_count = part_count X given winner part tree.parts before n from fits

    -- the tree of one answer more
    pub tree_now : IsTree R X (given ++ f ∷ []) winner upto_now U part_now
    tree_now =
        let e = tree.upto_is in
        record {
          parts = parts_now;
          upto_is = upto_count;
          some = let s = tree.some in omega (arith, s, total);
          few = omega (arith, total, whole);
          root = root_now;
          nodes = node_now;
          winners = winner_now;
          children = child_now;
          frontier = frontier_after X given (is_open_at R.monoid.unit T.entries.items upto) (is_open_at R.monoid.unit U.entries.items upto_now) part part_now upto n f tree.frontier open_here (sym part_is ∙ all) valid splits;
        }
      where
        open_here : IsTrue (is_open_at R.monoid.unit T.entries.items upto n)
        open_here = is_open_inside R.monoid.unit T.entries.items upto n from there ∙ ap is_open_state is_open

        upto_count : upto + placed X ≡ 1 + length (given ++ f ∷ []) * placed X
        upto_count =
            let e = tree.upto_is in
            let times : length (given ++ f ∷ []) * placed X ≡ (length given + 1) * placed X = ap (λ m. m * placed X) more in
            let split : (length given + 1) * placed X ≡ length given * placed X + placed X = add_one_times (length given) (placed X) in
            omega (arith, e, times, split)

    -- the slots of one answer more
    pub slots_now : (slots : SlotList V) → AreSlots R (length given) T part slots → length given < length slots.used → winner_in R.monoid.unit slots.used (length given) ≡ n → AreSlots R (length given + 1) U part_now slots
    slots_now slots are less here = record {
      few = omega (arith, less);
      ascends = are.ascends;
      values = are.values;
      each = λ j h.
          let was = are.each j h in
          let slot = slot_at R.monoid.unit slots.used j in
          slot_kept slot was;
      open_nodes = λ j from h.
          let was = are.each j h in
          let other : winner_in R.monoid.unit slots.used j ≢ n = λ same. are.apart (length given) j (omega (arith, from)) h (here ∙ sym same) in
          ap (λ (e : Entry V). e.state) (entry_else (winner_in R.monoid.unit slots.used j) was.from other) ∙ are.open_nodes j (omega (arith, from)) h;
      apart = are.apart;
      left = λ m low high is.
          let was_open = open_was m low (ap is_open_state is) in
          let other = was_open.0 in
          let same = entry_else m low other in
          ⊎_elim
          (λ (kept : IsKept R.monoid.unit (length given) slots.used m).
          let differs : length given ≢ kept.place = λ e. other (sym kept.node ∙ ap (winner_in R.monoid.unit slots.used) (sym e) ∙ here) in
          let from = kept.from in
          inl (record { place = kept.place; from = omega (arith, from, differs); upto = kept.upto; node = kept.node }))
          (λ (behind : IsBehind R.monoid slots (entry_at R.monoid.unit T.entries.items m).index).
          inr (subst (IsBehind R.monoid slots) (sym (index_now m low)) behind))
          (are.left m low (omega (arith, high, total)) (ap (λ (e : Entry V). e.state) (sym same) ∙ is));
    }
      where
        slot_kept : (slot : Slot V) → IsSlot R T.region (length T.entries.items) (part slot.node) (entry_at R.monoid.unit T.entries.items slot.node) slot → IsSlot R U.region (length U.entries.items) (part_now slot.node) (entry_at R.monoid.unit U.entries.items slot.node) slot
        slot_kept slot was =
            let high = was.upto in
            let trail = sym (trail_now slot.node was.from) in
            record {
              from = was.from;
              upto = omega (arith, high, total);
              index_is = was.index_is ∙ sym (index_now slot.node was.from);
              solved =
                  subst (λ Y. IsSolved R U.region Y (entry_at R.monoid.unit U.entries.items slot.node).trail slot.index slot.matching) (sym (old_part slot.node (omega (arith, high, whole))))
                  (subst (λ F. IsSolved R F (part slot.node) (entry_at R.monoid.unit U.entries.items slot.node).trail slot.index slot.matching) (sym region_is)
                  (subst (λ t. IsSolved R T.region (part slot.node) t slot.index slot.matching) trail was.solved));
            }
