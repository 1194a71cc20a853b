-- One more child is made.
use Rattle.std.proofs.Common.{◌≡◌, ◌≢◌, ℕ, ◌+◌, ◌*◌, ◌<◌, ◌≤◌, ◌⊎◌, inl, inr, Bool, true, cond, ◌&&◌, List, [], ◌∷◌, ◌++◌, length, Option, sym, ◌∙◌, ap, subst, arith, ⊎_elim}
use Rattle.std.specs.Prelude.{IsTrue, nat_le, Contains}
use Rattle.std.proofs.lemmas.Bool.{cases_lt, cases_eq, le-leb, lt-leb, cond-true, cond-false}
use Rattle.std.proofs.Math.Nat.{mul-le-mul_right}
use Rattle.asg_model.specs.declared.bands.Band.TheVariants.{Whole}
use Rattle.asg_model.specs.HallSet.{IsHall}
use Rattle.asg_model.specs.Counts.{placed}
use Rattle.asg_model.specs.Problem.{Problem}
use Rattle.asg_model.specs.ValidChoice.{IsValid}
use Rattle.asg_pool.specs.Forest.{Forest}
use Rattle.asg_rankings.specs.Frontiers.{IsFrontier}
use Rattle.asg_nodes.specs.declared.entries.Entry.{Entry}
use Rattle.asg_nodes.specs.declared.entries.State.{State}
use Rattle.asg_nodes.specs.declared.entries.State.TheVariants.{Answered, Open, Empty}
use Rattle.asg_nodes.specs.declared.trees.Tree.{Tree}
use Rattle.asg_nodes.specs.Entries.{entry_at, is_open_state, is_open_at, child_number}
use Rattle.asg_nodes.specs.HallPools.{HallSets, hall_at}
use Rattle.asg_nodes.specs.Rules.{Rules, KeepsTrails}
use Rattle.asg_nodes.specs.Trees.{HasState, IsNode, IsRoot, IsChildOf, IsTree}
use Rattle.asg_nodes.specs.laws.EntryLists.{entry_before, entry_last, count_more}
use Rattle.asg_nodes.specs.laws.Trails.{Leads-kept, IsNext-kept}

-- children of different nodes, or by different branches, have different numbers
pub same_child : (k a b i j : ℕ) → 1 ≤ i → i ≤ k → 1 ≤ j → j ≤ k → child_number k a i ≡ child_number k b j → (a ≡ b) × (i ≡ j)
same_child k a b i j from upto from_j upto_j e =
    ⊎_elim
    (λ (less : a < b). let far = mul-le-mul_right k (less_suc a b less) in absurd (omega (arith, far, e, from, upto, from_j, upto_j)))
    (λ (rest : b ≤ a).
    ⊎_elim
    (λ (more : b < a). let far = mul-le-mul_right k (less_suc b a more) in absurd (omega (arith, far, e, from, upto, from_j, upto_j)))
    (λ (upto_b : a ≤ b).
    let same : a ≡ b = omega (arith, rest, upto_b) in
    let times : a * k ≡ b * k = ap (λ n. n * k) same in
    (same, omega (arith, e, times)))
    (cases_lt b a))
    (cases_lt a b)
  where
    less_suc : (a b : ℕ) → a < b → a + 1 ≤ b
    less_suc a b h = omega (arith, h)

-- the parts that were closed had no valid choice: a frontier is left
pub closed : (X : Problem) (given : List (List (Option ℕ))) (before after : ℕ → Bool) (part : ℕ → Problem) → IsFrontier X given before part → ((n : ℕ) → IsTrue (after n) → IsTrue (before n)) → ((n : ℕ) → IsTrue (before n) → IsTrue (after n) ⊎ ((g : List (Option ℕ)) → IsValid (part n) g → ⊥)) → IsFrontier X given after part
closed X given before after part frontier was stays = record {
  whole = λ g valid.
      ⊎_elim
      (λ (there : Contains given g). inl there)
      (λ (at : (n : ℕ) × IsTrue (before n) × IsValid (part n) g).
      ⊎_elim
      (λ (now : IsTrue (after at.0)). inr (at.0, now, at.2))
      (λ (none : (g : List (Option ℕ)) → IsValid (part at.0) g → ⊥). absurd (none g at.2))
      (stays at.0 at.1))
      (frontier.whole g valid);
  sound = λ g n h valid. frontier.sound g n (was n h) valid;
  apart = λ g n m h h_m valid valid_m. frontier.apart g n m (was n h) (was m h_m) valid valid_m;
  fresh = λ g n h valid. frontier.fresh g n (was n h) valid;
}

-- what is in a pool stays there
pub record KeepsHalls (before after : HallSets) : Type 0 where
  pub kept : (h : ℕ) → h < length before.sets → h < length after.sets
  pub same : (h : ℕ) → h < length before.sets → hall_at after h ≡ hall_at before h

pub HasState-halls : (given : List (List (Option ℕ))) (winner : ℕ → ℕ) (before after : HallSets) → KeepsHalls before after → (Y : Problem) (n : ℕ) (s : State) → HasState given winner before Y n s → HasState given winner after Y n s
HasState-halls given winner before after keeps Y n (Answered b) state = state
HasState-halls given winner before after keeps Y n Open state = tt
HasState-halls given winner before after keeps Y n (Empty h) state =
    (keeps.kept h state.0, subst (λ rows. IsHall Y Whole rows) (sym (keeps.same h state.0)) state.1)

module _ {V : Type 0} (unit : V) (entries : List (Entry V)) (e : Entry V) (upto : ℕ) (fits : length entries < upto) where
  -- which nodes are open after one more, of those up to a number
  pub is_open_before : (n : ℕ) → n ≢ length entries + 1 → is_open_at unit (entries ++ e ∷ []) upto n ≡ is_open_at unit entries upto n
  is_open_before n other =
      ⊎_elim
      (λ (none : n < 1). ap (λ b. b && cond (nat_le n (length (entries ++ e ∷ []))) (is_open_state (entry_at unit (entries ++ e ∷ []) n).state) (nat_le n upto)) (lt-leb 1 n none) ∙ sym (ap (λ b. b && cond (nat_le n (length entries)) (is_open_state (entry_at unit entries n).state) (nat_le n upto)) (lt-leb 1 n none)))
      (λ (from : 1 ≤ n).
      ap (λ o. nat_le 1 n && o)
      (⊎_elim
      (λ (late : length entries < n).
      cond-false (nat_le n (length (entries ++ e ∷ []))) (is_open_state (entry_at unit (entries ++ e ∷ []) n).state) (nat_le n upto) (lt-leb n (length (entries ++ e ∷ [])) (let c = count_more unit entries e in omega (arith, c, late, other)))
      ∙ sym (cond-false (nat_le n (length entries)) (is_open_state (entry_at unit entries n).state) (nat_le n upto) (lt-leb n (length entries) late)))
      (λ (early : n ≤ length entries).
      cond-true (nat_le n (length (entries ++ e ∷ []))) (is_open_state (entry_at unit (entries ++ e ∷ []) n).state) (nat_le n upto) (le-leb n (length (entries ++ e ∷ [])) (let c = count_more unit entries e in omega (arith, c, early)))
      ∙ ap (λ x. is_open_state x.state) (entry_before unit entries e n from early)
      ∙ sym (cond-true (nat_le n (length entries)) (is_open_state (entry_at unit entries n).state) (nat_le n upto) (le-leb n (length entries) early)))
      (cases_lt (length entries) n)))
      (cases_lt n 1)

  pub is_open_last : is_open_at unit (entries ++ e ∷ []) upto (length entries + 1) ≡ is_open_state e.state
  is_open_last =
      let n = length entries + 1 in
      ap (λ b. b && cond (nat_le n (length (entries ++ e ∷ []))) (is_open_state (entry_at unit (entries ++ e ∷ []) n).state) (nat_le n upto)) (le-leb 1 n (omega arith))
      ∙ cond-true (nat_le n (length (entries ++ e ∷ []))) (is_open_state (entry_at unit (entries ++ e ∷ []) n).state) (nat_le n upto) (le-leb n (length (entries ++ e ∷ [])) (let c = count_more unit entries e in omega (arith, c)))
      ∙ ap (λ x. is_open_state x.state) (entry_last unit entries e)

  -- the next node counts as open until it is made
  pub is_open_next : is_open_at unit entries upto (length entries + 1) ≡ true
  is_open_next =
      let n = length entries + 1 in
      ap (λ b. b && cond (nat_le n (length entries)) (is_open_state (entry_at unit entries n).state) (nat_le n upto)) (le-leb 1 n (omega arith))
      ∙ cond-false (nat_le n (length entries)) (is_open_state (entry_at unit entries n).state) (nat_le n upto) (lt-leb n (length entries) (omega arith))
      ∙ le-leb n upto (omega (arith, fits))

  -- a frontier is left, where the new node is open, or its part has no choice
  pub frontier_more : (X : Problem) (given : List (List (Option ℕ))) (part : ℕ → Problem) → IsFrontier X given (is_open_at unit entries upto) part → IsTrue (is_open_state e.state) ⊎ ((g : List (Option ℕ)) → IsValid (part (length entries + 1)) g → ⊥) → IsFrontier X given (is_open_at unit (entries ++ e ∷ []) upto) part
  frontier_more X given part frontier is =
      closed X given (is_open_at unit entries upto) (is_open_at unit (entries ++ e ∷ []) upto) part frontier
      (λ n h.
      ⊎_elim
      (λ (same : n ≡ length entries + 1). subst (λ m. IsTrue (is_open_at unit entries upto m)) (sym same) is_open_next)
      (λ (other : n ≡ length entries + 1 → ⊥). sym (is_open_before n other) ∙ h)
      (cases_eq n (length entries + 1)))
      (λ n h.
      ⊎_elim
      (λ (same : n ≡ length entries + 1).
      ⊎_elim
      (λ (stays : IsTrue (is_open_state e.state)). inl (subst (λ m. IsTrue (is_open_at unit (entries ++ e ∷ []) upto m)) (sym same) (is_open_last ∙ stays)))
      (λ (none : (g : List (Option ℕ)) → IsValid (part (length entries + 1)) g → ⊥). inr (subst (λ m. (g : List (Option ℕ)) → IsValid (part m) g → ⊥) (sym same) none))
      is)
      (λ (other : n ≡ length entries + 1 → ⊥). inl (is_open_before n other ∙ h))
      (cases_eq n (length entries + 1)))

-- what is known of the next child
pub record IsNextChild {V : Type 0} (R : Rules V) (X : Problem) (given : List (List (Option ℕ))) (winner : ℕ → ℕ) (T : Tree V)
    (F : Forest V) (halls : HallSets) (part : ℕ → Problem) (a i : ℕ) (e : Entry V) : Type 0 where
  pub less : a < length given
  pub from : 1 ≤ i
  pub upto : i ≤ placed X
  pub is : length T.entries.items + 1 ≡ child_number (placed X) a i
  pub node : IsNode R given winner F halls (part (length T.entries.items + 1)) (length T.entries.items + 1) e
  pub child_of : IsChildOf F (winner a) (entry_at R.monoid.unit T.entries.items (winner a)) i e
  pub open_or_empty : IsTrue (is_open_state e.state) ⊎ ((g : List (Option ℕ)) → IsValid (part (length T.entries.items + 1)) g → ⊥)

module _ {V : Type 0} (R : Rules V) (X : Problem) (given : List (List (Option ℕ))) (winner : ℕ → ℕ) (upto : ℕ) (T : Tree V) (part : ℕ → Problem)
    (tree : IsTree R X given winner upto T part) (U : Tree V) (e : Entry V) (entries_are : U.entries.items ≡ T.entries.items ++ e ∷ [])
    (keeps : KeepsTrails T.region U.region) (halls : KeepsHalls T.halls U.halls) (a i : ℕ)
    (next : IsNextChild R X given winner T U.region U.halls part a i e)
  where
    fits : length T.entries.items < upto
    fits =
        let far = mul-le-mul_right (placed X) (let h = next.less in let s : a + 1 ≤ length given = omega (arith, h) in s) in
        let is = next.is in
        let high = next.upto in
        let most = tree.upto_is in
        omega (arith, far, is, high, most)

    old_node : (n : ℕ) → 1 ≤ n → n ≤ length T.entries.items → IsNode R given winner U.region U.halls (part n) n (entry_at R.monoid.unit T.entries.items n)
    old_node n from within =
        let was = tree.nodes n from within in
        let x = entry_at R.monoid.unit T.entries.items n in
        record {
          leads = Leads-kept T.region U.region keeps R (part n) x.trail x.index was.leads;
          state_is = HasState-halls given winner T.halls U.halls halls (part n) n x.state was.state_is;
        }

    old_child : (b j : ℕ) → b < length given → 1 ≤ j → j ≤ placed X → child_number (placed X) b j ≤ length T.entries.items → IsChildOf U.region (winner b) (entry_at R.monoid.unit T.entries.items (winner b)) j (entry_at R.monoid.unit T.entries.items (child_number (placed X) b j))
    old_child b j less from high within =
        let was = tree.children b j less from high within in
        record {
          parent_is = was.parent_is;
          branch_is = was.branch_is;
          next = IsNext-kept T.region U.region keeps (entry_at R.monoid.unit T.entries.items (winner b)).trail (entry_at R.monoid.unit T.entries.items (child_number (placed X) b j)).trail was.next;
          empty = was.empty;
        }

    pub more_children : IsTree R X given winner upto U part
    more_children =
        let before = entry_before R.monoid.unit T.entries.items e in
        let last = entry_last R.monoid.unit T.entries.items e in
        let more = count_more R.monoid.unit T.entries.items e in
        let at : (n : ℕ) → entry_at R.monoid.unit (T.entries.items ++ e ∷ []) n ≡ entry_at R.monoid.unit U.entries.items n = λ n. ap (λ (xs : List (Entry V)). entry_at R.monoid.unit xs n) (sym entries_are) in
        let total : length U.entries.items ≡ length T.entries.items + 1 = ap (λ (xs : List (Entry V)). length xs) entries_are ∙ more in
        record {
          parts = tree.parts;
          upto_is = tree.upto_is;
          some = omega (arith, total);
          few = let f = fits in omega (arith, total, f);
          root = subst IsRoot (sym (before 1 (omega arith) tree.some) ∙ at 1) tree.root;
          nodes = λ n from within.
              ⊎_elim
              (λ (late : length T.entries.items < n).
              let is : length T.entries.items + 1 ≡ n = omega (arith, late, within, total) in
              subst (λ m. IsNode R given winner U.region U.halls (part m) m (entry_at R.monoid.unit U.entries.items m)) is
              (subst (IsNode R given winner U.region U.halls (part (length T.entries.items + 1)) (length T.entries.items + 1)) (sym last ∙ at (length T.entries.items + 1)) next.node))
              (λ (early : n ≤ length T.entries.items).
              subst (IsNode R given winner U.region U.halls (part n) n) (sym (before n from early) ∙ at n) (old_node n from early))
              (cases_lt (length T.entries.items) n);
          winners = λ b less.
              let was = tree.winners b less in
              let same = sym (before (winner b) was.from was.there) ∙ at (winner b) in
              record {
                from = was.from;
                there = let t = was.there in omega (arith, total, t);
                upto = was.upto;
                state_is = ap (λ (x : Entry V). x.state) (sym same) ∙ was.state_is;
              };
          children = λ b j less from high within.
              let was = tree.winners b less in
              let above = sym (before (winner b) was.from was.there) ∙ at (winner b) in
              subst (λ x. IsChildOf U.region (winner b) x j (entry_at R.monoid.unit U.entries.items (child_number (placed X) b j))) above
              (⊎_elim
              (λ (late : length T.entries.items < child_number (placed X) b j).
              let is : length T.entries.items + 1 ≡ child_number (placed X) b j = omega (arith, late, within, total) in
              let both = same_child (placed X) a b i j next.from next.upto from high (sym next.is ∙ is) in
              subst (λ m. IsChildOf U.region (winner b) (entry_at R.monoid.unit T.entries.items (winner b)) j (entry_at R.monoid.unit U.entries.items m)) is
              (subst (IsChildOf U.region (winner b) (entry_at R.monoid.unit T.entries.items (winner b)) j) (sym last ∙ at (length T.entries.items + 1))
              (subst (λ k. IsChildOf U.region (winner b) (entry_at R.monoid.unit T.entries.items (winner b)) k e) both.1
              (subst (λ c. IsChildOf U.region (winner c) (entry_at R.monoid.unit T.entries.items (winner c)) i e) both.0 next.child_of))))
              (λ (early : child_number (placed X) b j ≤ length T.entries.items).
              subst (IsChildOf U.region (winner b) (entry_at R.monoid.unit T.entries.items (winner b)) j) (sym (before (child_number (placed X) b j) (omega arith) early) ∙ at (child_number (placed X) b j)) (old_child b j less from high early))
              (cases_lt (length T.entries.items) (child_number (placed X) b j)));
          frontier = subst (λ xs. IsFrontier X given (is_open_at R.monoid.unit xs upto) part) (sym entries_are) (frontier_more R.monoid.unit T.entries.items e upto fits X given part tree.frontier next.open_or_empty);
        }
