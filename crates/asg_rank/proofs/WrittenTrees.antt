-- The nodes that are written of a tree are a search tree.
use Rattle.asg_rank.proofs.Common.{◌≡◌, ℕ, zero, suc, ◌+◌, ◌-◌, ◌*◌, ◌<◌, ◌≤◌, Bool, true, false, ◌&&◌, eqb, List, [], ◌++◌, map, length, get_or, None, Option, sym, refl, ap, ◌∙◌, subst, ⊎_elim, append-nil, mul-le-mul_right, arith, eq-eqb, eqb-true, and_from, and_parts, append_cancel_left, cases_lt, false≢true, map-append, placed, IsHall, Problem, square_side, IsValid, Whole, entry_at, child_number, hall_at, Rules, given_at, HasState, HasNoPhases, IsTree, Entry, State, Answered, Open, Empty, Tree, placed_at, Word, phases_to, PhaseOf, worded, AreAdmittedPhases, AreOwn, IsWrittenMark, IsWrittenNode, AreWrittenNodes, node_at, IsNumber, answer_number, answer_at, node_answer, node_instance, node_trail, is_answered, IsBelowParent, child_count, HasAnswer, HasTrail, IsMarked, IsSoundNode, IsGiven, Node, square_cell}
use Rattle.asg_rankings.specs.Children.{child}
use Rattle.asg_rankings.specs.declared.nodes.Mark.{Mark}
use Rattle.asg_rankings.specs.laws.NodeInstances.{instances_are, node_trail-child}
use Rattle.asg_rank.proofs.CountOne.{count_one}
use Rattle.asg_rankings.specs.declared.nodes.Mark.TheVariants.{Answered as MarkAnswered, Open as MarkOpen}

module _ {V : Type 0} (R : Rules V) (word_of : V → Word) (X : Problem) (given : List (List (Option ℕ))) (winner : ℕ → ℕ) (T : Tree V) (part : ℕ → Problem)
    (tree : IsTree R X given winner (length T.entries.items) T part) (valid : (a : ℕ) → a < length given → IsValid (part (winner a)) (given_at given a))
    (nodes : List Node) (written : AreWrittenNodes R.monoid.unit word_of T nodes)
  where
    abbrev entry : ℕ → Entry V
    entry n = entry_at R.monoid.unit T.entries.items n

    node_of : (n : ℕ) → 1 ≤ n → n ≤ length nodes → IsWrittenNode R.monoid.unit word_of T (entry n) (node_at nodes n)
    node_of n from upto = written.each n from upto

    mark_of : (n : ℕ) → 1 ≤ n → n ≤ length nodes → (s : State) → (entry n).state ≡ s → IsWrittenMark T.halls s (node_at nodes n).mark
    mark_of n from upto s is = subst (λ x. IsWrittenMark T.halls x (node_at nodes n).mark) is (node_of n from upto).mark_is

    upto_given : (n : ℕ) → n ≤ length nodes → n ≤ 1 + length given * placed X
    upto_given n upto = let e = tree.upto_is in let c = written.count in omega (arith, upto, e, c)

    -- the node with an answer has its mark
    winner_mark : (a : ℕ) → a < length given → (node_at nodes (winner a)).mark ≡ MarkAnswered (a + 1)
    winner_mark a less =
        let w = tree.winners a less in
        let t = w.there in
        let c = written.count in
        mark_of (winner a) w.from (omega (arith, t, c)) (Answered (a + 1)) w.state_is

    -- where node number n stands below the root
    below_facts : (n a i : ℕ) → a < length given → 1 ≤ i → i ≤ placed X → n ≡ child_number (placed X) a i → 1 ≤ n → n ≤ length nodes → ((node_at nodes n).parent ≡ winner a) × ((node_at nodes n).branch ≡ i)
    below_facts n a i less from upto is low high =
        let c = written.count in
        let child_of = tree.children a i less from upto (omega (arith, high, c, is)) in
        let w = node_of n low high in
        (w.parent_is ∙ ap (λ m. (entry m).parent) is ∙ child_of.parent_is, w.branch_is ∙ ap (λ m. (entry m).branch) is ∙ child_of.branch_is)

    below : (n : ℕ) → 1 < n → n ≤ length nodes → IsBelowParent (placed X) nodes n
    below n low high =
        let at = placed_at (placed X) (length given) n low (upto_given n high) in
        let w = tree.winners at.answer at.given in
        let f = below_facts n at.answer at.branch at.given at.from at.upto at.is (omega (arith, low)) high in
        let parent_is = f.0 in
        let first = w.from in
        let last = w.upto in
        let is = at.is in
        let branch_from = at.from in
        record {
          there = omega (arith, parent_is, first);
          before = omega (arith, parent_is, last, is, branch_from);
          answered = ap (λ m. is_answered (node_at nodes m).mark) f.0 ∙ ap is_answered (winner_mark at.answer at.given);
          branch_from = subst (λ b. 1 ≤ b) (sym f.1) at.from;
          branch_upto = subst (λ b. b ≤ placed X) (sym f.1) at.upto;
        }

    falls : (n : ℕ) → 1 < n → n ≤ length nodes → (node_at nodes n).parent < n
    falls n low high = (below n low high).before

    rises : (n : ℕ) → 1 < n → n ≤ length nodes → 1 ≤ (node_at nodes n).parent
    rises n low high = (below n low high).there

    part_below : (n : ℕ) → 1 < n → n ≤ length nodes → part n ≡ child (part (node_at nodes n).parent) (node_answer given nodes (node_at nodes n).parent) (node_at nodes n).branch
    part_below n low high =
        let at = placed_at (placed X) (length given) n low (upto_given n high) in
        let f = below_facts n at.answer at.branch at.given at.from at.upto at.is (omega (arith, low)) high in
        let answer_is : node_answer given nodes (winner at.answer) ≡ given_at given at.answer =
        ap (λ m. answer_at given (answer_number m)) (winner_mark at.answer at.given) ∙ ap (λ k. get_or given k []) (let e : at.answer + 1 - 1 ≡ at.answer = omega arith in e) in
        ap part at.is ∙ tree.parts.children at.answer at.branch at.given at.from at.upto
        ∙ (λ q. child (part (winner at.answer)) (sym answer_is q) at.branch)
        ∙ (λ q. child (part (sym f.0 q)) (node_answer given nodes (sym f.0 q)) (sym f.1 q))

    -- the part of each node is its instance
    pub part_is : (n : ℕ) → 1 ≤ n → n ≤ length nodes → part n ≡ node_instance X given nodes n
    part_is n low high = instances_are X given nodes falls rises part tree.parts.root part_below n n (omega arith) low high

    abbrev words_to : ℕ → List (PhaseOf Word)
    words_to n = map (worded word_of) (phases_to T.region (entry n).trail)

    trail_within_is : (steps n : ℕ) → n ≤ steps → 1 ≤ n → n ≤ length nodes → node_trail nodes n ≡ words_to n
    trail_within_is zero n few low high = absurd (omega (arith, few, low))
    trail_within_is (suc steps) n few low high =
        ⊎_elim
        (λ (root : n < 2).
        let is : 1 ≡ n = omega (arith, root, low) in
        subst (λ m. node_trail nodes m ≡ words_to m) is
        ((node_of 1 (omega arith) (omega (arith, low, high))).own_are.root tree.root.parent_is))
        (λ (later : 2 ≤ n).
        let parent = (node_at nodes n).parent in
        let b = below n later high in
        let before = b.before in
        let w = node_of n low high in
        let up = trail_within_is steps parent (omega (arith, before, few)) b.there (omega (arith, before, high)) in
        let own = subst (λ m. IsOwnWords n m) (sym w.parent_is) (w.own_are.below (subst (λ m. 1 ≤ m) w.parent_is b.there)) in
        node_trail-child nodes falls rises n later high
        ∙ ap (λ trail. trail ++ (node_at nodes n).own) up
        ∙ ap (λ words. words_to parent ++ words) own.words
        ∙ sym (map-append (worded word_of) (phases_to T.region (entry parent).trail) own.own)
        ∙ ap (map (worded word_of)) (sym own.list))
        (cases_lt n 2)
      where
        IsOwnWords : ℕ → ℕ → Type 0
        IsOwnWords n m = AreOwn word_of T.region (entry m).trail (entry n).trail (node_at nodes n).own

    -- the trail of each node is that of its phases, with each step as its word
    pub trail_is : (n : ℕ) → 1 ≤ n → n ≤ length nodes → node_trail nodes n ≡ words_to n
    trail_is n low high = trail_within_is n n (omega arith) low high

    -- the trail of each node is admitted from its instance
    abbrev pub has_trail : (n : ℕ) → 1 ≤ n → n ≤ length nodes → HasTrail R.monoid R.difference word_of R.enter X given nodes n
    has_trail n low high =
        let c = written.count in
        let leads = (tree.nodes n low (omega (arith, high, c))).leads in
        record {
          phases = phases_to T.region (entry n).trail;
          written = sym (trail_is n low high);
          admitted = subst (λ Y. AreAdmittedPhases R.monoid R.difference (square_side Y) (phases_to T.region (entry n).trail) (square_cell Y R.monoid.unit R.enter)) (part_is n low high) leads.admitted;
        }

    -- a node whose mark is open is open
    pub state_of_open : (n : ℕ) → 1 ≤ n → n ≤ length nodes → (node_at nodes n).mark ≡ MarkOpen → (entry n).state ≡ Open
    state_of_open n low high is = by (entry n).state refl
      where
        open_mark : Mark → Bool
        open_mark MarkOpen = true
        open_mark _ = false

        by : (s : State) → (entry n).state ≡ s → (entry n).state ≡ Open
        by (Answered b) e = absurd (false≢true (sym (ap open_mark (mark_of n low high (Answered b) e)) ∙ ap open_mark is))
        by Open e = e
        by (Empty h) e = absurd (false≢true (sym (ap open_mark (mark_of n low high (Empty h) e)) ∙ ap open_mark is))

    answered_same : (b d : ℕ) → Answered b ≡ Answered d → b ≡ d
    answered_same b d e = ap answer_of e
      where
        answer_of : State → ℕ
        answer_of (Answered x) = x
        answer_of Open = 0
        answer_of (Empty h) = 0

    -- each branch of a node with an answer has one node
    one_child : (a i : ℕ) → a < length given → 1 ≤ i → i ≤ placed X → child_count nodes (winner a) i ≡ 1
    one_child a i less from upto =
        let c = written.count in
        let e = tree.upto_is in
        let n = child_number (placed X) a i in
        let far = mul-le-mul_right (placed X) (let s : a + 1 ≤ length given = omega (arith, less) in s) in
        let inside : n ≤ length nodes = omega (arith, far, upto, c, e) in
        let f = below_facts n a i less from upto refl (omega arith) inside in
        let d : Node = record { parent = 0; branch = 0; mark = MarkOpen; own = [] } in
        count_one (λ node. eqb node.parent (winner a) && eqb node.branch i) d nodes (n - 1) (omega (arith, inside))
        (and_from (eqb (node_at nodes n).parent (winner a)) (eqb (node_at nodes n).branch i) (eq-eqb (node_at nodes n).parent (winner a) f.0) (eq-eqb (node_at nodes n).branch i f.1))
        (λ j h passes.
        let both = and_parts (eqb (get_or nodes j d).parent (winner a)) (eqb (get_or nodes j d).branch i) passes in
        let parent_is = eqb-true (get_or nodes j d).parent (winner a) both.0 in
        let branch_is = eqb-true (get_or nodes j d).branch i both.1 in
        here a i less j h parent_is branch_is)
      where
        here : (a i : ℕ) → a < length given → (j : ℕ) → j < length nodes → (get_or nodes j (record { parent = 0; branch = 0; mark = MarkOpen; own = [] })).parent ≡ winner a → (get_or nodes j (record { parent = 0; branch = 0; mark = MarkOpen; own = [] })).branch ≡ i → j ≡ child_number (placed X) a i - 1
        here a i less zero h parent_is branch_is =
            let w = tree.winners a less in
            let first = w.from in
            let none : (node_at nodes 1).parent ≡ 0 = (node_of 1 (omega arith) (omega (arith, h))).parent_is ∙ tree.root.parent_is in
            absurd (omega (arith, none, parent_is, first))
        here a i less (suc j) h parent_is branch_is =
            let n = suc (suc j) in
            let at = placed_at (placed X) (length given) n (omega arith) (upto_given n (omega (arith, h))) in
            let f = below_facts n at.answer at.branch at.given at.from at.upto at.is (omega arith) (omega (arith, h)) in
            let w = tree.winners a less in
            let v = tree.winners at.answer at.given in
            let d : Node = record { parent = 0; branch = 0; mark = MarkOpen; own = [] } in
            let node_is : node_at nodes n ≡ get_or nodes (suc j) d = ap (λ m. get_or nodes m d) (let e : n - 1 ≡ suc j = omega arith in e) in
            let same_node : winner at.answer ≡ winner a = sym f.0 ∙ ap (λ (x : Node). x.parent) node_is ∙ parent_is in
            let same_state : at.answer + 1 ≡ a + 1 = answered_same (at.answer + 1) (a + 1) (sym v.state_is ∙ ap (λ m. (entry m).state) same_node ∙ w.state_is) in
            let same_answer : at.answer ≡ a = omega (arith, same_state) in
            let same_branch : at.branch ≡ i = sym f.1 ∙ ap (λ (x : Node). x.branch) node_is ∙ branch_is in
            let number : child_number (placed X) at.answer at.branch ≡ child_number (placed X) a i = (λ q. child_number (placed X) (same_answer q) (same_branch q)) in
            let is = at.is in
            omega (arith, is, number)

    -- a node whose mark has an answer is the one with that answer
    mark_winner : (n b : ℕ) → 1 ≤ n → n ≤ length nodes → (s : State) → (entry n).state ≡ s → answer_number (node_at nodes n).mark ≡ b + 1 → (b < length given) × (winner b ≡ n)
    mark_winner n b low high (Answered x) is number =
        let c = written.count in
        let state = subst (HasState given winner T.halls (part n) n) is (tree.nodes n low (omega (arith, high, c))).state_is in
        let x_is : x ≡ b + 1 = sym (ap answer_number (mark_of n low high (Answered x) is)) ∙ number in
        let a_is = state.1 in
        let same : state.0 ≡ b = omega (arith, x_is, a_is) in
        (subst (λ a. a < length given) same state.2, ap winner (sym same) ∙ state.3)
    mark_winner n b low high Open is number = absurd (let e = sym (ap answer_number (mark_of n low high Open is)) ∙ number in omega (arith, e))
    mark_winner n b low high (Empty h) is number = absurd (let e = sym (ap answer_number (mark_of n low high (Empty h) is)) ∙ number in omega (arith, e))

    has_answer : (n a : ℕ) → 1 ≤ n → n ≤ length nodes → a < length given → winner a ≡ n → HasAnswer X given nodes n (a + 1)
    has_answer n a low high less wins = record {
      from = omega arith;
      upto = omega (arith, less);
      first = λ m low_m before number.
          let w = mark_winner m a low_m (omega (arith, before, high)) (entry m).state refl number in
          let other = w.1 in
          omega (arith, other, wins, before);
      valid = subst (λ f. IsValid (node_instance X given nodes n) f) (sym (ap (λ k. get_or given k []) (let e : a + 1 - 1 ≡ a = omega arith in e)))
          (subst (λ Y. IsValid Y (given_at given a)) (ap part wins ∙ part_is n low high) (valid a less));
      branches = λ i from upto. subst (λ m. child_count nodes m i ≡ 1) wins (one_child a i less from upto);
    }

    no_own : (n h : ℕ) → 1 ≤ n → n ≤ length nodes → (entry n).state ≡ Empty h → (node_at nodes n).own ≡ []
    no_own n h low high is =
        ⊎_elim
        (λ (root : n < 2).
        let first : 1 ≡ n = omega (arith, root, low) in
        let empty = subst (HasNoPhases None (entry 1).trail) (ap (λ m. (entry m).state) first ∙ is) tree.root.empty in
        subst (λ m. (node_at nodes m).own ≡ []) first
        ((node_of 1 (omega arith) (omega (arith, low, high))).own_are.root tree.root.parent_is ∙ ap (λ t. map (worded word_of) (phases_to T.region t)) empty))
        (λ (later : 2 ≤ n).
        let at = placed_at (placed X) (length given) n later (upto_given n high) in
        let f = below_facts n at.answer at.branch at.given at.from at.upto at.is low high in
        let c = written.count in
        let at_is = at.is in
        let child_of = tree.children at.answer at.branch at.given at.from at.upto (omega (arith, high, c, at_is)) in
        let state_is = ap (λ m. (entry m).state) (sym at.is) ∙ is in
        let same : (entry n).trail ≡ (entry (winner at.answer)).trail = ap (λ m. (entry m).trail) at.is ∙ subst (HasNoPhases (entry (winner at.answer)).trail (entry (child_number (placed X) at.answer at.branch)).trail) state_is child_of.empty in
        let w = node_of n low high in
        let b = below n later high in
        let parent_is : (entry n).parent ≡ winner at.answer = sym w.parent_is ∙ f.0 in
        let own = subst (λ m. AreOwn word_of T.region (entry m).trail (entry n).trail (node_at nodes n).own) parent_is (w.own_are.below (subst (λ m. 1 ≤ m) w.parent_is b.there)) in
        let list : phases_to T.region (entry (winner at.answer)).trail ++ own.own ≡ phases_to T.region (entry (winner at.answer)).trail ++ [] = sym own.list ∙ ap (phases_to T.region) same ∙ sym (append-nil (phases_to T.region (entry (winner at.answer)).trail)) in
        own.words ∙ ap (map (worded word_of)) (append_cancel_left (phases_to T.region (entry (winner at.answer)).trail) own.own [] list))
        (cases_lt n 2)

    marked : (n : ℕ) → 1 ≤ n → n ≤ length nodes → (s : State) → (entry n).state ≡ s → IsMarked R.monoid R.difference word_of R.enter X given nodes n (node_at nodes n).mark
    marked n low high (Answered b) is =
        let c = written.count in
        let state = subst (HasState given winner T.halls (part n) n) is (tree.nodes n low (omega (arith, high, c))).state_is in
        subst (IsMarked R.monoid R.difference word_of R.enter X given nodes n) (sym (mark_of n low high (Answered b) is ∙ ap MarkAnswered state.1))
        (has_answer n state.0 low high state.2 state.3, has_trail n low high)
    marked n low high Open is =
        subst (IsMarked R.monoid R.difference word_of R.enter X given nodes n) (sym (mark_of n low high Open is)) (has_trail n low high)
    marked n low high (Empty h) is =
        let c = written.count in
        let state = subst (HasState given winner T.halls (part n) n) is (tree.nodes n low (omega (arith, high, c))).state_is in
        subst (IsMarked R.monoid R.difference word_of R.enter X given nodes n) (sym (mark_of n low high (Empty h) is))
        (subst (λ Y. IsHall Y Whole (hall_at T.halls h)) (part_is n low high) state.1, no_own n h low high is)

    -- each node is as it must be
    pub sound_node : (n : ℕ) → IsNumber nodes n → IsSoundNode R.monoid R.difference word_of R.enter X given nodes n
    sound_node n number = record {
      has_place = record {
        root_parent = λ root. ap (λ m. (node_at nodes m).parent) root ∙ (node_of 1 (omega arith) (let low = number.0 in let high = number.1 in omega (arith, low, high))).parent_is ∙ tree.root.parent_is;
        root_branch = λ root. ap (λ m. (node_at nodes m).branch) root ∙ (node_of 1 (omega arith) (let low = number.0 in let high = number.1 in omega (arith, low, high))).branch_is ∙ tree.root.branch_is;
        below = λ low. below n low number.1;
      };
      marked = marked n number.0 number.1 (entry n).state refl;
    }

    -- each answer has a node
    pub given_node : (a : ℕ) → 1 ≤ a → a ≤ length given → IsGiven nodes a
    given_node a from upto =
        let less : a - 1 < length given = omega (arith, from, upto) in
        let w = tree.winners (a - 1) less in
        let t = w.there in
        let c = written.count in
        record {
          node = winner (a - 1);
          there = (w.from, omega (arith, t, c));
          marked = winner_mark (a - 1) less ∙ ap MarkAnswered (let e : a - 1 + 1 ≡ a = omega (arith, from) in e);
        }
