-- Nodes below another, and what is tallied of them.
use Rattle.asg_trees.proofs.Common.{◌≡◌, ℕ, zero, suc, ◌+◌, ◌<◌, ◌≤◌, true, false, ◌≢◌, ◌⊎◌, List, length, sym, refl, ◌∙◌, subst, inl, inr, ⊎_elim, arith, cases_eq, cases_lt, false≢true, node_at, is_answered, Node, AreSettledBelow, AreSettledBelowEach, AreSettledBut, IsBelow, IsBelowWithin, LeadsOn, IsNextWith, parent_keys, Falls, HavePlaces, IsFair, IsSettled, IsTallied, IsTalliedBy, IsWholeTally, judged_before, TreeOf, Tally}
use Rattle.asg_trees.proofs.SiblingLemmas.{before_some, before_upto, below_root, between, gone_through, next_within}

-- a node below another is its child, or below a child of it
pub below_split : (nodes : List Node) (p steps n : ℕ) → IsBelowWithin nodes p steps n → ((node_at nodes n).parent ≡ p) ⊎ ((c : ℕ) × ((node_at nodes c).parent ≡ p) × IsBelow nodes c n)
below_split nodes p zero n b = absurd b
below_split nodes p (suc steps) n b =
    ⊎_elim
    (λ (child : (node_at nodes n).parent ≡ p). inl child)
    (λ (up : IsBelowWithin nodes p steps (node_at nodes n).parent). inr (by (below_split nodes p steps (node_at nodes n).parent up)))
    b.1
  where
    by : ((node_at nodes (node_at nodes n).parent).parent ≡ p) ⊎ ((c : ℕ) × ((node_at nodes c).parent ≡ p) × IsBelow nodes c (node_at nodes n).parent) → (c : ℕ) × ((node_at nodes c).parent ≡ p) × IsBelow nodes c n
    by (inl is) = ((node_at nodes n).parent, is, (1, (b.0, inl refl)))
    by (inr deep) = (deep.0, deep.1, (suc deep.2.0, (b.0, inr deep.2.1)))

module _ {V : Type 0} (T : TreeOf V) (bound : ℕ) (places : HavePlaces T bound) where
  falls : (n : ℕ) → 1 < n → n < bound → (node_at T.nodes n).parent < n
  falls n low high = ((places n (omega (arith, low)) high).below low).before

  -- where a node is below another, some node up to it names that one
  pub below_child : (c steps n : ℕ) → n < bound → IsBelowWithin T.nodes c steps n → (m : ℕ) × (1 < m) × (m ≤ n) × ((node_at T.nodes m).parent ≡ c)
  below_child c zero n high b = absurd b
  below_child c (suc steps) n high b =
      ⊎_elim
      (λ (child : (node_at T.nodes n).parent ≡ c). (n, b.0, omega arith, child))
      (λ (up : IsBelowWithin T.nodes c steps (node_at T.nodes n).parent).
      let less = falls n b.0 high in
      let more = below_child c steps (node_at T.nodes n).parent (omega (arith, less, high)) up in
      (more.0, more.1, omega (arith, more.2, less), more.3))
      b.1

  -- so that one stands before it, and is answered
  pub below_later : (c n : ℕ) → n < bound → IsBelow T.nodes c n → c < n
  below_later c n high b =
      let m = below_child c b.0 n high b.1 in
      omega (arith, falls m.0 m.1 (omega (arith, m.2, high)), m.2, m.3)

  pub below_from : (c n : ℕ) → n < bound → IsBelow T.nodes c n → 1 ≤ c
  below_from c n high b =
      let m = below_child c b.0 n high b.1 in
      omega (arith, ((places m.0 (omega (arith, m.1)) (omega (arith, m.2, high))).below m.1).there, m.3)

  pub below_answered : (c n : ℕ) → n < bound → IsBelow T.nodes c n → is_answered (node_at T.nodes c).mark ≡ true
  below_answered c n high b =
      let m = below_child c b.0 n high b.1 in
      subst (λ p. is_answered (node_at T.nodes p).mark ≡ true) m.3 ((places m.0 (omega (arith, m.1)) (omega (arith, m.2, high))).below m.1).answered

  -- each node but the root is below it
  pub below_first : (steps n : ℕ) → n ≤ steps → 1 < n → n < bound → IsBelowWithin T.nodes 1 steps n
  below_first zero n few low high = absurd (omega (arith, few, low))
  below_first (suc steps) n few low high =
      let place = (places n (omega (arith, low)) high).below low in
      ⊎_elim
      (λ (root : (node_at T.nodes n).parent < 2). (low, inl (omega (arith, root, place.there))))
      (λ (later : 2 ≤ (node_at T.nodes n).parent). (low, inr (below_first steps (node_at T.nodes n).parent (omega (arith, place.before, few)) (omega (arith, later)) (omega (arith, place.before, high)))))
      (cases_lt (node_at T.nodes n).parent 2)

-- a child that takes over a square stands behind its parent
pub lead_later : {V : Type 0} (T : TreeOf V) (at heir : ℕ) (tally : Tally) → IsFair T tally → LeadsOn T.nodes at heir tally.fault → 1 ≤ at → (1 < heir) × (at < heir) × (heir ≤ length T.nodes)
lead_later T at heir tally fair lead from =
    let place = fair.places heir lead.from lead.before in
    let more = below_root T.nodes heir (λ zero. absurd (omega (arith, zero, lead.from))) place lead.parent from in
    (more, omega (arith, (place.below more).before, lead.parent), omega (arith, lead.before, fair.upto))

module _ {V : Type 0} (T : TreeOf V) where
  -- ---- what is known stays known where no number rises

  settled_fallen : (before after : Tally) → Falls before after → (n : ℕ) → IsSettled T before n → IsSettled T after n
  settled_fallen before after f n s = record { sound = s.sound; stay = λ left. s.stay (omega (arith, left, f.left)) }

  pub tallied_fallen : (Judged : ℕ → Type 0) (before after : Tally) → IsTalliedBy T Judged before → IsFair T after → Falls before after → IsTalliedBy T Judged after
  tallied_fallen Judged before after t fair f = record {
    from = fair.from;
    upto = fair.upto;
    places = fair.places;
    at_fault = fair.at_fault;
    sound = λ n low high j. t.sound n low (omega (arith, high, f.fault)) j;
    left_from = fair.left_from;
    left_open = fair.left_open;
    stay = λ n low high left j. t.stay n low (omega (arith, high, f.fault)) (omega (arith, left, f.left)) j;
  }

  pub below_fallen : (before after : Tally) → Falls before after → (p : ℕ) → AreSettledBelow T p before → AreSettledBelow T p after
  below_fallen before after f p s n low high b = settled_fallen before after f n (s n low (omega (arith, high, f.fault)) b)

  pub but_fallen : (before after : Tally) → Falls before after → (p at : ℕ) → AreSettledBut T p at before → AreSettledBut T p at after
  but_fallen before after f p at s n low high b =
      ⊎_elim
      (λ (left : IsBelow T.nodes at n). inl left)
      (λ (settled : IsSettled T before n). inr (settled_fallen before after f n settled))
      (s n low (omega (arith, high, f.fault)) b)

  -- ---- one level down

  pub but_none : (p : ℕ) (tally : Tally) → AreSettledBut T p p tally
  but_none p tally n low high b = inl b

  module _ (p at heir : ℕ) (tally : Tally) (t : IsTallied T at (length T.nodes + 1) tally) (each : AreSettledBelowEach T at heir (length T.nodes + 1) tally) (but : AreSettledBut T p at tally) where
    level : (n : ℕ) → 1 ≤ n → n < tally.fault → IsBelow T.nodes p n → (((node_at T.nodes heir).parent ≡ at) × IsBelow T.nodes heir n) ⊎ IsSettled T tally n
    level n low high b =
        ⊎_elim
        (λ (left : IsBelow T.nodes at n). by (below_split T.nodes at left.0 n left.1))
        (λ (settled : IsSettled T tally n). inr settled)
        (but n low high b)
      where
        child : (node_at T.nodes n).parent ≡ at → IsSettled T tally n
        child is = record {
          sound = t.sound n low high (is, omega (arith, high, t.upto));
          stay = λ left. t.stay n low high left (is, omega (arith, high, t.upto));
        }

        by : ((node_at T.nodes n).parent ≡ at) ⊎ ((c : ℕ) × ((node_at T.nodes c).parent ≡ at) × IsBelow T.nodes c n) → (((node_at T.nodes heir).parent ≡ at) × IsBelow T.nodes heir n) ⊎ IsSettled T tally n
        by (inl is) = inr (child is)
        by (inr deep) =
            let c = deep.0 in
            let below : IsBelow T.nodes c n = deep.2 in
            ⊎_elim
            (λ (same : c ≡ heir). inl (subst (λ h. ((node_at T.nodes h).parent ≡ at) × IsBelow T.nodes h n) same (deep.1, below)))
            (λ (other : c ≢ heir).
            inr (each c (below_from T tally.fault t.places c n high below) deep.1 other (omega (arith, below_later T tally.fault t.places c n high below, high, t.upto)) n low high below))
            (cases_eq c heir)

    -- all is settled but what is below the child that takes over
    pub but_more : AreSettledBut T p heir tally
    but_more n low high b =
        ⊎_elim
        (λ (left : ((node_at T.nodes heir).parent ≡ at) × IsBelow T.nodes heir n). inl left.1)
        (λ (settled : IsSettled T tally n). inr settled)
        (level n low high b)

    -- where none takes over all is settled
    pub but_last : (LeadsOn T.nodes at heir tally.fault → ⊥) → AreSettledBelow T p tally
    but_last none n low high b =
        ⊎_elim
        (λ (left : ((node_at T.nodes heir).parent ≡ at) × IsBelow T.nodes heir n).
        absurd (none (record {
          from = below_from T tally.fault t.places heir n high left.1;
          before = omega (arith, below_later T tally.fault t.places heir n high left.1, high);
          parent = left.0;
          answered = below_answered T tally.fault t.places heir n high left.1;
        })))
        (λ (settled : IsSettled T tally n). settled)
        (level n low high b)

  -- below a node without an answer there is none
  pub below_none : (p : ℕ) (tally : Tally) → HavePlaces T tally.fault → is_answered (node_at T.nodes p).mark ≡ false → AreSettledBelow T p tally
  below_none p tally places off n low high b = absurd (false≢true (sym off ∙ below_answered T tally.fault places p n high b))

  -- ---- the nodes that name a parent, one after the other

  module _ (parent heir : ℕ) where
    pub each_first : (tally : Tally) (next : ℕ) → IsNextWith (parent_keys T.nodes) parent 0 next → AreSettledBelowEach T parent heir (judged_before (length T.nodes) next) tally
    each_first tally next is m from on other before =
        absurd (between T.nodes parent 0 next m is (omega (arith, from)) before (omega (arith, before, before_upto (length T.nodes) next (next_within T.nodes parent 0 next is))) on)

    pub each_more : (tally after : Tally) (member next : ℕ) → member ≢ 0 → IsNextWith (parent_keys T.nodes) parent member next → Falls tally after → AreSettledBelowEach T parent heir (judged_before (length T.nodes) member) tally
        → (member ≢ heir → AreSettledBelow T member after) → AreSettledBelowEach T parent heir (judged_before (length T.nodes) next) after
    each_more tally after member next some is f each here m from on other before =
        ⊎_elim
        (λ (old : m < member). below_fallen tally after f m (each m from on other (omega (arith, old, before_some (length T.nodes) member some))))
        (λ (new : member ≤ m).
        ⊎_elim
        (λ (same : m ≡ member). subst (λ c. AreSettledBelow T c after) (sym same) (here (λ e. other (same ∙ e))))
        (λ (past : m ≢ member). absurd (between T.nodes parent member next m is (omega (arith, new, past)) before (omega (arith, before, before_upto (length T.nodes) next (next_within T.nodes parent member next is))) on))
        (cases_eq m member))
        (cases_lt m member)

    pub each_last : (tally : Tally) (member : ℕ) → IsFair T tally → (member ≡ 0) ⊎ (tally.fault ≤ member) → AreSettledBelowEach T parent heir (judged_before (length T.nodes) member) tally
        → AreSettledBelowEach T parent heir (length T.nodes + 1) tally
    each_last tally member fair past each m from on other before n low high b =
        let less = below_later T tally.fault fair.places m n high b in
        each m from on other (gone_through T parent tally.fault member m fair.upto past (omega (arith, less, high))) n low high b

  -- ---- all nodes

  -- where all below the root is settled, and the root was judged, all is tallied
  pub whole_below : (tally : Tally) → IsTalliedBy T (λ n. n ≡ 1) tally → AreSettledBelow T 1 tally → IsWholeTally T tally
  whole_below tally t rest = record {
    from = t.from;
    upto = t.upto;
    places = t.places;
    at_fault = t.at_fault;
    sound = λ n low high j.
        ⊎_elim
        (λ (first : n < 2). t.sound n low high (omega (arith, first, low)))
        (λ (later : 2 ≤ n). (settled n low high later).sound)
        (cases_lt n 2);
    left_from = t.left_from;
    left_open = t.left_open;
    stay = λ n low high left j.
        ⊎_elim
        (λ (first : n < 2). t.stay n low high left (omega (arith, first, low)))
        (λ (later : 2 ≤ n). (settled n low high later).stay left)
        (cases_lt n 2);
  }
    where
      settled : (n : ℕ) → 1 ≤ n → n < tally.fault → 2 ≤ n → IsSettled T tally n
      settled n low high later = rest n low high (n, below_first T tally.fault t.places n n (omega arith) (omega (arith, later)) high)

  -- where the first at fault is the root or there is none, too
  pub whole_first : (tally : Tally) → tally.fault ≤ 1 → IsTalliedBy T (λ n. n ≡ 1) tally → IsWholeTally T tally
  whole_first tally few t = whole_below tally t (λ n low high b. absurd (omega (arith, low, high, few)))
