-- The nodes that name a parent, one after another.
use Rattle.asg_trees.proofs.Common.{◌≡◌, ℕ, ◌+◌, ◌-◌, ◌<◌, ◌≤◌, Bool, true, false, cond, ◌&&◌, eqb, ◌≢◌, ◌⊎◌, List, length, get_or, take, count_by, sym, refl, ap, ◌∙◌, subst, inl, inr, ⊎_elim, arith, take_all, eq-eqb, ne_eqb, cases_eq, cases_lt, cond-false, cond-true, count_by_more_no, count_by_more_yes, node_at, HasPlace, child_count, Node, AreGroups, IsNextWith, key_at, parent_keys, IsFair, IsJudged, IsTallied, Judges, judged_before, with_judgement, TreeOf, Judgement, Tally}
use Rattle.asg_trees.specs.declared.groups.Groups.{Groups}
use Rattle.asg_trees.proofs.GroupLemmas.{count_skip, no_node, parent_count, parent_key}
use Rattle.asg_trees.proofs.TallyLemmas.{tally_fewer, tally_more}

pub before_none : (nodes member : ℕ) → member ≡ 0 → judged_before nodes member ≡ nodes + 1
before_none nodes member e = cond-true (eqb member 0) (nodes + 1) member (eq-eqb member 0 e)

pub before_some : (nodes member : ℕ) → member ≢ 0 → judged_before nodes member ≡ member
before_some nodes member e = cond-false (eqb member 0) (nodes + 1) member (ne_eqb member 0 e)

pub before_upto : (nodes member : ℕ) → member ≤ nodes → judged_before nodes member ≤ nodes + 1
before_upto nodes member within =
    ⊎_elim
    (λ (zero : member ≡ 0). omega (arith, before_none nodes member zero))
    (λ (some : member ≢ 0). omega (arith, before_some nodes member some, within))
    (cases_eq member 0)

-- a node in its place that names one is below the root
pub below_root : {k parent : ℕ} (nodes : List Node) (n : ℕ) → n ≢ 0 → HasPlace k nodes n → (node_at nodes n).parent ≡ parent → 1 ≤ parent → 1 < n
below_root nodes n some place on from =
    ⊎_elim
    (λ (first : n < 2). absurd (omega (arith, place.root_parent (omega (arith, first, some)), on, from)))
    (λ (later : 2 ≤ n). omega (arith, later))
    (cases_lt n 2)

module _ (nodes : List Node) (parent : ℕ) where
  pub next_within : (c next : ℕ) → IsNextWith (parent_keys nodes) parent c next → next ≤ length nodes
  next_within c next is = omega (arith, is.upto, parent_count nodes)

  -- no node between two that name the parent, one the next after the other, names it
  pub between : (c next j : ℕ) → IsNextWith (parent_keys nodes) parent c next → c < j → j < judged_before (length nodes) next → j ≤ length nodes → (node_at nodes j).parent ≢ parent
  between c next j is after before within e =
      let key = parent_key nodes j (omega (arith, after)) within in
      ⊎_elim
      (λ (zero : next ≡ 0). is.none zero j after (omega (arith, within, parent_count nodes)) (key ∙ e))
      (λ (some : next ≢ 0). is.between some j after (omega (arith, before, before_some (length nodes) next some)) (key ∙ e))
      (cases_eq next 0)

  module _ (branch : ℕ) where
    abbrev counts : Node → Bool
    counts node = eqb node.parent parent && eqb node.branch branch

    counts_off : (j : ℕ) → (node_at nodes j).parent ≢ parent → counts (node_at nodes j) ≡ false
    counts_off j off = ap (λ b. b && eqb (node_at nodes j).branch branch) (ne_eqb (node_at nodes j).parent parent off)

    counts_on : (j : ℕ) → (node_at nodes j).parent ≡ parent → counts (node_at nodes j) ≡ eqb (node_at nodes j).branch branch
    counts_on j on = ap (λ b. b && eqb (node_at nodes j).branch branch) (eq-eqb (node_at nodes j).parent parent on)

    count_here : (c : ℕ) (b : Bool) → 1 ≤ c → c ≤ length nodes → counts (node_at nodes c) ≡ b → count_by counts (take c nodes) ≡ count_by counts (take (c - 1) nodes) + cond b 1 0
    count_here c b from upto is =
        let e : c ≡ (c - 1) + 1 = omega (arith, from) in
        ap (λ n. count_by counts (take n nodes)) e ∙ by b is
      where
        by : (b : Bool) → counts (node_at nodes c) ≡ b → count_by counts (take ((c - 1) + 1) nodes) ≡ count_by counts (take (c - 1) nodes) + cond b 1 0
        by true is = count_by_more_yes counts nodes (c - 1) no_node (omega (arith, from, upto)) is
        by false is = count_by_more_no counts nodes (c - 1) no_node (omega (arith, from, upto)) is ∙ (let z : count_by counts (take (c - 1) nodes) ≡ count_by counts (take (c - 1) nodes) + 0 = omega arith in z)

    -- before the first node that names the parent none is counted
    pub count_first : (next : ℕ) → IsNextWith (parent_keys nodes) parent 0 next → 0 ≡ count_by counts (take (judged_before (length nodes) next - 1) nodes)
    count_first next is =
        let upto = before_upto (length nodes) next (next_within 0 next is) in
        let d = judged_before (length nodes) next - 1 in
        sym
        (ap (λ n. count_by counts (take n nodes)) (let e : d ≡ 0 + d = omega arith in e)
        ∙ count_skip nodes counts 0 d (omega (arith, upto)) (λ j after before. counts_off j (between 0 next j is after (omega (arith, before, after)) (omega (arith, before, upto)))))

    -- one node more that names it
    pub count_next : (c next count : ℕ) → 1 ≤ c → c ≤ length nodes → (node_at nodes c).parent ≡ parent → IsNextWith (parent_keys nodes) parent c next
        → count ≡ count_by counts (take (c - 1) nodes) → count + cond (eqb (node_at nodes c).branch branch) 1 0 ≡ count_by counts (take (judged_before (length nodes) next - 1) nodes)
    count_next c next count from upto on is so_far =
        let last = judged_before (length nodes) next - 1 in
        let high : last ≤ length nodes = omega (arith, before_upto (length nodes) next (next_within c next is)) in
        let low : c ≤ last = ⊎_elim (λ (zero : next ≡ 0). omega (arith, before_none (length nodes) next zero, upto)) (λ (some : next ≢ 0). omega (arith, before_some (length nodes) next some, is.later some)) (cases_eq next 0) in
        let here = count_here c (eqb (node_at nodes c).branch branch) from upto (counts_on c on) in
        ap (λ n. n + cond (eqb (node_at nodes c).branch branch) 1 0) so_far
        ∙ sym here
        ∙ sym
        (ap (λ n. count_by counts (take n nodes)) (let e : last ≡ c + (last - c) = omega (arith, low) in e)
        ∙ count_skip nodes counts c (last - c) (omega (arith, low, high)) (λ j after before. counts_off j (between c next j is after (omega (arith, before, low, after)) (omega (arith, before, low, high)))))

    -- at the end all are counted
    pub count_last : (count : ℕ) → count ≡ count_by counts (take (judged_before (length nodes) 0 - 1) nodes) → count ≡ child_count nodes parent branch
    count_last count is =
        is ∙ ap (λ n. count_by counts (take n nodes)) (let e : judged_before (length nodes) 0 - 1 ≡ length nodes = omega (arith, before_none (length nodes) 0 refl) in e)
        ∙ ap (count_by counts) (take_all (length nodes) nodes (omega arith))

module _ {V : Type 0} (T : TreeOf V) (parent : ℕ) where
  -- before the first node that names the parent none that names it was judged
  pub members_first : (tally : Tally) (next : ℕ) → IsNextWith (parent_keys T.nodes) parent 0 next → IsFair T tally → IsTallied T parent (judged_before (length T.nodes) next) tally
  members_first tally next is t =
      tally_fewer T (λ n. ⊥) (IsJudged T.nodes parent (judged_before (length T.nodes) next)) tally t
      (λ n low high j. between T.nodes parent 0 next n is (omega (arith, low)) j.1 (omega (arith, high, t.upto)) j.0)

  -- a node that names it was judged
  pub member_judged : (tally : Tally) (c next : ℕ) (judgement : Judgement) → IsTallied T parent c tally → 1 ≤ c → c < tally.fault → (node_at T.nodes c).parent ≡ parent → IsNextWith (parent_keys T.nodes) parent c next → Judges T c judgement
      → IsTallied T parent (judged_before (length T.nodes) next) (with_judgement tally c judgement)
  member_judged tally c next judgement t from below on is judges =
      tally_more T (IsJudged T.nodes parent c) (IsJudged T.nodes parent (judged_before (length T.nodes) next)) tally t c from below
      (λ n low high j. more n low high j)
      judgement judges
    where
      more : (n : ℕ) → 1 ≤ n → n < tally.fault → IsJudged T.nodes parent (judged_before (length T.nodes) next) n → (n ≡ c) ⊎ IsJudged T.nodes parent c n
      more n low high named =
          ⊎_elim
          (λ (before : n < c). inr (named.0, before))
          (λ (from : c ≤ n).
          ⊎_elim
          (λ (same : n ≡ c). inl same)
          (λ (other : n ≢ c). absurd (between T.nodes parent c next n is (omega (arith, from, other)) named.1 (omega (arith, high, t.upto)) named.0))
          (cases_eq n c))
          (cases_lt n c)

  -- where one was gone through after another up to the first at fault, each node before that is
  -- before this one
  pub gone_through : (fault member n : ℕ) → fault ≤ length T.nodes + 1 → (member ≡ 0) ⊎ (fault ≤ member) → n < fault → n < judged_before (length T.nodes) member
  gone_through fault member n upto past high =
      ⊎_elim
      (λ (zero : member ≡ 0). omega (arith, before_none (length T.nodes) member zero, high, upto))
      (λ (some : member ≢ 0).
      ⊎_elim (λ (zero : member ≡ 0). absurd (some zero)) (λ (less : fault ≤ member). omega (arith, before_some (length T.nodes) member some, high, less)) past)
      (cases_eq member 0)

  -- then all that name it were judged, before the first at fault
  pub members_done : (tally : Tally) (member : ℕ) → (member ≡ 0) ⊎ (tally.fault ≤ member) → IsTallied T parent (judged_before (length T.nodes) member) tally → IsTallied T parent (length T.nodes + 1) tally
  members_done tally member past t =
      tally_fewer T (IsJudged T.nodes parent (judged_before (length T.nodes) member)) (IsJudged T.nodes parent (length T.nodes + 1)) tally t
      (λ n low high j. (j.0, gone_through tally.fault member n t.upto past high))

module _ (nodes : List Node) (parent : ℕ) (groups : Groups) (are : AreGroups (parent_keys nodes) (length nodes) groups) where
  -- the next node after one that names a parent
  pub next_of_member : (c next : ℕ) → 1 ≤ c → c ≤ length nodes → parent ≤ length nodes → (node_at nodes c).parent ≡ parent → next ≡ get_or groups.next.items c 0 → IsNextWith (parent_keys nodes) parent c next
  next_of_member c next from upto within on is =
      let key : key_at (parent_keys nodes) c ≡ parent = parent_key nodes c from upto ∙ on in
      subst (λ k. IsNextWith (parent_keys nodes) k c next) key
      (subst (IsNextWith (parent_keys nodes) (key_at (parent_keys nodes) c) c) (sym is) (are.nexts c from (omega (arith, upto, parent_count nodes)) (omega (arith, key, within))))

  -- it names the parent too
  pub next_named : (c next : ℕ) → IsNextWith (parent_keys nodes) parent c next → next ≢ 0 → (node_at nodes next).parent ≡ parent
  next_named c next is some = sym (parent_key nodes next (omega (arith, is.later some)) (next_within nodes parent c next is)) ∙ is.same some

  -- what is left falls
  pub member_falls : (c next : ℕ) → c ≢ 0 → c ≤ length nodes → IsNextWith (parent_keys nodes) parent c next → cond (eqb next 0) 0 (length nodes + 1 - next) < cond (eqb c 0) 0 (length nodes + 1 - c)
  member_falls c next some upto is =
      let here = cond-false (eqb c 0) 0 (length nodes + 1 - c) (ne_eqb c 0 some) in
      ⊎_elim
      (λ (zero : next ≡ 0).
      let none = cond-true (eqb next 0) 0 (length nodes + 1 - next) (eq-eqb next 0 zero) in
      omega (arith, here, none, upto))
      (λ (more : next ≢ 0).
      let there = cond-false (eqb next 0) 0 (length nodes + 1 - next) (ne_eqb next 0 more) in
      omega (arith, here, there, upto, is.later more))
      (cases_eq next 0)
