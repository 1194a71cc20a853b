-- Numbers that are grouped by a key, one after another, the greatest first.
use Rattle.asg_trees.proofs.Common.{◌≡◌, ℕ, zero, suc, ◌+◌, ◌-◌, ◌<◌, ◌≤◌, Bool, true, false, cond, ◌≢◌, List, [], length, get_or, take, set, nat_lt, count_by, sym, refl, ap, ◌∙◌, subst, ⊎_elim, arith, length-set, get_or-set_other, get_or-set_same, le-ltb, lt-ltb, cases_eq, cases_lt, count_by_more_no, get_or-map, length-map, answer_number, node_at, IsGiven, Mark, Answered, Open, Empty, Node, AreGroupsAbove, IsNextWith, answer_keys, key_at, linked_first, linked_next, parent_keys}

-- ---- one number more

module _ (keys : List ℕ) where
  -- the least number after one is that after the one before, where this one has another key
  next_before : (key n b next : ℕ) → n ≡ b + 1 → key_at keys n ≢ key → IsNextWith keys key n next → IsNextWith keys key b next
  next_before key n b next e other is = record {
    none = λ zero j after upto. at j after (λ past. is.none zero j past upto);
    later = λ some. omega (arith, is.later some, e);
    upto = is.upto;
    same = is.same;
    between = λ some j after before. at j after (λ past. is.between some j past before);
  }
    where
      at : (j : ℕ) → b < j → (n < j → key_at keys j ≢ key) → key_at keys j ≢ key
      at j after past =
          ⊎_elim
          (λ (later : n < j). past later)
          (λ (not : j ≤ n). let same : n ≡ j = omega (arith, not, after, e) in subst (λ m. key_at keys m ≢ key) same other)
          (cases_lt n j)

  -- this one is the least after the one before that has its key
  next_here : (n b : ℕ) → n ≡ b + 1 → n ≤ length keys → IsNextWith keys (key_at keys n) b n
  next_here n b e within = record {
    none = λ zero. absurd (omega (arith, zero, e));
    later = λ some. omega (arith, e);
    upto = within;
    same = λ some. refl;
    between = λ some j after before. absurd (omega (arith, after, before, e));
  }

  module _ (count n b : ℕ) (e : n ≡ b + 1) (within : n ≤ length keys) (first next : List ℕ) (are : AreGroupsAbove keys count n first next) where
    abbrev key : ℕ
    key = key_at keys n

    in_first : key ≤ count → nat_lt key (length first) ≡ true
    in_first few = lt-ltb key (length first) (omega (arith, few, are.first_count))

    linked_in : key ≤ count → AreGroupsAbove keys count b (set first key n) (set next n (get_or first key 0))
    linked_in few = record {
      first_count = length-set first key n ∙ are.first_count;
      next_count = length-set next n (get_or first key 0) ∙ are.next_count;
      firsts = λ k low.
          ⊎_elim
          (λ (same : k ≡ key).
          subst (λ x. IsNextWith keys k b x) (sym (ap (λ i. get_or (set first key n) i 0) same ∙ get_or-set_same first key n 0 (omega (arith, few, are.first_count))))
          (subst (λ i. IsNextWith keys i b n) (sym same) (next_here n b e within)))
          (λ (other : k ≢ key).
          subst (λ x. IsNextWith keys k b x) (sym (get_or-set_other first key k n 0 other))
          (next_before k n b (get_or first k 0) e (λ is. other (sym is)) (are.firsts k low)))
          (cases_eq k key);
      nexts = λ m after upto low.
          ⊎_elim
          (λ (same : m ≡ n).
          subst (λ x. IsNextWith keys (key_at keys m) m x) (sym (ap (λ i. get_or (set next n (get_or first key 0)) i 0) same ∙ get_or-set_same next n (get_or first key 0) 0 (omega (arith, within, are.next_count))))
          (subst (λ i. IsNextWith keys (key_at keys i) i (get_or first key 0)) (sym same) (are.firsts key few)))
          (λ (other : m ≢ n).
          subst (λ x. IsNextWith keys (key_at keys m) m x) (sym (get_or-set_other next n m (get_or first key 0) 0 other))
          (are.nexts m (omega (arith, after, e, other)) upto low))
          (cases_eq m n);
    }

    linked_out : count < key → AreGroupsAbove keys count b first next
    linked_out many = record {
      first_count = are.first_count;
      next_count = are.next_count;
      firsts = λ k low. next_before k n b (get_or first k 0) e (λ is. omega (arith, is, low, many)) (are.firsts k low);
      nexts = λ m after upto low.
          ⊎_elim
          (λ (same : m ≡ n). absurd (omega (arith, ap (key_at keys) same, low, many)))
          (λ (other : m ≢ n). are.nexts m (omega (arith, after, e, other)) upto low)
          (cases_eq m n);
    }

    -- one number is put before the others of its key
    pub linked : AreGroupsAbove keys count b (linked_first first key n) (linked_next first next key n)
    linked =
        ⊎_elim
        (λ (few : key < count + 1).
        let is = in_first (omega (arith, few)) in
        subst (λ firsts. AreGroupsAbove keys count b firsts (linked_next first next key n)) (sym (ap (λ c. cond c (set first key n) first) is))
        (subst (λ nexts. AreGroupsAbove keys count b (set first key n) nexts) (sym (ap (λ c. cond c (set next n (get_or first key 0)) next) is))
        (linked_in (omega (arith, few)))))
        (λ (many : count + 1 ≤ key).
        let is : nat_lt key (length first) ≡ false = le-ltb key (length first) (omega (arith, many, are.first_count)) in
        subst (λ firsts. AreGroupsAbove keys count b firsts (linked_next first next key n)) (sym (ap (λ c. cond c (set first key n) first) is))
        (subst (λ nexts. AreGroupsAbove keys count b first nexts) (sym (ap (λ c. cond c (set next n (get_or first key 0)) next) is))
        (linked_out (omega (arith, many)))))
        (cases_lt key (count + 1))

-- ---- nodes

-- what is read past the last node
abbrev pub no_node : Node
no_node = record { parent = 0; branch = 0; mark = Open; own = [] }

pub parent_key : (nodes : List Node) (n : ℕ) → 1 ≤ n → n ≤ length nodes → key_at (parent_keys nodes) n ≡ (node_at nodes n).parent
parent_key nodes n from upto = get_or-map (λ (node : Node). node.parent) nodes (n - 1) no_node 0 (omega (arith, from, upto))

pub parent_count : (nodes : List Node) → length (parent_keys nodes) ≡ length nodes
parent_count nodes = length-map nodes (λ (node : Node). node.parent)

pub answer_key : (nodes : List Node) (n : ℕ) → 1 ≤ n → n ≤ length nodes → key_at (answer_keys nodes) n ≡ answer_number (node_at nodes n).mark
answer_key nodes n from upto = get_or-map (λ (node : Node). answer_number node.mark) nodes (n - 1) no_node 0 (omega (arith, from, upto))

-- nodes that don't name a parent aren't counted among its children
pub count_skip : (nodes : List Node) (p : Node → Bool) (a d : ℕ) → a + d ≤ length nodes → ((j : ℕ) → a < j → j ≤ a + d → p (node_at nodes j) ≡ false) → count_by p (take (a + d) nodes) ≡ count_by p (take a nodes)
count_skip nodes p a zero within none = ap (λ n. count_by p (take n nodes)) (let e : a + 0 ≡ a = omega arith in e)
count_skip nodes p a (suc d) within none =
    let more : a + suc d ≡ (a + d) + 1 = omega arith in
    let place : (a + suc d) - 1 ≡ a + d = omega arith in
    ap (λ n. count_by p (take n nodes)) more
    ∙ count_by_more_no p nodes (a + d) no_node (omega (arith, within))
    (sym (ap (λ i. p (get_or nodes i no_node)) place) ∙ none (a + suc d) (omega arith) (omega arith))
    ∙ count_skip nodes p a d (omega (arith, within)) (λ j after before. none j after (omega (arith, before)))

-- a mark with the number of an answer is that of the answer
pub answered_by : (mark : Mark) (a : ℕ) → 1 ≤ a → answer_number mark ≡ a → mark ≡ Answered a
answered_by (Answered b) a from e = ap Answered e
answered_by Open a from e = absurd (omega (arith, from, e))
answered_by (Empty rows) a from e = absurd (omega (arith, from, e))

-- the first node of an answer, if it isn't 0, has it
abbrev pub IsNextAnswer : List Node → ℕ → ℕ → Type 0
IsNextAnswer nodes a next = IsNextWith (answer_keys nodes) a 0 next

pub given_by : (nodes : List Node) (a number : ℕ) → 1 ≤ a → number ≢ 0 → IsNextAnswer nodes a number → IsGiven nodes a
given_by nodes a number from some is =
    let keys = length-map nodes (λ (node : Node). answer_number node.mark) in
    let upto : number ≤ length nodes = omega (arith, is.upto, keys) in
    record {
      node = number;
      there = (is.later some, upto);
      marked = answered_by (node_at nodes number).mark a from (sym (answer_key nodes number (is.later some) upto) ∙ is.same some);
    }

-- the first node of an answer is one that has it, where no node before it has
pub first_is : (nodes : List Node) (a n first : ℕ) → 1 ≤ n → n ≤ length nodes → answer_number (node_at nodes n).mark ≡ a → IsNextAnswer nodes a first → (first ≡ n → (m : ℕ) → 1 ≤ m → m < n → answer_number (node_at nodes m).mark ≢ a) × (((m : ℕ) → 1 ≤ m → m < n → answer_number (node_at nodes m).mark ≢ a) → first ≡ n)
first_is nodes a n first from upto has is = (to, back)
  where
    keys : length (answer_keys nodes) ≡ length nodes
    keys = length-map nodes (λ (node : Node). answer_number node.mark)

    some : first ≢ 0
    some = λ zero. is.none zero n from (omega (arith, upto, keys)) (answer_key nodes n from upto ∙ has)

    to : first ≡ n → (m : ℕ) → 1 ≤ m → m < n → answer_number (node_at nodes m).mark ≢ a
    to same m low high = λ e. is.between some m low (omega (arith, high, same)) (answer_key nodes m low (omega (arith, high, upto)) ∙ e)

    back : ((m : ℕ) → 1 ≤ m → m < n → answer_number (node_at nodes m).mark ≢ a) → first ≡ n
    back none =
        let within : first ≤ length nodes = omega (arith, is.upto, keys) in
        ⊎_elim
        (λ (before : first < n). absurd (none first (is.later some) before (sym (answer_key nodes first (is.later some) within) ∙ is.same some)))
        (λ (after : n ≤ first).
        ⊎_elim
        (λ (same : first ≡ n). same)
        (λ (other : first ≢ n). absurd (is.between some n from (omega (arith, after, other)) (answer_key nodes n from upto ∙ has)))
        (cases_eq first n))
        (cases_lt first n)
