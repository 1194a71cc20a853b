-- Whether nodes are a search tree of answers is decided, node by node.
use Rattle.asg_check.proofs.Common.{◌≡◌, ℕ, zero, suc, ◌<◌, ◌≤◌, true, ◌≢◌, List, [], ◌∷◌, length, Option, sym, refl, ap, ◌∙◌, subst, arith, Bool-discrete, and, dec→stable, of_iff, ℕ_discrete, IsHall, Problem, IsValid, Band, Whole, Cost, dec_below, Monoid, IsLe, Word, AreSpelled, dec_admitted_over, PhaseOf, index_of, IsNumber, answer_at, answer_number, node_at, node_instance, node_trail, AreAdmittedWords, HasAnswer, HasPlace, HasTrail, IsBelowParent, IsGiven, IsMarked, IsSearchTree, IsSoundNode, MayStayOpen, child_count, is_answered, last_answer, IsAtFault, IsLeftOpen, LacksNode, Node, dec_implies, dec_le, dec_some_below, not}
use Rattle.asg_model.specs.Counts.{placed}
use Rattle.asg_model.specs.Shapes.{square_side}
use Rattle.asg_order.specs.Bridge.{choice_fold}
use Rattle.asg_square.specs.Cells.{square_cell}
use Rattle.asg_rankings.specs.declared.nodes.Mark.{Mark}
use Rattle.asg_rankings.specs.declared.nodes.Mark.TheVariants.{Answered, Open, Empty}
use Rattle.asg_replays.specs.laws.PhaseWords.{phases-once}

-- from 1 on up to a number
upto : (P : ℕ → Type 0) (n : ℕ) → ((k : ℕ) → k < n → P (suc k)) → (i : ℕ) → 1 ≤ i → i ≤ n → P i
upto P n all zero from within = absurd (omega (arith, from))
upto P n all (suc k) from within = all k (omega (arith, within))

dec_upto : (P : ℕ → Type 0) → ((i : ℕ) → Dec (P i)) → (n : ℕ) → Dec ((i : ℕ) → 1 ≤ i → i ≤ n → P i)
dec_upto P each n = of_iff (upto P n, λ all k less. all (suc k) (omega arith) (omega (arith, less))) (dec_below (λ k. P (suc k)) (λ k. each (suc k)) n)

-- whether a node has its place
dec_below_parent : (k : ℕ) (nodes : List Node) (n : ℕ) → Dec (IsBelowParent k nodes n)
dec_below_parent k nodes n =
    let node = node_at nodes n in
    of_iff (
      λ all. record { there = all.0; before = all.1.0; answered = all.1.1.0; branch_from = all.1.1.1.0; branch_upto = all.1.1.1.1 },
      λ is. (is.there, (is.before, (is.answered, (is.branch_from, is.branch_upto)))),
    )
    (and (dec_le 1 node.parent) (and (dec_le (suc node.parent) n) (and (Bool-discrete (is_answered (node_at nodes node.parent).mark) true) (and (dec_le 1 node.branch) (dec_le node.branch k)))))

dec_place : (k : ℕ) (nodes : List Node) (n : ℕ) → Dec (HasPlace k nodes n)
dec_place k nodes n =
    let node = node_at nodes n in
    of_iff (λ all. record { root_parent = all.0; root_branch = all.1.0; below = all.1.1 }, λ has. (has.root_parent, (has.root_branch, has.below)))
    (and (dec_implies (ℕ_discrete n 1) (ℕ_discrete node.parent 0)) (and (dec_implies (ℕ_discrete n 1) (ℕ_discrete node.branch 0)) (dec_implies (dec_le 2 n) (dec_below_parent k nodes n))))

-- whether some node has an answer
dec_mark : (a : ℕ) (mark : Mark) → Dec (mark ≡ Answered a)
dec_mark a (Answered b) = of_iff (ap Answered, λ e. cc) (ℕ_discrete b a)
dec_mark a Open = no (λ e. absurd (cc))
dec_mark a (Empty rows) = no (λ e. absurd (cc))

pub dec_given : (nodes : List Node) (a : ℕ) → Dec (IsGiven nodes a)
dec_given nodes a =
    of_iff (
      λ some. record { node = suc some.0; there = (omega arith, omega (arith, some.1)); marked = some.2 },
      λ given. by given.node given.there given.marked,
    )
    (dec_some_below (λ k. (node_at nodes (suc k)).mark ≡ Answered a) (λ k. dec_mark a (node_at nodes (suc k)).mark) (length nodes))
  where
    by : (n : ℕ) → IsNumber nodes n → (node_at nodes n).mark ≡ Answered a → (k : ℕ) × (k < length nodes) × ((node_at nodes (suc k)).mark ≡ Answered a)
    by zero there marked = absurd (omega (arith, there.0))
    by (suc k) there marked = (k, omega (arith, there.1), marked)

pub dec_lacks : (answers : List (List (Option ℕ))) (nodes : List Node) → Dec (LacksNode answers nodes)
dec_lacks answers nodes =
    of_iff (
      λ some. record { number = suc some.0; from = omega arith; upto = omega (arith, some.1); none = some.2 },
      λ lacks. by lacks.number lacks.from lacks.upto lacks.none,
    )
    (dec_some_below (λ k. ¬ IsGiven nodes (suc k)) (λ k. not (dec_given nodes (suc k))) (length answers))
  where
    by : (a : ℕ) → 1 ≤ a → a ≤ length answers → ¬ IsGiven nodes a → (k : ℕ) × (k < length answers) × (¬ IsGiven nodes (suc k))
    by zero from within none = absurd (omega (arith, from))
    by (suc k) from within none = (k, omega (arith, within), none)

-- where valid choices and Hall sets are decided
module _ (decided : record { valid : (X : Problem) (f : List (Option ℕ)) → Dec (IsValid X f); hall : (X : Problem) (band : Band) (ids : List ℕ) → Dec (IsHall X band ids) }) {V : Type 0} (M : Monoid V) (difference : V → V → V) (word_of : V → Word) (enter : Cost → V) (s : AreSpelled M word_of) (X : Problem) (answers : List (List (Option ℕ))) (nodes : List Node) where
  dec_words : (Y : Problem) (words : List (PhaseOf Word)) → Dec (AreAdmittedWords M difference word_of enter Y words)
  dec_words Y words =
      of_iff (
        λ a. record { phases = a.phases; written = a.written; admitted = a.admitted },
        λ a. record { phases = a.phases; written = a.written; admitted = a.admitted },
      )
      (dec_admitted_over M difference word_of enter Y s words)

  dec_trail : (n : ℕ) → Dec (HasTrail M difference word_of enter X answers nodes n)
  dec_trail n = dec_words (node_instance X answers nodes n) (node_trail nodes n)

  dec_answer : (n a : ℕ) → Dec (HasAnswer X answers nodes n a)
  dec_answer n a =
      of_iff (
        λ all. record { from = all.0; upto = all.1.0; first = λ m from less. all.1.1.0 m less from; valid = all.1.1.1.0; branches = all.1.1.1.1 },
        λ has. (has.from, (has.upto, (λ m less from. has.first m from less, (has.valid, has.branches)))),
      )
      (and (dec_le 1 a) (and (dec_le a (length answers)) (and (dec_below (λ m. 1 ≤ m → answer_number (node_at nodes m).mark ≢ a) (λ m. dec_implies (dec_le 1 m) (not (ℕ_discrete (answer_number (node_at nodes m).mark) a))) n)
      (and (decided.valid (node_instance X answers nodes n) (answer_at answers a)) (dec_upto (λ i. child_count nodes n i ≡ 1) (λ i. ℕ_discrete (child_count nodes n i) 1) (placed X))))))

  dec_marked : (n : ℕ) (mark : Mark) → Dec (IsMarked M difference word_of enter X answers nodes n mark)
  dec_marked n (Answered a) = and (dec_answer n a) (dec_trail n)
  dec_marked n Open = dec_trail n
  dec_marked n (Empty rows) = and (decided.hall (node_instance X answers nodes n) Whole rows) (no_phases (node_at nodes n).own)
    where
      no_phases : (words : List (PhaseOf Word)) → Dec (words ≡ [])
      no_phases [] = yes refl
      no_phases (w ∷ words) = no (λ e. absurd (cc))

  pub dec_sound : (n : ℕ) → Dec (IsSoundNode M difference word_of enter X answers nodes n)
  dec_sound n = of_iff (λ both. record { has_place = both.0; marked = both.1 }, λ is. (is.has_place, is.marked)) (and (dec_place (placed X) nodes n) (dec_marked n (node_at nodes n).mark))

  dec_number : (n : ℕ) → Dec (IsNumber nodes n)
  dec_number n = and (dec_le 1 n) (dec_le n (length nodes))

  pub dec_at_fault : (n : ℕ) → Dec (IsAtFault M difference word_of enter X answers nodes n)
  dec_at_fault n = of_iff (λ both. record { there = both.0; fault = both.1 }, λ is. (is.there, is.fault)) (and (dec_number n) (not (dec_sound n)))

  module _ (count : ℕ) where
    pub dec_open : (n : ℕ) → Dec (MayStayOpen M difference word_of enter X count answers nodes n)
    dec_open n = by (dec_le count (length answers)) (dec_trail n)
      where
        with_trail : count ≤ length answers → (a : HasTrail M difference word_of enter X answers nodes n) → Dec (IsLe M (choice_fold M enter X (last_answer answers)) (index_of M a.phases)) → Dec (MayStayOpen M difference word_of enter X count answers nodes n)
        with_trail full a (yes bound) = yes (record { full = full; trail = a; bound = bound })
        with_trail full a (no more) =
            no (
            λ may.
            let b = may.trail in
            let Y = node_instance X answers nodes n in
            let same = phases-once M word_of s.value_of s.spelled difference (square_side Y) (square_cell Y M.unit enter) b.phases a.phases b.admitted a.admitted (b.written ∙ sym a.written) in
            more (subst (λ phases. IsLe M (choice_fold M enter X (last_answer answers)) (index_of M phases)) same may.bound)
            )

        by : Dec (count ≤ length answers) → Dec (HasTrail M difference word_of enter X answers nodes n) → Dec (MayStayOpen M difference word_of enter X count answers nodes n)
        by (no fewer) trail = no (λ may. fewer may.full)
        by (yes full) (no none) = no (λ may. none may.trail)
        by (yes full) (yes a) = with_trail full a (Bool-discrete (M.is_le (choice_fold M enter X (last_answer answers)) (index_of M a.phases)) true)

    pub dec_left : (n : ℕ) → Dec (IsLeftOpen M difference word_of enter X count answers nodes n)
    dec_left n = of_iff (λ all. record { there = all.0; marked = all.1.0; may_not = all.1.1 }, λ is. (is.there, (is.marked, is.may_not))) (and (dec_number n) (and (open_mark (node_at nodes n).mark) (not (dec_open n))))
      where
        open_mark : (mark : Mark) → Dec (mark ≡ Open)
        open_mark Open = yes refl
        open_mark (Answered a) = no (λ e. absurd (cc))
        open_mark (Empty rows) = no (λ e. absurd (cc))

    -- nodes against which nothing stands are a search tree of some answers
    pub tree_from_none : 1 ≤ length answers → ((n : ℕ) → ¬ IsAtFault M difference word_of enter X answers nodes n) → ¬ LacksNode answers nodes → ((n : ℕ) → ¬ IsLeftOpen M difference word_of enter X count answers nodes n) → IsSearchTree M difference word_of enter X count answers nodes
    tree_from_none some fine whole closed =
        let given : (a : ℕ) → 1 ≤ a → a ≤ length answers → IsGiven nodes a = λ a from within. dec→stable (dec_given nodes a) (λ none. whole (record { number = a; from = from; upto = within; none = none })) in
        let first = given 1 (omega arith) some in
        record {
          root = omega (arith, first.there.0, first.there.1);
          sound = λ n there. dec→stable (dec_sound n) (λ fault. fine n (record { there = there; fault = fault }));
          given = given;
          open_nodes = λ n there marked. dec→stable (dec_open n) (λ may_not. closed n (record { there = there; marked = marked; may_not = may_not }));
        }
