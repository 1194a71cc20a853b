-- A search tree for the costs `1 2 / 4 3`, each entered with 1000000000 added: two answers were
-- asked for.
use Rattle.asg_rankings.proofs.Common.{◌≡◌, ℕ, zero, suc, ◌+◌, ◌<◌, ◌≤◌, Bool, true, false, cond, ◌&&◌, ◌≢◌, List, [], ◌∷◌, map, IsSome, IsTrue, nat_le, slice_get, slice_index_or, Some, None, All, count_by, Option, AllPairs, sym, refl, ap, ◌∙◌, subst, arith, ne_eqb, false≢true, option_map_or, capacity_at, placed, IsHall, is_counted_id, live_at, Problem, IsValid, Chooses, takes, Whole, choice_fold, Word, PhaseOf, phase_of, worded, entered_at, staying_at, square_after, after_phase, AreAdmittedSteps, AreAdmittedPhases, index_of, child, node_at, IsNumber, answer_number, node_instance, node_trail, child_count, IsSoundNode, HasTrail, IsGiven, MayStayOpen, IsSearchTree, Mark, Answered, Open, Empty, Node, square_cell}
use Rattle.asg_proof.specs.Steps.{count_below, IsAdmittedStep}
use Rattle.asg_proof.proofs.WorkedPhase.{cost, row, column, sums, difference, enter}
use Rattle.asg_model.specs.declared.parts.Place.TheVariants.{All as PlaceAll}

abbrev pub small : Problem
small = record {
  rows = row 1 ∷ row 2 ∷ [];
  columns = column 1 ∷ column 2 ∷ [];
  cells = ((0, 0), cost 1) ∷ ((0, 1), cost 2) ∷ ((1, 0), cost 4) ∷ ((1, 1), cost 3) ∷ [];
  place = PlaceAll;
}

abbrev first : List (Option ℕ)
first = Some 0 ∷ Some 1 ∷ []

abbrev second : List (Option ℕ)
second = Some 1 ∷ Some 0 ∷ []

abbrev answers : List (List (Option ℕ))
answers = first ∷ second ∷ []

abbrev word_of : ℕ → Word
word_of n = record { grade = 0; amount = n }

abbrev one_phase : PhaseOf ℕ
one_phase = phase_of (1000000001 ∷ []) (0 ∷ 1 ∷ []) (1 ∷ 1 ∷ [])

abbrev two_phase : PhaseOf ℕ
two_phase = phase_of (1000000003 ∷ []) (1 ∷ 0 ∷ []) (1 ∷ 1 ∷ [])

abbrev three_phase : PhaseOf ℕ
three_phase = phase_of (1 ∷ 1 ∷ []) (0 ∷ 1 ∷ []) (2 ∷ 1 ∷ [])

abbrev node : ℕ → ℕ → Mark → List (PhaseOf ℕ) → Node
node parent branch mark own = record { parent = parent; branch = branch; mark = mark; own = map (worded word_of) own }

abbrev nodes : List Node
nodes =
    node 0 0 (Answered 1) (one_phase ∷ two_phase ∷ []) ∷ node 1 1 (Answered 2) (three_phase ∷ []) ∷ node 1 2 (Empty (1 ∷ 2 ∷ [])) []
    ∷ node 2 1 Open [] ∷ node 2 2 Open [] ∷ []

-- ---- children

-- in the second child both rows have only the first column
second_child : child small first 2 ≡ record small { cells = ((0, 0), cost 1) ∷ ((1, 0), cost 4) ∷ [] }
second_child = refl

first_child : child small first 1 ≡ record small { cells = ((0, 1), cost 2) ∷ ((1, 0), cost 4) ∷ ((1, 1), cost 3) ∷ [] }
first_child = refl

grandchild : node_instance small answers nodes 5 ≡ record small { cells = ((0, 1), cost 2) ∷ ((1, 1), cost 3) ∷ [] }
grandchild = refl

trail : node_trail nodes 5 ≡ map (worded word_of) (one_phase ∷ two_phase ∷ three_phase ∷ [])
trail = refl

one_each : (child_count nodes 1 1 ≡ 1) × (child_count nodes 1 2 ≡ 1) × (child_count nodes 2 1 ≡ 1) × (child_count nodes 3 1 ≡ 0)
one_each = (refl, refl, refl, refl)

-- the last answer's product is the index of the trail
bound : choice_fold sums enter small second ≡ index_of sums (one_phase ∷ two_phase ∷ three_phase ∷ [])
bound = refl

-- ---- trails

abbrev allows : (ℕ → ℕ → Option ℕ) → (ℕ → Bool) → (ℕ → Bool) → ℕ → ℕ → ℕ → Bool
allows Q e s c r k = cond (e r && s k) (option_map_or (λ x. nat_le c x) (Q r k) true) true

allowed : (b d : Bool) (o : Option ℕ) (c x : ℕ) → cond (b && d) (option_map_or (λ y. nat_le c y) o true) true ≡ true → b ≡ true → d ≡ true → o ≡ Some x → nat_le c x ≡ true
allowed true true (Some y) c x h e f at = subst (λ z. nat_le c z ≡ true) (some_is y x at) h
  where
    some_is : (y x : ℕ) → Some y ≡ Some x → y ≡ x
    some_is y x at = cc at
allowed true true None c x h e f at = absurd (cc at)
allowed true false o c x h e f at = absurd (false≢true f)
allowed false d o c x h e f at = absurd (false≢true e)

step : (Q : ℕ → ℕ → Option ℕ) (e s : ℕ → Bool) (c : ℕ) → count_below e 2 + count_below s 2 ≡ 3 → allows Q e s c 0 0 ≡ true → allows Q e s c 0 1 ≡ true → allows Q e s c 1 0 ≡ true → allows Q e s c 1 1 ≡ true → IsAdmittedStep sums 2 e s c Q
step Q e s c count a b d f = record { value = refl; count = count; least = least }
  where
    least : (r k x : ℕ) → r < 2 → k < 2 → e r ≡ true → s k ≡ true → Q r k ≡ Some x → nat_le c x ≡ true
    least zero zero x hr hk g h at = allowed (e 0) (s 0) (Q 0 0) c x a g h at
    least zero (suc zero) x hr hk g h at = allowed (e 0) (s 1) (Q 0 1) c x b g h at
    least (suc zero) zero x hr hk g h at = allowed (e 1) (s 0) (Q 1 0) c x d g h at
    least (suc zero) (suc zero) x hr hk g h at = allowed (e 1) (s 1) (Q 1 1) c x f g h at
    least zero (suc (suc k)) x hr hk g h at = absurd (omega (arith, hk))
    least (suc zero) (suc (suc k)) x hr hk g h at = absurd (omega (arith, hk))
    least (suc (suc r)) k x hr hk g h at = absurd (omega (arith, hr))

single : (Q : ℕ → ℕ → Option ℕ) (phase : PhaseOf ℕ) → IsAdmittedStep sums 2 (entered_at phase.enters 0) (staying_at phase.leaves 0) (slice_index_or phase.steps 0 0) Q → AreAdmittedSteps sums difference 2 phase Q 1
single Q phase one zero h = one
single Q phase one (suc t) h = absurd (omega (arith, h))

double : (Q : ℕ → ℕ → Option ℕ) (phase : PhaseOf ℕ) → IsAdmittedStep sums 2 (entered_at phase.enters 0) (staying_at phase.leaves 0) (slice_index_or phase.steps 0 0) Q → IsAdmittedStep sums 2 (entered_at phase.enters 1) (staying_at phase.leaves 1) (slice_index_or phase.steps 1 0) (square_after sums difference phase Q 1) → AreAdmittedSteps sums difference 2 phase Q 2
double Q phase one two zero h = one
double Q phase one two (suc zero) h = two
double Q phase one two (suc (suc t)) h = absurd (omega (arith, h))

root_trail : AreAdmittedPhases sums difference 2 (one_phase ∷ two_phase ∷ []) (square_cell small 0 enter)
root_trail = (record { rows = refl; columns = refl; admitted = single (square_cell small 0 enter) one_phase (step (square_cell small 0 enter) (entered_at one_phase.enters 0) (staying_at one_phase.leaves 0) 1000000001 refl refl refl refl refl) }, (record { rows = refl; columns = refl; admitted = single (after_phase sums difference one_phase (square_cell small 0 enter)) two_phase (step (after_phase sums difference one_phase (square_cell small 0 enter)) (entered_at two_phase.enters 0) (staying_at two_phase.leaves 0) 1000000003 refl refl refl refl refl) }, tt))

second_trail : AreAdmittedPhases sums difference 2 (one_phase ∷ two_phase ∷ three_phase ∷ []) (square_cell (child small first 1) 0 enter)
second_trail = (record { rows = refl; columns = refl; admitted = single (square_cell (child small first 1) 0 enter) one_phase (step (square_cell (child small first 1) 0 enter) (entered_at one_phase.enters 0) (staying_at one_phase.leaves 0) 1000000001 refl refl refl refl refl) }, (record { rows = refl; columns = refl; admitted = single (after_phase sums difference one_phase (square_cell (child small first 1) 0 enter)) two_phase (step (after_phase sums difference one_phase (square_cell (child small first 1) 0 enter)) (entered_at two_phase.enters 0) (staying_at two_phase.leaves 0) 1000000003 refl refl refl refl refl) }, (record { rows = refl; columns = refl; admitted = double (after_phase sums difference two_phase (after_phase sums difference one_phase (square_cell (child small first 1) 0 enter))) three_phase (step (after_phase sums difference two_phase (after_phase sums difference one_phase (square_cell (child small first 1) 0 enter))) (entered_at three_phase.enters 0) (staying_at three_phase.leaves 0) 1 refl refl refl refl refl) (step (square_after sums difference three_phase (after_phase sums difference two_phase (after_phase sums difference one_phase (square_cell (child small first 1) 0 enter))) 1) (entered_at three_phase.enters 1) (staying_at three_phase.leaves 1) 1 refl refl refl refl refl) }, tt)))

fourth_trail : AreAdmittedPhases sums difference 2 (one_phase ∷ two_phase ∷ three_phase ∷ []) (square_cell (node_instance small answers nodes 4) 0 enter)
fourth_trail = (record { rows = refl; columns = refl; admitted = single (square_cell (node_instance small answers nodes 4) 0 enter) one_phase (step (square_cell (node_instance small answers nodes 4) 0 enter) (entered_at one_phase.enters 0) (staying_at one_phase.leaves 0) 1000000001 refl refl refl refl refl) }, (record { rows = refl; columns = refl; admitted = single (after_phase sums difference one_phase (square_cell (node_instance small answers nodes 4) 0 enter)) two_phase (step (after_phase sums difference one_phase (square_cell (node_instance small answers nodes 4) 0 enter)) (entered_at two_phase.enters 0) (staying_at two_phase.leaves 0) 1000000003 refl refl refl refl refl) }, (record { rows = refl; columns = refl; admitted = double (after_phase sums difference two_phase (after_phase sums difference one_phase (square_cell (node_instance small answers nodes 4) 0 enter))) three_phase (step (after_phase sums difference two_phase (after_phase sums difference one_phase (square_cell (node_instance small answers nodes 4) 0 enter))) (entered_at three_phase.enters 0) (staying_at three_phase.leaves 0) 1 refl refl refl refl refl) (step (square_after sums difference three_phase (after_phase sums difference two_phase (after_phase sums difference one_phase (square_cell (node_instance small answers nodes 4) 0 enter))) 1) (entered_at three_phase.enters 1) (staying_at three_phase.leaves 1) 1 refl refl refl refl refl) }, tt)))

fifth_trail : AreAdmittedPhases sums difference 2 (one_phase ∷ two_phase ∷ three_phase ∷ []) (square_cell (node_instance small answers nodes 5) 0 enter)
fifth_trail = (record { rows = refl; columns = refl; admitted = single (square_cell (node_instance small answers nodes 5) 0 enter) one_phase (step (square_cell (node_instance small answers nodes 5) 0 enter) (entered_at one_phase.enters 0) (staying_at one_phase.leaves 0) 1000000001 refl refl refl refl refl) }, (record { rows = refl; columns = refl; admitted = single (after_phase sums difference one_phase (square_cell (node_instance small answers nodes 5) 0 enter)) two_phase (step (after_phase sums difference one_phase (square_cell (node_instance small answers nodes 5) 0 enter)) (entered_at two_phase.enters 0) (staying_at two_phase.leaves 0) 1000000003 refl refl refl refl refl) }, (record { rows = refl; columns = refl; admitted = double (after_phase sums difference two_phase (after_phase sums difference one_phase (square_cell (node_instance small answers nodes 5) 0 enter))) three_phase (step (after_phase sums difference two_phase (after_phase sums difference one_phase (square_cell (node_instance small answers nodes 5) 0 enter))) (entered_at three_phase.enters 0) (staying_at three_phase.leaves 0) 1 refl refl refl refl refl) (step (square_after sums difference three_phase (after_phase sums difference two_phase (after_phase sums difference one_phase (square_cell (node_instance small answers nodes 5) 0 enter))) 1) (entered_at three_phase.enters 1) (staying_at three_phase.leaves 1) 1 refl refl refl refl refl) }, tt)))

-- the trail of the last node, in words
last_trail : HasTrail sums difference word_of enter small answers nodes 5
last_trail = record { phases = one_phase ∷ two_phase ∷ three_phase ∷ []; written = refl; admitted = fifth_trail }

-- ---- the tree

some_some : (c d : ℕ) → ◌≡◌ {A = Option (Option ℕ)} (Some (Some c)) (Some (Some d)) → c ≡ d
some_some c d e = cc e

alive : (f : List (Option ℕ)) (Y : Problem) (a b : ℕ) → f ≡ Some a ∷ Some b ∷ [] → IsSome (live_at Y 0 a) → IsSome (live_at Y 1 b) → (r c : ℕ) → Chooses f r c → IsSome (live_at Y r c)
alive f Y a b is here there zero c e = subst (λ x. IsSome (live_at Y 0 x)) (some_some a c (sym (ap (λ x. slice_get x 0) is) ∙ e)) here
alive f Y a b is here there (suc zero) c e = subst (λ x. IsSome (live_at Y 1 x)) (some_some b c (sym (ap (λ x. slice_get x 1) is) ∙ e)) there
alive f Y a b is here there (suc (suc r)) c e = absurd (let none : ◌≡◌ {A = Option (Option ℕ)} None (Some (Some c)) = sym (ap (λ x. slice_get x (suc (suc r))) is) ∙ e in cc none)

first_within : (c : ℕ) → count_by (takes c) first ≤ capacity_at small c
first_within zero = omega arith
first_within (suc zero) = omega arith
first_within (suc (suc c)) =
    let a : cond {A = ℕ} (takes (suc (suc c)) (Some 0)) 1 0 ≡ 0 = ap (λ (b : Bool). cond {A = ℕ} b 1 0) (ne_eqb 0 (suc (suc c)) (λ e. omega (arith, e))) in
    let b : cond {A = ℕ} (takes (suc (suc c)) (Some 1)) 1 0 ≡ 0 = ap (λ (x : Bool). cond {A = ℕ} x 1 0) (ne_eqb 1 (suc (suc c)) (λ e. omega (arith, e))) in
    omega (arith, a, b)

second_within : (c : ℕ) → count_by (takes c) second ≤ capacity_at small c
second_within zero = omega arith
second_within (suc zero) = omega arith
second_within (suc (suc c)) =
    let a : cond {A = ℕ} (takes (suc (suc c)) (Some 0)) 1 0 ≡ 0 = ap (λ (b : Bool). cond {A = ℕ} b 1 0) (ne_eqb 0 (suc (suc c)) (λ e. omega (arith, e))) in
    let b : cond {A = ℕ} (takes (suc (suc c)) (Some 1)) 1 0 ≡ 0 = ap (λ (x : Bool). cond {A = ℕ} x 1 0) (ne_eqb 1 (suc (suc c)) (λ e. omega (arith, e))) in
    omega (arith, a, b)

first_valid : IsValid small first
first_valid = record { over = refl; alive = alive first small 0 1 refl refl refl; within = first_within; counted = refl }

second_valid : IsValid (child small first 1) second
second_valid = record { over = refl; alive = alive second (child small first 1) 1 0 refl refl refl; within = second_within; counted = refl }

abbrev Sound : ℕ → Type 0
Sound n = IsSoundNode sums difference word_of enter small answers nodes n

abbrev ids : List ℕ
ids = 1 ∷ 2 ∷ []

hall : IsHall (child small first 2) Whole ids
hall = record {
  different = apart;
  counted = counted;
  short = omega arith;
}
  where
    apart : AllPairs ◌≢◌ ids
    apart zero zero d h k e = omega (arith, h)
    apart zero (suc zero) d h k e = omega (arith, e)
    apart zero (suc (suc j)) d h k e = omega (arith, k)
    apart (suc i) zero d h k e = omega (arith, h)
    apart (suc i) (suc zero) d h k e = omega (arith, h)
    apart (suc i) (suc (suc j)) d h k e = omega (arith, k)

    counted : All (λ id. IsTrue (is_counted_id (child small first 2) id)) ids
    counted zero d h = refl
    counted (suc zero) d h = refl
    counted (suc (suc k)) d h = absurd (omega (arith, h))

sound_one : Sound 1
sound_one = record {
  has_place = record { root_parent = λ e. refl; root_branch = λ e. refl; below = λ h. absurd (omega (arith, h)) };
  marked = (
    record { from = omega arith; upto = omega arith; first = λ m h k e. omega (arith, h, k); valid = first_valid; branches = each },
    record { phases = one_phase ∷ two_phase ∷ []; written = refl; admitted = root_trail },
  );
}
  where
    each : (i : ℕ) → 1 ≤ i → i ≤ placed small → child_count nodes 1 i ≡ 1
    each zero from upto = absurd (omega (arith, from))
    each (suc zero) from upto = refl
    each (suc (suc zero)) from upto = refl
    each (suc (suc (suc i))) from upto = absurd (omega (arith, upto))

sound_two : Sound 2
sound_two = record {
  has_place = record { root_parent = λ e. absurd (omega (arith, e)); root_branch = λ e. absurd (omega (arith, e)); below = λ h. record { there = omega arith; before = omega arith; answered = refl; branch_from = omega arith; branch_upto = omega arith } };
  marked = (
    record { from = omega arith; upto = omega arith; first = before; valid = second_valid; branches = each },
    record { phases = one_phase ∷ two_phase ∷ three_phase ∷ []; written = refl; admitted = second_trail },
  );
}
  where
    each : (i : ℕ) → 1 ≤ i → i ≤ placed small → child_count nodes 2 i ≡ 1
    each zero from upto = absurd (omega (arith, from))
    each (suc zero) from upto = refl
    each (suc (suc zero)) from upto = refl
    each (suc (suc (suc i))) from upto = absurd (omega (arith, upto))

    before : (m : ℕ) → 1 ≤ m → m < 2 → answer_number (node_at nodes m).mark ≢ 2
    before zero h k e = omega (arith, h)
    before (suc zero) h k e = omega (arith, e)
    before (suc (suc m)) h k e = omega (arith, k)

sound_three : Sound 3
sound_three = record {
  has_place = record { root_parent = λ e. absurd (omega (arith, e)); root_branch = λ e. absurd (omega (arith, e)); below = λ h. record { there = omega arith; before = omega arith; answered = refl; branch_from = omega arith; branch_upto = omega arith } };
  marked = (hall, refl);
}

sound_four : Sound 4
sound_four = record {
  has_place = record { root_parent = λ e. absurd (omega (arith, e)); root_branch = λ e. absurd (omega (arith, e)); below = λ h. record { there = omega arith; before = omega arith; answered = refl; branch_from = omega arith; branch_upto = omega arith } };
  marked = record { phases = one_phase ∷ two_phase ∷ three_phase ∷ []; written = refl; admitted = fourth_trail };
}

sound_five : Sound 5
sound_five = record {
  has_place = record { root_parent = λ e. absurd (omega (arith, e)); root_branch = λ e. absurd (omega (arith, e)); below = λ h. record { there = omega arith; before = omega arith; answered = refl; branch_from = omega arith; branch_upto = omega arith } };
  marked = last_trail;
}

-- the nodes are a search tree of the two answers
tree : IsSearchTree sums difference word_of enter small 2 answers nodes
tree = record { root = omega arith; sound = sound; given = given; open_nodes = open_nodes }
  where
    sound : (n : ℕ) → IsNumber nodes n → Sound n
    sound zero h = absurd (omega (arith, h.0))
    sound (suc zero) h = sound_one
    sound (suc (suc zero)) h = sound_two
    sound (suc (suc (suc zero))) h = sound_three
    sound (suc (suc (suc (suc zero)))) h = sound_four
    sound (suc (suc (suc (suc (suc zero))))) h = sound_five
    sound (suc (suc (suc (suc (suc (suc n)))))) h = absurd (omega (arith, h.1))

    given : (a : ℕ) → 1 ≤ a → a ≤ 2 → IsGiven nodes a
    given zero h k = absurd (omega (arith, h))
    given (suc zero) h k = record { node = 1; there = (omega arith, omega arith); marked = refl }
    given (suc (suc zero)) h k = record { node = 2; there = (omega arith, omega arith); marked = refl }
    given (suc (suc (suc a))) h k = absurd (omega (arith, k))

    open_nodes : (n : ℕ) → IsNumber nodes n → (node_at nodes n).mark ≡ Open → MayStayOpen sums difference word_of enter small 2 answers nodes n
    open_nodes zero h e = absurd (omega (arith, h.0))
    open_nodes (suc zero) h e = absurd (cc e)
    open_nodes (suc (suc zero)) h e = absurd (cc e)
    open_nodes (suc (suc (suc zero))) h e = absurd (cc e)
    open_nodes (suc (suc (suc (suc zero)))) h e = record { full = omega arith; trail = record { phases = one_phase ∷ two_phase ∷ three_phase ∷ []; written = refl; admitted = fourth_trail }; bound = refl }
    open_nodes (suc (suc (suc (suc (suc zero))))) h e = record { full = omega arith; trail = record { phases = one_phase ∷ two_phase ∷ three_phase ∷ []; written = refl; admitted = fifth_trail }; bound = refl }
    open_nodes (suc (suc (suc (suc (suc (suc n)))))) h e = absurd (omega (arith, h.1))

-- it proves no ranking of three: nodes stand open
not_three : ¬ IsSearchTree sums difference word_of enter small 3 answers nodes
not_three other = let full = (other.open_nodes 4 (omega arith, omega arith) refl).full in omega (arith, full)
