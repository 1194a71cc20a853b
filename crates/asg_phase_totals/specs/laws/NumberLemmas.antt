-- The numbers of a list, where a trait says what they are.
use Rattle.std.proofs.Common.{◌≡◌, ℕ, zero, suc, ◌+◌, ◌<◌, ◌≤◌, List, length, get_or, map, take, drop, replicate, sym, ◌∙◌, ap, subst, arith, ⊎_elim}
use Rattle.std.specs.Prelude.{◌≢◌, slice_index, slice_set as set}
use Rattle.std.specs.List.{sum}
use Rattle.std.proofs.lemmas.Bool.{cases_lt}
use Rattle.std.proofs.lemmas.List.{length-map, length-replicate, get_or-replicate, take_all, take-map, drop-map, get_or-take, get_or-drop, get_or-map, map-set, get_or-set_same, get_or-set_other}
use Rattle.std.proofs.lemmas.Grind.{same_number_lists}
use Rattle.std.proofs.lemmas.List.Sums.{sum_by_more}
use Rattle.asg_proof.specs.Phases.{PhaseOf}
use Rattle.asg_phase_totals.specs.Duals.{sum_before}
use Rattle.asg_phase_totals.specs.SumNumbers.{numbered}

module _ {T : Type 0} {number : T → ℕ} {numbers : List T → List ℕ} (law : (xs : List T) → numbers xs ≡ map number xs) where
  -- as many
  pub count_is : (xs : List T) → length (numbers xs) ≡ length xs
  count_is xs = ap length (law xs) ∙ length-map xs number

  -- the one at a place
  pub index_is : (xs : List T) (i : ℕ) (d : T) → i < length xs → slice_index (numbers xs) i ≡ number (get_or xs i d)
  index_is xs i d h = ap (λ l. get_or l i 0) (law xs) ∙ get_or-map number xs i d 0 h

  -- after a write
  pub set_is : (xs : List T) (i : ℕ) (x : T) → numbers (set xs i x) ≡ set (numbers xs) i (number x)
  set_is xs i x = law (set xs i x) ∙ map-set number xs i x ∙ ap (λ l. set l i (number x)) (sym (law xs))

  -- the one that was written
  pub written_is : (xs : List T) (i j : ℕ) (x : T) → i < length xs → j ≡ i → slice_index (numbers (set xs i x)) j ≡ number x
  written_is xs i j x h e =
      ap (λ l. get_or l j 0) (set_is xs i x)
      ∙ ap (λ k. get_or (set (numbers xs) i (number x)) k 0) e
      ∙ get_or-set_same (numbers xs) i (number x) 0 (omega (arith, count_is xs, h))

  -- and another
  pub kept_is : (xs : List T) (i j : ℕ) (x : T) → j ≢ i → slice_index (numbers (set xs i x)) j ≡ slice_index (numbers xs) j
  kept_is xs i j x e = ap (λ l. get_or l j 0) (set_is xs i x) ∙ get_or-set_other (numbers xs) i j (number x) 0 e

  -- a number that was read
  pub read_is : (xs : List T) (i : ℕ) (x : T) → i < length xs → x ≡ get_or xs i x → number x ≡ slice_index (numbers xs) i
  read_is xs i x h e = ap number e ∙ sym (index_is xs i x h)

  -- the numbers of a part of a list are those of their part
  pub part_is : (xs : List T) (first count : ℕ) → numbers (take count (drop first xs)) ≡ take count (drop first (numbers xs))
  part_is xs first count =
      law (take count (drop first xs))
      ∙ sym (take-map number count (drop first xs))
      ∙ ap (take count) (sym (drop-map number first xs))
      ∙ ap (λ l. take count (drop first l)) (sym (law xs))

  pub part_at : (xs : List T) (first count k : ℕ) → k < count → slice_index (numbers (take count (drop first xs))) k ≡ slice_index (numbers xs) (first + k)
  part_at xs first count k h =
      ap (λ l. slice_index l k) (part_is xs first count)
      ∙ get_or-take count (drop first (numbers xs)) k 0 h
      ∙ get_or-drop first (numbers xs) k 0

  -- numbers that are all 0
  pub zeros_are : (xs : List T) (n : ℕ) → length xs ≡ n → ((i : ℕ) → i < length xs → slice_index (numbers xs) i ≡ 0) → numbers xs ≡ replicate n 0
  zeros_are xs n count zeros =
      same_number_lists (numbers xs) (replicate n 0) (count_is xs ∙ count ∙ sym (length-replicate {A = ℕ} n 0))
      (λ k h. zeros k (omega (arith, h, count_is xs)) ∙ sym (get_or-replicate n k 0 0 (omega (arith, h, count_is xs, count))))

  -- the sum of all numbers
  pub all_is : (xs : List T) → sum_before (numbers xs) (length xs) ≡ sum (numbers xs)
  all_is xs = ap sum (take_all (length xs) (numbers xs) (omega (arith, count_is xs)))

  -- the sum of as many as there are
  pub sum_at : (xs : List T) → sum_before (numbers xs) (length xs) ≡ sum_before (numbers xs) (length (numbers xs))
  sum_at xs = ap (sum_before (numbers xs)) (sym (count_is xs))

  -- one step more
  pub sum_more : (xs : List T) (t : ℕ) → t < length xs → sum_before (numbers xs) (t + 1) ≡ sum_before (numbers xs) t + slice_index (numbers xs) t
  sum_more xs t h = sum_by_more (λ x. x) (numbers xs) t 0 (omega (arith, count_is xs, h))

  -- the sum of some of them is at most that of more
  pub sum_rises : (xs : List T) (s t : ℕ) → s ≤ t → t ≤ length xs → sum_before (numbers xs) s ≤ sum_before (numbers xs) t
  sum_rises xs s zero h k = let e : s ≡ zero = omega arith in subst (λ i. sum_before (numbers xs) s ≤ sum_before (numbers xs) i) e (omega arith)
  sum_rises xs s (suc t) h k =
      let next : suc t ≡ t + 1 = omega arith in
      ⊎_elim
      (λ (last : t < s). let e : s ≡ suc t = omega arith in subst (λ i. sum_before (numbers xs) s ≤ sum_before (numbers xs) i) e (omega arith))
      (λ (more : s ≤ t). let rises = sum_rises xs s t more (omega (arith, k)) in let one = sum_more xs t (omega (arith, k)) in subst (λ i. sum_before (numbers xs) s ≤ sum_before (numbers xs) i) (sym next) (omega (arith, rises, one)))
      (cases_lt t s)

  -- phases whose steps are numbers of the list
  module _ {phases : List (PhaseOf T) → List (PhaseOf ℕ)} (phases_law : (ps : List (PhaseOf T)) → phases ps ≡ map (numbered numbers) ps) where
    -- as many
    pub phase_count_is : (ps : List (PhaseOf T)) → length (phases ps) ≡ length ps
    phase_count_is ps = ap length (phases_law ps) ∙ length-map ps (numbered numbers)

    -- a phase that was read
    pub phase_is : (ps : List (PhaseOf T)) (i : ℕ) (p : PhaseOf T) → i < length ps → p ≡ get_or ps i p → numbered numbers p ≡ get_or (phases ps) i (numbered numbers p)
    phase_is ps i p h is =
        ap (numbered numbers) is
        ∙ sym (get_or-map (numbered numbers) ps i p (numbered numbers p) h)
        ∙ ap (λ l. get_or l i (numbered numbers p)) (sym (phases_law ps))
