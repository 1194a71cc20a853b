-- Counting along injections, and the completion of an injective partial list over the free columns.
use Rattle.std.specs.Prelude.{◌≡◌, ◌≢◌, ℕ, zero, suc, ◌+◌, ◌-◌, ◌<◌, ◌≤◌, Bool, true, false, cond, not, eqb, List, ◌∷◌, length, get_or, map, AllPairs, Contains, refl, Option, Some, None, is_some}
use Rattle.std.specs.List.{list_any}
use Rattle.std.specs.Option.{unwrap_or}
use Rattle.std.proofs.Common.{sym, ap, subst, ◌∙◌, arith, ⊎_elim, add-zero}
use Rattle.std.proofs.lemmas.Bool.{cases_Bool, eq-eqb, ne_eqb, cases_order}
use Rattle.std.proofs.lemmas.Bool.Decides.{Decides-eqb}
use Rattle.std.proofs.lemmas.List.{get_or-map, length-map}
use Rattle.std.proofs.lemmas.List.Folds.{Any-from_list_any}
use Rattle.asg_model.specs.ValidChoice.{takes}
use Rattle.asg_model.specs.Sums.{sum_below, count_below, passing_below, one}
use Rattle.asg_square.specs.Completion.{is_free, free_columns, lacks, completed}
use Rattle.asg_model.specs.laws.Counting.{sum_below-same, sum_below-le, sum_below-add, sum_below-zero, sum_below-exchange, term-le-sum_below, length-passing_below, length-le-count_below, length-le_contains}
use Rattle.asg_model.specs.laws.Rows.{ones_below}

-- a sum over the first numbers and over those after them
pub sum_below-split : (f : ℕ → ℕ) (n m : ℕ) → sum_below f (n + m) ≡ sum_below f n + sum_below (λ k. f (n + k)) m
sum_below-split f n zero = let e : sum_below f (n + 0) ≡ sum_below f n = ap (sum_below f) (add-zero n) in omega (arith, e)
sum_below-split f n (suc m) =
    let k : n + suc m ≡ suc (n + m) = omega arith in
    let e : sum_below f (n + suc m) ≡ sum_below f (suc (n + m)) = ap (sum_below f) k in
    let rest = sum_below-split f n m in
    omega (arith, e, rest)

-- a sum over more numbers is larger
pub sum_below-upto : (f : ℕ → ℕ) (n m : ℕ) → n ≤ m → sum_below f n ≤ sum_below f m
sum_below-upto f n m h =
    let k : m ≡ n + (m - n) = omega arith in
    let e : sum_below f m ≡ sum_below f (n + (m - n)) = ap (sum_below f) k in
    let split = sum_below-split f n (m - n) in
    omega (arith, e, split)

-- of two numbers that pass, the lower one has fewer below it that pass
pub rank-less : (p : ℕ → Bool) (r s : ℕ) → r < s → p r ≡ true → count_below p r < count_below p s
rank-less p r s h e =
    let le = sum_below-upto (λ k. one (p k)) (suc r) s (omega arith) in
    let here : one (p r) ≡ 1 = ap one e in
    omega (arith, le, here)

pub same-rank : (p : ℕ → Bool) (r s : ℕ) → p r ≡ true → p s ≡ true → count_below p r ≡ count_below p s → r ≡ s
same-rank p r s e f same =
    ⊎_elim (λ (i : r ≡ s). i)
    (⊎_elim (λ (less : r < s). let l = rank-less p r s less e in absurd (omega (arith, l)))
    (λ (more : s < r). let l = rank-less p s r more f in absurd (omega (arith, l))))
    (cases_order r s)

-- a number below n is at most once below n
once_below : (d m : ℕ) → sum_below (λ c. one (eqb d c)) m ≤ 1
once_below d zero = omega arith
once_below d (suc m) =
    ⊎_elim
    (λ (yes : eqb d m ≡ true).
    let here : d ≡ m = (Decides-eqb d m).0 yes in
    let none : sum_below (λ c. one (eqb d c)) m ≡ sum_below (λ _. 0) m = sum_below-same (λ c. one (eqb d c)) (λ _. 0) m (λ c h. ap one (ne_eqb d c (λ (e : d ≡ c). omega arith))) in
    let zeros = sum_below-zero m in
    let last : one (eqb d m) ≡ 1 = ap one yes in
    omega (arith, none, zeros, last))
    (λ (other : eqb d m ≡ false).
    let rest = once_below d m in
    let last : one (eqb d m) ≡ 0 = ap one other in
    omega (arith, rest, last))
    (cases_Bool (eqb d m))

takes-once : (o : Option ℕ) (m : ℕ) → sum_below (λ c. one (takes c o)) m ≤ one (is_some o)
takes-once None m = let none = sum_below-zero m in omega (arith, none)
takes-once (Some d) m = once_below d m

-- ---- the numbers that pass, from the last down

abbrev PassingAt : (ℕ → Bool) → ℕ → List ℕ → Type 0
PassingAt p n xs = (i d : ℕ) → i < length xs → (get_or xs i d < n) × (p (get_or xs i d) ≡ true)

passing_at_cond : (p : ℕ → Bool) (n : ℕ) (xs : List ℕ) (b : Bool) → p n ≡ b → PassingAt p n xs → PassingAt p (suc n) (cond b (n ∷ xs) xs)
passing_at_cond p n xs true e rest zero d h = (omega arith, e)
passing_at_cond p n xs true e rest (suc i) d h = let r = rest i d (omega arith) in (omega (arith, r.0), r.1)
passing_at_cond p n xs false e rest i d h = let r = rest i d h in (omega (arith, r.0), r.1)

pub passing_at : (p : ℕ → Bool) (n : ℕ) → PassingAt p n (passing_below p n)
passing_at p zero = λ i d h. absurd (omega arith)
passing_at p (suc n) = passing_at_cond p n (passing_below p n) (p n) refl (passing_at p n)

abbrev Falls : List ℕ → Type 0
Falls xs = (i j d : ℕ) → i < j → j < length xs → get_or xs j d < get_or xs i d

falls_cond : (n : ℕ) (xs : List ℕ) (b : Bool) → ((i d : ℕ) → i < length xs → get_or xs i d < n) → Falls xs → Falls (cond b (n ∷ xs) xs)
falls_cond n xs true below rest i zero d h k = absurd (omega arith)
falls_cond n xs true below rest zero (suc j) d h k = below j d (omega arith)
falls_cond n xs true below rest (suc i) (suc j) d h k = rest i j d (omega arith) (omega arith)
falls_cond n xs false below rest i j d h k = rest i j d h k

pub passing_falls : (p : ℕ → Bool) (n : ℕ) → Falls (passing_below p n)
passing_falls p zero = λ i j d h k. absurd (omega arith)
passing_falls p (suc n) = falls_cond n (passing_below p n) (p n) (λ i d h. (passing_at p n i d h).0) (passing_falls p n)

-- numbers that pass one test are no more than those of another, where an injection leads to these
pub inject-le : (p q : ℕ → Bool) (n m : ℕ) (g : ℕ → ℕ) → ((r : ℕ) → r < n → p r ≡ true → (g r < m) × (q (g r) ≡ true)) → ((r s : ℕ) → r < n → s < n → p r ≡ true → p s ≡ true → g r ≡ g s → r ≡ s) → count_below p n ≤ count_below q m
inject-le p q n m g leads apart =
    let xs = passing_below p n in
    let at = λ (i : ℕ) (d : ℕ) (h : i < length xs). get_or-map g xs i 0 d h in
    let different : AllPairs ◌≢◌ (map g xs) =
    λ i j d h k same.
    let inside : j < length xs = omega (arith, length-map xs g) in
    let outside : i < length xs = omega arith in
    let x = passing_at p n i 0 outside in
    let y = passing_at p n j 0 inside in
    let falls = passing_falls p n i j 0 h inside in
    let equal = apart (get_or xs i 0) (get_or xs j 0) x.0 y.0 x.1 y.1 (sym (at i d outside) ∙ same ∙ at j d inside) in
    omega (arith, falls, equal) in
    let within : (c : ℕ) → list_any (eqb c) (map g xs) ≡ true → (c < m) × (q c ≡ true) =
    λ c e.
    let any = Any-from_list_any (eqb c) (map g xs) e in
    let inside : any.0 < length xs = omega (arith, any.2, length-map xs g) in
    let x = passing_at p n any.0 0 inside in
    let is : c ≡ g (get_or xs any.0 0) = (Decides-eqb c any.1).0 any.4 ∙ sym any.3 ∙ at any.0 any.1 inside in
    let to = leads (get_or xs any.0 0) x.0 x.1 in
    (subst (λ k. k < m) (sym is) to.0, ap q is ∙ to.1) in
    let le = length-le-count_below q m (map g xs) different within in
    omega (arith, le, length-map xs g, length-passing_below p n)

-- numbers that pass and all stand in a list are no more than it has
pub count-le-within : (p : ℕ → Bool) (n : ℕ) (ys : List ℕ) → ((c : ℕ) → c < n → p c ≡ true → Contains ys c) → count_below p n ≤ length ys
count-le-within p n ys within =
    let xs = passing_below p n in
    let apart : AllPairs ◌≢◌ xs = λ i j d h k same. let falls = passing_falls p n i j d h k in omega (arith, falls, same) in
    let le = length-le_contains xs ys apart (λ k d h. let at = passing_at p n k d h in within (get_or xs k d) at.0 at.1) in
    omega (arith, le, length-passing_below p n)

not-count : (b : Bool) → one b + one (not b) ≡ 1
not-count true = refl
not-count false = refl

-- how many pass, and how many don't
pub count-not : (p : ℕ → Bool) (n : ℕ) → count_below p n + count_below (λ k. not (p k)) n ≡ n
count-not p n =
    let both = sum_below-add (λ k. one (p k)) (λ k. one (not (p k))) n in
    let each = sum_below-same (λ k. one (p k) + one (not (p k))) (λ _. 1) n (λ k _. not-count (p k)) in
    let all = ones_below n in
    omega (arith, both, each, all)

-- along an injection of the numbers below n into themselves as many pass
pub permute-count : (q : ℕ → Bool) (n : ℕ) (g : ℕ → ℕ) → ((r : ℕ) → r < n → g r < n) → ((r s : ℕ) → r < n → s < n → g r ≡ g s → r ≡ s) → count_below (λ r. q (g r)) n ≡ count_below q n
permute-count q n g below apart =
    let yes = inject-le (λ r. q (g r)) q n n g (λ r h e. (below r h, e)) (λ r s h k _ _ same. apart r s h k same) in
    let no_ = inject-le (λ r. not (q (g r))) (λ c. not (q c)) n n g (λ r h e. (below r h, e)) (λ r s h k _ _ same. apart r s h k same) in
    let left = count-not (λ r. q (g r)) n in
    let right = count-not q n in
    omega (arith, yes, no_, left, right)

-- ---- completion

free_or_taken : (k : ℕ) → 1 ≤ one (eqb k 0) + k
free_or_taken zero = omega arith
free_or_taken (suc k) = omega arith

lacks-true : (o : Option ℕ) → o ≡ None → not (is_some o) ≡ true
lacks-true o e = ap (λ x. not (is_some x)) e

module _ (g : ℕ → Option ℕ) (n : ℕ) where
  -- there are free columns for all rows without a column
  pub enough_free : count_below (lacks g) n ≤ length (free_columns g n)
  enough_free =
      let each = sum_below-le (λ _. 1) (λ c. one (is_free g n c) + count_below (λ r. takes c (g r)) n) n (λ c _. free_or_taken (count_below (λ r. takes c (g r)) n)) in
      let both = sum_below-add (λ c. one (is_free g n c)) (λ c. count_below (λ r. takes c (g r)) n) n in
      let turned = sum_below-exchange (λ c r. one (takes c (g r))) n n in
      let rows = sum_below-le (λ r. sum_below (λ c. one (takes c (g r))) n) (λ r. one (is_some (g r))) n (λ r _. takes-once (g r) n) in
      let some = count-not (λ r. is_some (g r)) n in
      let all = ones_below n in
      let size = length-passing_below (is_free g n) n in
      omega (arith, each, both, turned, rows, some, all, size)

  pub rank_within : (r : ℕ) → r < n → g r ≡ None → count_below (lacks g) r < length (free_columns g n)
  rank_within r h e =
      let less = rank-less (lacks g) r n h (lacks-true (g r) e) in
      let enough = enough_free in
      omega (arith, less, enough)

  pub completed_some : (r c : ℕ) → g r ≡ Some c → completed g n r ≡ c
  completed_some r c e = ap (λ o. unwrap_or o (get_or (free_columns g n) (count_below (lacks g) r) 0)) e

  pub completed_none : (r : ℕ) → g r ≡ None → completed g n r ≡ get_or (free_columns g n) (count_below (lacks g) r) 0
  completed_none r e = ap (λ o. unwrap_or o (get_or (free_columns g n) (count_below (lacks g) r) 0)) e

  pub completed_free : (r : ℕ) → r < n → g r ≡ None → (completed g n r < n) × (is_free g n (completed g n r) ≡ true)
  completed_free r h e =
      let at = passing_at (is_free g n) n (count_below (lacks g) r) 0 (rank_within r h e) in
      rw (completed_none r e) at

  pub not_free : (r c : ℕ) → r < n → g r ≡ Some c → is_free g n c ≡ true → ⊥
  not_free r c h e free =
      let none = (Decides-eqb (count_below (λ s. takes c (g s)) n) 0).0 free in
      let term = term-le-sum_below (λ s. one (takes c (g s))) n r h in
      let here : one (takes c (g r)) ≡ 1 = ap (λ o. one (takes c o)) e ∙ ap one (eq-eqb c c refl) in
      omega (arith, none, term, here)

  module _ (within : (r c : ℕ) → r < n → g r ≡ Some c → c < n) (apart : (r s c : ℕ) → r < n → s < n → g r ≡ Some c → g s ≡ Some c → r ≡ s) where
    completed_below_by : (r : ℕ) (o : Option ℕ) → g r ≡ o → r < n → completed g n r < n
    completed_below_by r None e h = (completed_free r h e).0
    completed_below_by r (Some c) e h = subst (λ k. k < n) (sym (completed_some r c e)) (within r c h e)

    pub completed_below : (r : ℕ) → r < n → completed g n r < n
    completed_below r h = completed_below_by r (g r) refl h

    completed_apart_by : (r s : ℕ) (o u : Option ℕ) → g r ≡ o → g s ≡ u → r < n → s < n → completed g n r ≡ completed g n s → r ≡ s
    completed_apart_by r s None None e f h k same =
        let i = rank_within r h e in
        let j = rank_within s k f in
        let equal = sym (completed_none r e) ∙ same ∙ completed_none s f in
        let ranks : count_below (lacks g) r ≡ count_below (lacks g) s =
        ⊎_elim (λ (i : count_below (lacks g) r ≡ count_below (lacks g) s). i)
        (⊎_elim
        (λ (less : count_below (lacks g) r < count_below (lacks g) s). let falls = passing_falls (is_free g n) n (count_below (lacks g) r) (count_below (lacks g) s) 0 less j in absurd (omega (arith, falls, equal)))
        (λ (more : count_below (lacks g) s < count_below (lacks g) r). let falls = passing_falls (is_free g n) n (count_below (lacks g) s) (count_below (lacks g) r) 0 more i in absurd (omega (arith, falls, equal))))
        (cases_order (count_below (lacks g) r) (count_below (lacks g) s)) in
        same-rank (lacks g) r s (lacks-true (g r) e) (lacks-true (g s) f) ranks
    completed_apart_by r s None (Some c) e f h k same =
        absurd (not_free s c k f (ap (is_free g n) (sym (same ∙ completed_some s c f)) ∙ (completed_free r h e).1))
    completed_apart_by r s (Some c) None e f h k same =
        absurd (not_free r c h e (ap (is_free g n) (sym (completed_some r c e) ∙ same) ∙ (completed_free s k f).1))
    completed_apart_by r s (Some c) (Some d) e f h k same =
        let equal : d ≡ c = sym (completed_some s d f) ∙ sym same ∙ completed_some r c e in
        apart r s c h k e (f ∙ ap Some equal)

    pub completed_apart : (r s : ℕ) → r < n → s < n → completed g n r ≡ completed g n s → r ≡ s
    completed_apart r s h k same = completed_apart_by r s (g r) (g s) refl refl h k same

-- ---- a top that is free

top_step : (p : ℕ → Bool) (m e : ℕ) → p (m + e) ≡ true → passing_below p (m + suc e) ≡ (m + e) ∷ passing_below p (m + e)
top_step p m e h =
    let k : m + suc e ≡ suc (m + e) = omega arith in
    ap (passing_below p) k ∙ ap (λ b. cond b ((m + e) ∷ passing_below p (m + e)) (passing_below p (m + e))) h

-- where all numbers from m on pass, the last ones come first
pub top_high : (p : ℕ → Bool) (m e i d : ℕ) → ((k : ℕ) → k < e → p (m + k) ≡ true) → i < e → m ≤ get_or (passing_below p (m + e)) i d
top_high p m zero i d all h = absurd (omega arith)
top_high p m (suc e) zero d all h = subst (λ xs. m ≤ get_or xs 0 d) (sym (top_step p m e (all e (omega arith)))) (omega arith)
top_high p m (suc e) (suc i) d all h = subst (λ xs. m ≤ get_or xs (suc i) d) (sym (top_step p m e (all e (omega arith)))) (top_high p m e i d (λ k less. all k (omega arith)) (omega arith))

-- and those below m come after them
pub top_low : (p : ℕ → Bool) (m e i d : ℕ) → ((k : ℕ) → k < e → p (m + k) ≡ true) → e ≤ i → i < length (passing_below p (m + e)) → get_or (passing_below p (m + e)) i d < m
top_low p m zero i d all h k =
    let same : passing_below p (m + 0) ≡ passing_below p m = ap (passing_below p) (add-zero m) in
    subst (λ xs. get_or xs i d < m) (sym same) (passing_at p m i d (subst (λ xs. i < length xs) same k)).0
top_low p m (suc e) zero d all h k = absurd (omega arith)
top_low p m (suc e) (suc i) d all h k =
    let step = top_step p m e (all e (omega arith)) in
    subst (λ xs. get_or xs (suc i) d < m) (sym step)
    (top_low p m e i d (λ j less. all j (omega arith)) (omega arith) (let inside : suc i < length ((m + e) ∷ passing_below p (m + e)) = subst (λ xs. suc i < length xs) step k in omega (arith, inside)))
