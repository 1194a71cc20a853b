-- Sums below the top through a phase: a cell by the sums of the steps before its marks.
use Rattle.std.proofs.Common.{◌≡◌, ℕ, zero, suc, ◌+◌, ◌-◌, ◌<◌, ◌≤◌, true, false, min, ltb, List, length, take, get_or, sym, ◌∙◌, ap, subst, arith, ⊎_elim}
use Rattle.std.proofs.lemmas.Bool.{cases_lt, le-leb, lt-leb, lt-ltb, le-ltb, leb-true}
use Rattle.std.proofs.lemmas.List.{take_all}
use Rattle.std.proofs.lemmas.List.Sums.{sum_by_more, fold_more}
use Rattle.asg_order.specs.Monoid.{fold_of}
use Rattle.asg_monoids.specs.BoundedSums.{bounded_sums, bounded_difference}
use Rattle.asg_proof.specs.Steps.{moved}
use Rattle.asg_phase_totals.specs.Duals.{sum_before}
use Rattle.asg_admit.specs.Settled.{step_of, cell_after, settled, AllowsSteps}

module _ (steps : List ℕ) where
  abbrev before : ℕ → ℕ
  before = sum_before steps

  pub before_more : (t : ℕ) → t < length steps → before (suc t) ≡ before t + get_or steps t 0
  before_more t h =
      let next : suc t ≡ t + 1 = omega arith in
      ap before next ∙ sum_by_more (λ x. x) steps t 0 h

  pub before_rises : (s t : ℕ) → s ≤ t → t ≤ length steps → before s ≤ before t
  before_rises s zero h k = let e : s ≡ zero = omega arith in subst (λ i. before s ≤ before i) e (omega arith)
  before_rises s (suc t) h k =
      ⊎_elim
      (λ (last : t < s). let e : s ≡ suc t = omega arith in subst (λ i. before s ≤ before i) e (omega arith))
      (λ (more : s ≤ t). let rises = before_rises s t more (omega (arith, k)) in let next = before_more t (omega (arith, k)) in omega (arith, rises, next))
      (cases_lt t s)

  -- the product of steps is their sum, up to the top
  fold_part : (top t : ℕ) → t ≤ length steps → fold_of (bounded_sums top) (take t steps) ≡ min (before t) top
  fold_part top zero h = let none : 0 ≡ min 0 top = omega arith in none
  fold_part top (suc t) h =
      let next : suc t ≡ t + 1 = omega arith in
      let one = fold_part top t (omega (arith, h)) in
      let more = before_more t (omega (arith, h)) in
      let sums : min (min (before t) top + get_or steps t 0) top ≡ min (before (suc t)) top = omega (arith, more) in
      ap (λ i. fold_of (bounded_sums top) (take i steps)) next
      ∙ fold_more (λ x y. min (x + y) top) 0 steps t 0 (omega (arith, h))
      ∙ ap (λ x. min (x + get_or steps t 0) top) one
      ∙ sums

  pub fold_is : (top : ℕ) → fold_of (bounded_sums top) steps ≡ min (before (length steps)) top
  fold_is top =
      ap (fold_of (bounded_sums top)) (sym (take_all (length steps) steps (omega arith)))
      ∙ fold_part top (length steps) (omega arith)

  module _ (top x : ℕ) (room : x + before (length steps) ≤ top) (enter leave : ℕ) where
    abbrev after : ℕ → ℕ
    after t = cell_after (bounded_sums top) bounded_difference (step_of (bounded_sums top) steps) enter leave x t

    abbrev entered : ℕ → ℕ
    entered t = before (min enter t)

    abbrev left : ℕ → ℕ
    left t = before (min leave t)

    -- a cell has the steps before its row's entry more and those before its column's leave less
    pub after_is : (t : ℕ) → t ≤ length steps → after t ≡ (x + entered t) - left t
    after_is zero h =
        let e : min enter zero ≡ zero = omega arith in
        let l : min leave zero ≡ zero = omega arith in
        let sums : x ≡ (x + before zero) - before zero = omega arith in
        sums ∙ ap (λ i. (x + before i) - before zero) (sym e) ∙ ap (λ i. (x + entered zero) - before i) (sym l)
    after_is (suc t) h =
        let now = after t in
        let step = get_or steps t 0 in
        let so = after_is t (omega (arith, h)) in
        let more = before_more t (omega (arith, h)) in
        let end = before_rises (suc t) (length steps) h (omega arith) in
        ⊎_elim
        (λ (waits : t < enter).
        let e : entered t ≡ before t = ap before (let i : min enter t ≡ t = omega arith in i) in
        let e′ : entered (suc t) ≡ before (suc t) = ap before (let i : min enter (suc t) ≡ suc t = omega arith in i) in
        ⊎_elim
        (λ (stays : t < leave).
        let l : left t ≡ before t = ap before (let i : min leave t ≡ t = omega arith in i) in
        let l′ : left (suc t) ≡ before (suc t) = ap before (let i : min leave (suc t) ≡ suc t = omega arith in i) in
        let sums : now ≡ (x + entered (suc t)) - left (suc t) = omega (arith, so, e, e′, l, l′) in
        ap (λ b. moved (bounded_sums top) bounded_difference b (ltb t leave) step now) (lt-leb enter t waits)
        ∙ ap (λ b. moved (bounded_sums top) bounded_difference false b step now) (lt-ltb t leave stays)
        ∙ sums)
        (λ (gone : leave ≤ t).
        let l : left t ≡ before leave = ap before (let i : min leave t ≡ leave = omega arith in i) in
        let l′ : left (suc t) ≡ before leave = ap before (let i : min leave (suc t) ≡ leave = omega arith in i) in
        let rises = before_rises leave t gone (omega (arith, h)) in
        let sums : min (step + now) top ≡ (x + entered (suc t)) - left (suc t) = omega (arith, so, e, e′, l, l′, rises, more, end, room) in
        ap (λ b. moved (bounded_sums top) bounded_difference b (ltb t leave) step now) (lt-leb enter t waits)
        ∙ ap (λ b. moved (bounded_sums top) bounded_difference false b step now) (le-ltb t leave gone)
        ∙ sums)
        (cases_lt t leave))
        (λ (in_row : enter ≤ t).
        let e : entered t ≡ before enter = ap before (let i : min enter t ≡ enter = omega arith in i) in
        let e′ : entered (suc t) ≡ before enter = ap before (let i : min enter (suc t) ≡ enter = omega arith in i) in
        ⊎_elim
        (λ (stays : t < leave).
        let l : left t ≡ before t = ap before (let i : min leave t ≡ t = omega arith in i) in
        let l′ : left (suc t) ≡ before (suc t) = ap before (let i : min leave (suc t) ≡ suc t = omega arith in i) in
        let sums : now - step ≡ (x + entered (suc t)) - left (suc t) = omega (arith, so, e, e′, l, l′, more) in
        ap (λ b. moved (bounded_sums top) bounded_difference b (ltb t leave) step now) (le-leb enter t in_row)
        ∙ ap (λ b. moved (bounded_sums top) bounded_difference true b step now) (lt-ltb t leave stays)
        ∙ sums)
        (λ (gone : leave ≤ t).
        let l : left t ≡ before leave = ap before (let i : min leave t ≡ leave = omega arith in i) in
        let l′ : left (suc t) ≡ before leave = ap before (let i : min leave (suc t) ≡ leave = omega arith in i) in
        let sums : now ≡ (x + entered (suc t)) - left (suc t) = omega (arith, so, e, e′, l, l′) in
        ap (λ b. moved (bounded_sums top) bounded_difference b (ltb t leave) step now) (le-leb enter t in_row)
        ∙ ap (λ b. moved (bounded_sums top) bounded_difference true b step now) (le-ltb t leave gone)
        ∙ sums)
        (cases_lt t leave))
        (cases_lt t enter)

    pub settled_is : settled (bounded_sums top) bounded_difference steps enter leave x ≡ (x + entered (length steps)) - left (length steps)
    settled_is = after_is (length steps) (omega arith)

    -- where the cell allows the steps, no difference is cut off at 0
    fits_part : AllowsSteps (bounded_sums top) bounded_difference steps enter leave x → (t : ℕ) → t ≤ length steps → left t ≤ x + entered t
    fits_part allows zero h =
        let e : min enter zero ≡ zero = omega arith in
        let l : min leave zero ≡ zero = omega arith in
        subst (λ i. before i ≤ x + entered zero) (sym l) (subst (λ i. before zero ≤ x + before i) (sym e) (omega arith))
    fits_part allows (suc t) h =
        let so = fits_part allows t (omega (arith, h)) in
        let is = after_is t (omega (arith, h)) in
        let more = before_more t (omega (arith, h)) in
        ⊎_elim
        (λ (waits : t < enter).
        let e : entered t ≡ before t = ap before (let i : min enter t ≡ t = omega arith in i) in
        let e′ : entered (suc t) ≡ before (suc t) = ap before (let i : min enter (suc t) ≡ suc t = omega arith in i) in
        ⊎_elim
        (λ (stays : t < leave).
        let l′ : left (suc t) ≡ before (suc t) = ap before (let i : min leave (suc t) ≡ suc t = omega arith in i) in
        omega (arith, e′, l′))
        (λ (gone : leave ≤ t).
        let l : left t ≡ before leave = ap before (let i : min leave t ≡ leave = omega arith in i) in
        let l′ : left (suc t) ≡ before leave = ap before (let i : min leave (suc t) ≡ leave = omega arith in i) in
        omega (arith, so, e, e′, l, l′, more))
        (cases_lt t leave))
        (λ (in_row : enter ≤ t).
        let e : entered t ≡ before enter = ap before (let i : min enter t ≡ enter = omega arith in i) in
        let e′ : entered (suc t) ≡ before enter = ap before (let i : min enter (suc t) ≡ enter = omega arith in i) in
        ⊎_elim
        (λ (stays : t < leave).
        let l : left t ≡ before t = ap before (let i : min leave t ≡ t = omega arith in i) in
        let l′ : left (suc t) ≡ before (suc t) = ap before (let i : min leave (suc t) ≡ suc t = omega arith in i) in
        let allowed : get_or steps t 0 ≤ after t = leb-true (get_or steps t 0) (after t) (allows t h in_row stays) in
        omega (arith, so, is, e, e′, l, l′, more, allowed))
        (λ (gone : leave ≤ t).
        let l : left t ≡ before leave = ap before (let i : min leave t ≡ leave = omega arith in i) in
        let l′ : left (suc t) ≡ before leave = ap before (let i : min leave (suc t) ≡ leave = omega arith in i) in
        omega (arith, so, e, e′, l, l′))
        (cases_lt t leave))
        (cases_lt t enter)

    pub allowed_fits : AllowsSteps (bounded_sums top) bounded_difference steps enter leave x → left (length steps) ≤ x + entered (length steps)
    allowed_fits allows = fits_part allows (length steps) (omega arith)

    -- and where none is, the cell allows the steps
    pub fits_allowed : left (length steps) ≤ x + entered (length steps) → AllowsSteps (bounded_sums top) bounded_difference steps enter leave x
    fits_allowed fits = λ t below in_row stays.
        let is = after_is t (omega (arith, below)) in
        let more = before_more t below in
        let e : entered t ≡ before enter = ap before (let i : min enter t ≡ enter = omega (arith, in_row) in i) in
        let e′ : entered (length steps) ≡ before enter = ap before (let i : min enter (length steps) ≡ enter = omega (arith, in_row, below) in i) in
        let l : left t ≡ before t = ap before (let i : min leave t ≡ t = omega (arith, stays) in i) in
        let rises = before_rises (suc t) (min leave (length steps)) (omega (arith, stays, below)) (omega arith) in
        le-leb (get_or steps t 0) (after t) (omega (arith, is, more, e, e′, l, rises, fits))
