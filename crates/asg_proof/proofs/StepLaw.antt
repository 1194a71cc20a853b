-- The step law: an admitted step takes its value from each perfect assignment.
use Rattle.asg_proof.proofs.Common.{◌≡◌, ℕ, suc, ◌+◌, ◌<◌, Bool, true, false, cond, not, ◌&&◌, List, [], ◌∷◌, map, get_or, IsSome, Some, None, All, count_by, Option, option_map, sym, refl, ap, ◌∙◌, subst, arith, All-head, All-map, All-replicate, All-tail, All-weaker, false≢true, get_or_default_zero, range_with_len, sum_by-cons, unwrap_or, all_there, HasDifferences, Monoid, IsValue, IsLe, IsOrderedMonoid, fold_of, fold_is_value, fold-cons, exchanged, moved, stepped, count_below, IsAdmittedStep, HasSide, HasValues, IsAssignment-stepped, IsAssignment, assignment_values}
use Rattle.asg_order.specs.Powers.{power_of}
use Rattle.asg_proof.proofs.Counts.{All-range, count_one_more}

-- the value of a row's cell
abbrev pub value_at : {V : Type 0} → Monoid V → (ℕ → ℕ → Option V) → List ℕ → ℕ → V
value_at M square p r = unwrap_or (square r (get_or p r 0)) M.unit

pub there_is : {V : Type 0} (o : Option V) (d : V) → IsSome o → o ≡ Some (unwrap_or o d)
there_is None d h = absurd (false≢true h)
there_is (Some x) d h = refl

-- the values of an assignment are those of the rows' cells
pub values_are : {V : Type 0} (M : Monoid V) (square : ℕ → ℕ → Option V) (side : ℕ) (p : List ℕ) → IsAssignment square side p → assignment_values square side p ≡ map (value_at M square p) (range_with_len 0 side)
values_are M square side p a =
    all_there (λ r. square r (get_or p r 0)) (value_at M square p) 0 side
    (λ r from below. there_is (square r (get_or p r 0)) M.unit (a.present r (omega arith)))

-- the columns of an assignment are below the side
pub columns_below : {V : Type 0} (square : ℕ → ℕ → Option V) (side : ℕ) (p : List ℕ) → HasSide side square → IsAssignment square side p → (r : ℕ) → r < side → get_or p r 0 < side
columns_below square side p within a r h = (within r (get_or p r 0) (a.present r h)).1

module _ {V : Type 0} (M : Monoid V) (laws : IsOrderedMonoid M) where
  power_is_value : (x : V) (n : ℕ) → IsValue M x → IsValue M (power_of M x n)
  power_is_value x n vx = fold_is_value M laws _ (All-replicate (IsValue M) n x vx)

  power_of-suc : (x : V) (n : ℕ) → IsValue M x → power_of M x (suc n) ≡ M.product x (power_of M x n)
  power_of-suc x n vx = fold-cons M laws x _ vx (All-replicate (IsValue M) n x vx)

module _ {V : Type 0} (M : Monoid V) (laws : IsOrderedMonoid M) (difference : V → V → V) (has : HasDifferences M difference) where
  -- what both the cell and the cell after the step are a multiple of
  abbrev kept : Bool → Bool → V → V → V
  kept true true c x = difference x c
  kept true false c x = x
  kept false true c x = x
  kept false false c x = x

  abbrev weighed : Bool → V → V → V
  weighed true c y = M.product c y
  weighed false c y = y

  before_is : (e s : Bool) (c x : V) → IsValue M c → IsValue M x → (e ≡ true → s ≡ true → IsLe M c x) → x ≡ weighed (e && s) c (kept e s c x)
  before_is true true c x vc vx h = sym (has.reaches x c vx vc ∙ ap (λ b. cond b x c) (h refl refl))
  before_is true false c x vc vx h = refl
  before_is false true c x vc vx h = refl
  before_is false false c x vc vx h = refl

  after_is : (e s : Bool) (c x : V) → moved M difference e s c x ≡ weighed (not e && not s) c (kept e s c x)
  after_is true true c x = refl
  after_is true false c x = refl
  after_is false true c x = refl
  after_is false false c x = refl

  kept_is_value : (e s : Bool) (c x : V) → IsValue M c → IsValue M x → IsValue M (kept e s c x)
  kept_is_value true true c x vc vx = has.difference_is_value x c vx vc
  kept_is_value true false c x vc vx = vx
  kept_is_value false true c x vc vx = vx
  kept_is_value false false c x vc vx = vx

  -- a value that is c times another, or equal to it
  record IsWeighed (w : Bool) (c f y : V) : Type 0 where
    pub value : IsValue M y
    pub is : f ≡ weighed w c y

  IsValue-weighed : (w : Bool) (c y : V) → IsValue M c → IsValue M y → IsValue M (weighed w c y)
  IsValue-weighed true c y vc vy = laws.product_is_value c y vc vy
  IsValue-weighed false c y vc vy = vy

  pairs_exchanged : (c y p rest : V) → IsValue M c → IsValue M y → IsValue M p → IsValue M rest → M.product (M.product c y) (M.product p rest) ≡ M.product (M.product c p) (M.product y rest)
  pairs_exchanged c y p rest vc vy vp vr =
      laws.associative c y (M.product p rest) vc vy (laws.product_is_value p rest vp vr)
      ∙ ap (M.product c) (exchanged M laws y p rest vy vp vr)
      ∙ sym (laws.associative c p (M.product y rest) vc vp (laws.product_is_value y rest vy vr))

  weighed_first : (w : Bool) (c y rest : V) (n : ℕ) → IsValue M c → IsValue M y → IsValue M rest → M.product (weighed w c y) (M.product (power_of M c n) rest) ≡ M.product (power_of M c (cond w 1 0 + n)) (M.product y rest)
  weighed_first true c y rest n vc vy vr =
      let one : suc n ≡ 1 + n = omega arith in
      pairs_exchanged c y (power_of M c n) rest vc vy (power_is_value M laws c n vc) vr
      ∙ ap (λ p. M.product p (M.product y rest)) (sym (power_of-suc M laws c n vc) ∙ ap (power_of M c) one)
  weighed_first false c y rest n vc vy vr =
      let none : n ≡ 0 + n = omega arith in
      exchanged M laws y (power_of M c n) rest vy (power_is_value M laws c n vc) vr
      ∙ ap (λ m. M.product (power_of M c m) (M.product y rest)) none

  -- where values are c times others at so many rows, and equal to them at the rest, so is the
  -- product
  fold-weighed : (c : V) (w : ℕ → Bool) (f y : ℕ → V) → IsValue M c → (rows : List ℕ) → All (λ r. IsWeighed (w r) c (f r) (y r)) rows → fold_of M (map f rows) ≡ M.product (power_of M c (count_by w rows)) (fold_of M (map y rows))
  fold-weighed c w f y vc [] all = sym (laws.unit_neutral M.unit laws.unit_is_value)
  fold-weighed c w f y vc (r ∷ rows) all =
      let head = All-head (λ k. IsWeighed (w k) c (f k) (y k)) r rows all in
      let tail = All-tail (λ k. IsWeighed (w k) c (f k) (y k)) r rows all in
      let rest = fold_of M (map y rows) in
      let v_f : All (IsValue M) (map f rows) = All-map (IsValue M) f rows (All-weaker (λ k. IsWeighed (w k) c (f k) (y k)) (λ k. IsValue M (f k)) (λ k at. subst (IsValue M) (sym at.is) (IsValue-weighed (w k) c (y k) vc at.value)) rows tail) in
      let v_y : All (IsValue M) (map y rows) = All-map (IsValue M) y rows (All-weaker (λ k. IsWeighed (w k) c (f k) (y k)) (λ k. IsValue M (y k)) (λ k at. at.value) rows tail) in
      let v_head : IsValue M (f r) = subst (IsValue M) (sym head.is) (IsValue-weighed (w r) c (y r) vc head.value) in
      fold-cons M laws (f r) (map f rows) v_head v_f
      ∙ ap (λ x. M.product x (fold_of M (map f rows))) head.is
      ∙ ap (M.product (weighed (w r) c (y r))) (fold-weighed c w f y vc rows tail)
      ∙ weighed_first (w r) c (y r) rest (count_by w rows) vc head.value (fold_is_value M laws (map y rows) v_y)
      ∙ ap (λ n. M.product (power_of M c n) (M.product (y r) rest)) (sym (sum_by-cons (λ k. cond (w k) 1 0) r rows))
      ∙ ap (M.product (power_of M c (count_by w (r ∷ rows)))) (sym (fold-cons M laws (y r) (map y rows) head.value v_y))

  -- one row's cell before and after the step
  before_weighed : (o : Option V) (e s : Bool) (c : V) → IsValue M c → IsSome o → ((x : V) → o ≡ Some x → IsValue M x) → ((x : V) → e ≡ true → s ≡ true → o ≡ Some x → IsLe M c x) → IsWeighed (e && s) c (unwrap_or o M.unit) (unwrap_or (option_map (kept e s c) o) M.unit)
  before_weighed None e s c vc present value least = absurd (false≢true present)
  before_weighed (Some x) e s c vc present value least = record {
    value = kept_is_value e s c x vc (value x refl);
    is = before_is e s c x vc (value x refl) (λ p q. least x p q refl);
  }

  after_weighed : (o : Option V) (e s : Bool) (c : V) → IsValue M c → IsSome o → ((x : V) → o ≡ Some x → IsValue M x) → IsWeighed (not e && not s) c (unwrap_or (option_map (moved M difference e s c) o) M.unit) (unwrap_or (option_map (kept e s c) o) M.unit)
  after_weighed None e s c vc present value = absurd (false≢true present)
  after_weighed (Some x) e s c vc present value = record {
    value = kept_is_value e s c x vc (value x refl);
    is = after_is e s c x;
  }

  -- an admitted step takes its value from the product over each assignment's rows
  product-step : (side : ℕ) (entered staying : ℕ → Bool) (c : V) (square : ℕ → ℕ → Option V) (p : List ℕ) → HasSide side square → HasValues M side square → IsAdmittedStep M side entered staying c square → IsAssignment square side p → fold_of M (map (value_at M square p) (range_with_len 0 side)) ≡ M.product c (fold_of M (map (value_at M (stepped M difference entered staying c square) p) (range_with_len 0 side)))
  product-step side entered staying c square p within values admitted a =
      let vc = admitted.value in
      let column = λ (r : ℕ). get_or p r 0 in
      let below = columns_below square side p within a in
      let y = λ (r : ℕ). unwrap_or (option_map (kept (entered r) (staying (column r)) c) (square r (column r))) M.unit in
      let both = λ (r : ℕ). entered r && staying (column r) in
      let neither = λ (r : ℕ). not (entered r) && not (staying (column r)) in
      let after = stepped M difference entered staying c square in
      let rows = range_with_len 0 side in
      let first = fold-weighed c both (value_at M square p) y vc rows (All-range (λ r. IsWeighed (both r) c (value_at M square p r) (y r)) side
      (λ r h. before_weighed (square r (column r)) (entered r) (staying (column r)) c vc (a.present r h) (λ x e. values r (column r) x h (below r h) e) (λ x s t e. admitted.least r (column r) x h (below r h) s t e))) in
      let second = fold-weighed c neither (value_at M after p) y vc rows (All-range (λ r. IsWeighed (neither r) c (value_at M after p r) (y r)) side
      (λ r h. after_weighed (square r (column r)) (entered r) (staying (column r)) c vc (a.present r h) (λ x e. values r (column r) x h (below r h) e))) in
      let n = count_below neither side in
      let all_below : All (λ k. k < side) p = λ k d h. subst (λ q. q < side) (sym (get_or_default_zero p k d h)) (below k (subst (λ m. k < m) a.over h)) in
      let one : count_below both side ≡ suc n = omega (arith, count_one_more entered staying p side a.over all_below a.apart admitted.count) in
      let vy : All (IsValue M) (map y rows) = All-map (IsValue M) y rows (All-range (λ r. IsValue M (y r)) side (λ r h. (after_weighed (square r (column r)) (entered r) (staying (column r)) c vc (a.present r h) (λ x e. values r (column r) x h (below r h) e)).value)) in
      first
      ∙ ap (λ k. M.product (power_of M c k) (fold_of M (map y rows))) one
      ∙ ap (λ q. M.product q (fold_of M (map y rows))) (power_of-suc M laws c n vc)
      ∙ laws.associative c (power_of M c n) (fold_of M (map y rows)) vc (power_is_value M laws c n vc) (fold_is_value M laws (map y rows) vy)
      ∙ ap (M.product c) (sym second)

  -- an admitted step takes its value from the product of each assignment
  pub fold-step : (side : ℕ) (entered staying : ℕ → Bool) (c : V) (square : ℕ → ℕ → Option V) (p : List ℕ) → HasSide side square → HasValues M side square → IsAdmittedStep M side entered staying c square → IsAssignment square side p → fold_of M (assignment_values square side p) ≡ M.product c (fold_of M (assignment_values (stepped M difference entered staying c square) side p))
  fold-step side entered staying c square p within values admitted a =
      let after = stepped M difference entered staying c square in
      ap (fold_of M) (values_are M square side p a)
      ∙ product-step side entered staying c square p within values admitted a
      ∙ ap (λ xs. M.product c (fold_of M xs)) (sym (values_are M after side p (IsAssignment-stepped M difference entered staying c square side p a)))
