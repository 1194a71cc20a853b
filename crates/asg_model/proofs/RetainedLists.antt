-- Lists of cells of which some are taken out.
use Rattle.asg_model.proofs.Common.{◌≡◌, ℕ, ◌+◌, ◌<◌, ◌≤◌, Bool, true, false, cond, [], ◌∷◌, ◌++◌, length, get_or, set, take, refl, sym, ap, ◌∙◌, subst, arith, length-set, get_or-set_other, AllByRecursion, Less, keys_of, by_places, RetainsCells, Cost}
use Rattle.std.proofs.lemmas.List.{take_more, take_more_set}
use Rattle.std.specs.List.Sorted.{IsStrictlySortedBy}
use Rattle.asg_model.proofs.CellLists.{Cells}

module _ (answers : ℕ → ℕ → Bool → Type 0) where
  one_behind : (b first : Bool) (x cell : (ℕ × ℕ) × Cost) (rest : Cells) → cond b (cond first (cell ∷ rest) rest ++ x ∷ []) (cond first (cell ∷ rest) rest) ≡ cond first (cell ∷ cond b (rest ++ x ∷ []) rest) (cond b (rest ++ x ∷ []) rest)
  one_behind true true x cell rest = refl
  one_behind true false x cell rest = refl
  one_behind false true x cell rest = refl
  one_behind false false x cell rest = refl

  -- one more cell
  RetainsCells-push : (cells after : Cells) (x : (ℕ × ℕ) × Cost) (b : Bool) → answers x.0.0 x.0.1 b → RetainsCells answers cells after → RetainsCells answers (cells ++ x ∷ []) (cond b (after ++ x ∷ []) after)
  RetainsCells-push [] after x b said r = (b, [], said, refl, ap (λ (list : Cells). cond b (list ++ x ∷ []) list) r)
  RetainsCells-push (cell ∷ cells) after x b said r = (
    r.0,
    cond b (r.1 ++ x ∷ []) r.1,
    r.2,
    RetainsCells-push cells r.1 x b said r.3,
    ap (λ (list : Cells). cond b (list ++ x ∷ []) list) r.4 ∙ one_behind b r.0 x cell r.1,
  )

  keys_front : (Q : ℕ × ℕ → Type 0) (b : Bool) (cell : (ℕ × ℕ) × Cost) (rest : Cells) → Q cell.0 → AllByRecursion Q (keys_of rest) → AllByRecursion Q (keys_of (cond b (cell ∷ rest) rest))
  keys_front Q true cell rest here all = (here, all)
  keys_front Q false cell rest here all = all

  keys_kept : (Q : ℕ × ℕ → Type 0) (cells after : Cells) → RetainsCells answers cells after → AllByRecursion Q (keys_of cells) → AllByRecursion Q (keys_of after)
  keys_kept Q [] after r all = subst (λ (list : Cells). AllByRecursion Q (keys_of list)) (sym r) tt
  keys_kept Q (cell ∷ cells) after r all =
      subst (λ (list : Cells). AllByRecursion Q (keys_of list)) (sym r.4) (keys_front Q r.0 cell r.1 all.0 (keys_kept Q cells r.1 r.3 all.1))

  sorted_front : (b : Bool) (cell : (ℕ × ℕ) × Cost) (rest : Cells) → AllByRecursion (λ key. by_places cell.0 key ≡ Less) (keys_of rest) → IsStrictlySortedBy by_places (keys_of rest) → IsStrictlySortedBy by_places (keys_of (cond b (cell ∷ rest) rest))
  unfolding IsStrictlySortedBy
  sorted_front true cell rest later sorted = (later, sorted)
  sorted_front false cell rest later sorted = sorted

  -- what is left is in order
  pub ascend_kept : (cells after : Cells) → RetainsCells answers cells after → IsStrictlySortedBy by_places (keys_of cells) → IsStrictlySortedBy by_places (keys_of after)
  unfolding IsStrictlySortedBy
  ascend_kept [] after r sorted = subst (λ (list : Cells). IsStrictlySortedBy by_places (keys_of list)) (sym r) tt
  ascend_kept (cell ∷ cells) after r sorted =
      subst (λ (list : Cells). IsStrictlySortedBy by_places (keys_of list)) (sym r.4)
      (sorted_front r.0 cell r.1 (keys_kept (λ key. by_places cell.0 key ≡ Less) cells r.1 r.3 sorted.0) (ascend_kept cells r.1 r.3 sorted.1))

  -- of the first i cells those that are kept stand in front, and those from i on are as before
  pub record KeptFirst (cells now : Cells) (i kept : ℕ) : Type 0 where
    pub upto : kept ≤ i
    pub count : length now ≡ length cells
    pub front : RetainsCells answers (take i cells) (take kept now)
    pub others : (k : ℕ) (d : (ℕ × ℕ) × Cost) → i ≤ k → get_or now k d ≡ get_or cells k d

  pub none_first : (cells : Cells) → KeptFirst cells cells 0 0
  none_first cells = record { upto = omega arith; count = refl; front = refl; others = λ k d h. refl }

  module _ (cells now : Cells) (i kept : ℕ) (d : (ℕ × ℕ) × Cost) (is : KeptFirst cells now i kept) (within : i < length cells) where
    here : get_or now i d ≡ get_or cells i d
    here = is.others i d (omega arith)

    next : (b : Bool) → answers (get_or now i d).0.0 (get_or now i d).0.1 b → RetainsCells answers (take (i + 1) cells) (cond b (take kept now ++ get_or now i d ∷ []) (take kept now))
    next b said =
        subst (λ (list : Cells). RetainsCells answers list (cond b (take kept now ++ get_or now i d ∷ []) (take kept now)))
        (ap (λ (x : (ℕ × ℕ) × Cost). take i cells ++ x ∷ []) here ∙ sym (take_more cells i d within))
        (RetainsCells-push (take i cells) (take kept now) (get_or now i d) b said is.front)

    -- the next cell is kept
    pub one_kept : answers (get_or now i d).0.0 (get_or now i d).0.1 true → KeptFirst cells (set now kept (get_or now i d)) (i + 1) (kept + 1)
    one_kept said = record {
      upto = omega (arith, is.upto);
      count = length-set now kept (get_or now i d) ∙ is.count;
      front = subst (RetainsCells answers (take (i + 1) cells)) (sym (take_more_set now kept (get_or now i d) (omega (arith, is.upto, is.count, within)))) (next true said);
      others = λ k e h. get_or-set_other now kept k (get_or now i d) e (λ same. omega (arith, same, h, is.upto)) ∙ is.others k e (omega (arith, h));
    }

    -- it is taken out
    pub one_out : answers (get_or now i d).0.0 (get_or now i d).0.1 false → KeptFirst cells now (i + 1) kept
    one_out said = record {
      upto = omega (arith, is.upto);
      count = is.count;
      front = next false said;
      others = λ k e h. is.others k e (omega (arith, h));
    }

    -- whichever it is
    pub one_told : (b : Bool) (after : Cells) (count : ℕ) → answers (get_or now i d).0.0 (get_or now i d).0.1 b → after ≡ cond b (set now kept (get_or now i d)) now → count ≡ cond b (kept + 1) kept → KeptFirst cells after (i + 1) count
    one_told true after count said cells_are count_is =
        subst (λ (list : Cells). KeptFirst cells list (i + 1) count) (sym cells_are)
        (subst (KeptFirst cells (set now kept (get_or now i d)) (i + 1)) (sym count_is) (one_kept said))
    one_told false after count said cells_are count_is =
        subst (λ (list : Cells). KeptFirst cells list (i + 1) count) (sym cells_are)
        (subst (KeptFirst cells now (i + 1)) (sym count_is) (one_out said))
