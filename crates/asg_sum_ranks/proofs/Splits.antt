-- Branches split the answers: each is a branch's own or in one child that no branch is of.
use Rattle.asg_sum_ranks.proofs.Common.{◌≡◌, ℕ, zero, suc, ◌<◌, ◌≤◌, ◌≢◌, ◌⊎◌, List, [], ◌∷◌, length, slice_index, Contains, sym, refl, ap, ◌∙◌, subst, inl, inr, arith, cases_eq, IsAnswer, Part, IsIn, Problem, Objective, Branch, branch_at, answer_at, part_at, child_at, AreBranches, IsGiven}
use Rattle.asg_dual_bounds.proofs.Splits.{covered, in-from_child, not_in_child, once}

-- two lists of numbers are the same or not
pub cases_list : (f g : List ℕ) → (f ≡ g) ⊎ (f ≢ g)
cases_list [] [] = inl refl
cases_list [] (y ∷ ys) = inr (λ (e : [] ≡ y ∷ ys). cc)
cases_list (x ∷ xs) [] = inr (λ (e : x ∷ xs ≡ []). cc)
cases_list (x ∷ xs) (y ∷ ys) =
    elim (cases_eq x y) [ inl same ↦ elim (cases_list xs ys) [ inl rest ↦ inl cc | inr not_rest ↦ inr (λ (e : x ∷ xs ≡ y ∷ ys). not_rest cc) ] | inr not_same ↦ inr (λ (e : x ∷ xs ≡ y ∷ ys). not_same cc) ]

same_name : (branches : List Branch) (p q r s a b : ℕ) → p ≡ q → r ≡ s → slice_index (branch_at branches p).children r ≡ a → slice_index (branch_at branches q).children s ≡ b → a ≡ b
same_name branches p q r s a b same_parent same_row named other =
    sym named ∙ (ap (λ e. slice_index (branch_at branches e).children r) same_parent ∙ (ap (λ e. slice_index (branch_at branches q).children e) same_row ∙ other))

same_length : (objective : Objective) (X : Problem) (f g : List ℕ) → IsAnswer objective X f → IsAnswer objective X g → length f ≡ length g
same_length objective X f g left right = left.over ∙ sym right.over

-- an answer in the child by row r of the branch at place e, of which no branch below `end` is
pub record Holds (X : Problem) (branches : List Branch) (end e r : ℕ) (f : List ℕ) : Type 0 where
  pub before : e < end
  pub from : (branch_at branches e).row ≤ r
  pub upto : r < length X.rows
  pub free : ¬ IsGiven branches end e r
  pub within : IsIn (child_at branches e r) f

-- each answer is that of one branch below `end`, or in one child of those that no branch is of
pub record IsSplit (objective : Objective) (X : Problem) (branches : List Branch) (end : ℕ) : Type 0 where
  pub cover : (f : List ℕ) → IsAnswer objective X f → ((a : ℕ) × (a < end) × (f ≡ answer_at branches a)) ⊎ ((e r : ℕ) × Holds X branches end e r f)
  pub different : (a b : ℕ) → a < b → b < end → answer_at branches a ≢ answer_at branches b
  pub apart : (a e r : ℕ) → a < end → ¬ Holds X branches end e r (answer_at branches a)
  pub one : (f : List ℕ) (e r d s : ℕ) → IsAnswer objective X f → Holds X branches end e r f → Holds X branches end d s f → (e ≡ d) × (r ≡ s)

module _ (objective : Objective) (X : Problem) (branches : List Branch) (all : ℕ) (are : AreBranches objective X branches all) where
  -- a branch's answer has the side of any other
  over : (e : ℕ) (f : List ℕ) → e < all → IsAnswer objective X f → length f ≡ length (answer_at branches e)
  over e f below answer = same_length objective X f (answer_at branches e) answer (are.sound e below).answer

  rows : (e r : ℕ) → e < all → r < length X.rows → r < length (answer_at branches e)
  rows e r below upto = let same : length (answer_at branches e) ≡ length X.rows = (are.sound e below).answer.over in omega arith

  -- the part of a branch is its parent's child
  part_of : (end : ℕ) → 1 ≤ end → end < all → part_at branches end ≡ child_at branches (branch_at branches end).parent (branch_at branches end).row
  part_of end from below =
      let banned : (branch_at branches end).banned ≡ (child_at branches (branch_at branches end).parent (branch_at branches end).row).banned = (are.child end from below).part in
      ap (λ (bans : List ℕ). let part : Part = record { columns = answer_at branches (branch_at branches end).parent; row = (branch_at branches end).row; banned = bans } in part) banned

  fresh : (end : ℕ) → 1 ≤ end → end < all → ¬ IsGiven branches end (branch_at branches end).parent (branch_at branches end).row
  fresh end from below (b, one, before, parent, row) =
      let same : b ≡ end = same_name branches (branch_at branches b).parent (branch_at branches end).parent (branch_at branches b).row (branch_at branches end).row b end parent row (are.child b one (omega arith)).named (are.child end from below).named in
      absurd (omega arith)

  -- what is in the part of the next branch is in its parent's child
  placed : (end : ℕ) (f : List ℕ) → 1 ≤ end → end < all → IsIn (part_at branches end) f → Holds X branches end (branch_at branches end).parent (branch_at branches end).row f
  placed end f from below within =
      let child = are.child end from below in
      record {
        before = child.before;
        from = child.from;
        upto = child.upto;
        free = fresh end from below;
        within = subst (λ part. IsIn part f) (part_of end from below) within;
      }

  -- what is in a child of a branch is in its part
  inner : (e r : ℕ) (f : List ℕ) → e < all → IsAnswer objective X f → (branch_at branches e).row ≤ r → r < length X.rows → IsIn (child_at branches e r) f → IsIn (part_at branches e) f
  inner e r f below answer from upto within =
      in-from_child (part_at branches e) (answer_at branches e) f r (are.sound e below).within from (rows e r below upto) within

  -- a child that isn't the next branch's part stays
  kept : (end e r : ℕ) (f : List ℕ) → Holds X branches end e r f → ¬ (((branch_at branches end).parent ≡ e) × ((branch_at branches end).row ≡ r)) → Holds X branches (suc end) e r f
  kept end e r f holds other =
      let before : e < end = holds.before in
      record {
        before = omega arith;
        from = holds.from;
        upto = holds.upto;
        free = λ (b, one, below, parent, row). elim (cases_eq b end) [ inl same ↦ other (subst (λ d. (branch_at branches d).parent ≡ e) same parent, subst (λ d. (branch_at branches d).row ≡ r) same row) | inr differs ↦ holds.free (b, one, omega arith, parent, row) ];
        within = holds.within;
      }

  was : (end e r : ℕ) (f : List ℕ) → e < end → Holds X branches (suc end) e r f → Holds X branches end e r f
  was end e r f before holds = record {
    before = before;
    from = holds.from;
    upto = holds.upto;
    free = λ (b, one, below, parent, row). holds.free (b, one, omega arith, parent, row);
    within = holds.within;
  }

  -- the next branch's part is no child that holds on
  gone : (end e r : ℕ) (f : List ℕ) → 1 ≤ end → Holds X branches (suc end) e r f → (branch_at branches end).parent ≡ e → (branch_at branches end).row ≡ r → ⊥
  gone end e r f from holds parent row = holds.free (end, from, omega arith, parent, row)

  -- the children of the next branch are no branch's part
  new : (end r : ℕ) (f : List ℕ) → end < all → (branch_at branches end).row ≤ r → r < length X.rows → IsIn (child_at branches end r) f → Holds X branches (suc end) end r f
  new end r f below from upto within = record {
    before = omega arith;
    from = from;
    upto = upto;
    free = λ (b, one, before, parent, row). let under : (branch_at branches b).parent < b = (are.child b one (omega arith)).before in absurd (omega arith);
    within = within;
  }

  -- an answer in the next branch's part is its own, or in one of its children
  divided : (end : ℕ) (f : List ℕ) → end < all → IsAnswer objective X f → IsIn (part_at branches end) f → (f ≡ answer_at branches end) ⊎ ((r : ℕ) × Holds X branches (suc end) end r f)
  divided end f below answer within =
      elim (cases_list f (answer_at branches end)) [
        | inl same ↦ inl same
        | inr differs ↦
            let sound = are.sound end below in
            let (r, from, upto, inside) = covered (part_at branches end) (answer_at branches end) f (over end f below answer) sound.within within differs in
            let same : length (answer_at branches end) ≡ length X.rows = sound.answer.over in
            inr (r, new end r f below from (omega arith) inside)
      ]

  -- ---- the next branch

  module _ (end : ℕ) (from : 1 ≤ end) (below : end < all) (split : IsSplit objective X branches end) where
    next_cover : (f : List ℕ) → IsAnswer objective X f → ((a : ℕ) × (a < suc end) × (f ≡ answer_at branches a)) ⊎ ((e r : ℕ) × Holds X branches (suc end) e r f)
    next_cover f answer =
        elim (split.cover f answer) [
          | inl (a, before, same) ↦ inl (a, omega arith, same)
          | inr (e, r, holds) ↦ elim (cases_eq (branch_at branches end).parent e) [
            | inr other ↦ inr (e, r, kept end e r f holds (λ both. other both.0))
            | inl parent ↦ elim (cases_eq (branch_at branches end).row r) [
              | inr other ↦ inr (e, r, kept end e r f holds (λ both. other both.1))
              | inl row ↦
                  let at_parent = subst (λ d. IsIn (child_at branches d r) f) (sym parent) holds.within in
                  let at_row = subst (λ s. IsIn (child_at branches (branch_at branches end).parent s) f) (sym row) at_parent in
                  elim (divided end f below answer (subst (λ part. IsIn part f) (sym (part_of end from below)) at_row)) [ inl same ↦ inl (end, omega arith, same) | inr (s, inside) ↦ inr (end, s, inside) ]
            ]
          ]
        ]

    next_different : (a b : ℕ) → a < b → b < suc end → answer_at branches a ≢ answer_at branches b
    next_different a b order before =
        elim (cases_eq b end) [
          | inr other ↦ split.different a b order (omega arith)
          | inl last ↦ λ same.
              let equal : answer_at branches a ≡ answer_at branches end = subst (λ d. answer_at branches a ≡ answer_at branches d) last same in
              split.apart a (branch_at branches end).parent (branch_at branches end).row (omega arith) (subst (Holds X branches end (branch_at branches end).parent (branch_at branches end).row) (sym equal) (placed end (answer_at branches end) from below (are.sound end below).within))
        ]

    next_apart : (a e r : ℕ) → a < suc end → ¬ Holds X branches (suc end) e r (answer_at branches a)
    next_apart a e r before holds =
        elim (cases_eq e end) [
          | inr old ↦
              let under : e < suc end = holds.before in
              let held = was end e r (answer_at branches a) (omega arith) holds in
              elim (cases_eq a end) [
                | inr other ↦ split.apart a e r (omega arith) held
                | inl last ↦
                    let answer = subst (λ d. IsAnswer objective X (answer_at branches d)) (sym last) (are.sound end below).answer in
                    let mine = subst (λ d. Holds X branches end (branch_at branches end).parent (branch_at branches end).row (answer_at branches d)) (sym last) (placed end (answer_at branches end) from below (are.sound end below).within) in
                    let same = split.one (answer_at branches a) (branch_at branches end).parent (branch_at branches end).row e r answer mine held in
                    gone end e r (answer_at branches a) from holds same.0 same.1
              ]
          | inl new_one ↦
              let upto : r < length X.rows = holds.upto in
              let inside = subst (λ d. IsIn (child_at branches d r) (answer_at branches a)) new_one holds.within in
              elim (cases_eq a end) [
                | inl last ↦
                    not_in_child (part_at branches end) (answer_at branches end) r (rows end r below upto) (subst (λ d. IsIn (child_at branches end r) (answer_at branches d)) last inside)
                | inr other ↦
                    let row = subst (λ d. (branch_at branches d).row ≤ r) new_one holds.from in
                    let within = inner end r (answer_at branches a) below (are.sound a (omega arith)).answer row upto inside in
                    split.apart a (branch_at branches end).parent (branch_at branches end).row (omega arith) (placed end (answer_at branches a) from below within)
              ]
        ]

    -- an answer in a new child is in no old one that holds on
    not_both : (f : List ℕ) (e r d s : ℕ) → IsAnswer objective X f → Holds X branches (suc end) e r f → Holds X branches (suc end) d s f → e ≡ end → d < end → ⊥
    not_both f e r d s answer first second new_one old =
        let inside = subst (λ k. IsIn (child_at branches k r) f) new_one first.within in
        let row = subst (λ k. (branch_at branches k).row ≤ r) new_one first.from in
        let within = inner end r f below answer row first.upto inside in
        let same = split.one f (branch_at branches end).parent (branch_at branches end).row d s answer (placed end f from below within) (was end d s f old second) in
        gone end d s f from second same.0 same.1

    next_one : (f : List ℕ) (e r d s : ℕ) → IsAnswer objective X f → Holds X branches (suc end) e r f → Holds X branches (suc end) d s f → (e ≡ d) × (r ≡ s)
    next_one f e r d s answer first second =
        let before : e < suc end = first.before in
        let under : d < suc end = second.before in
        elim (cases_eq e end) [
          | inl new_one ↦ elim (cases_eq d end) [
            | inl also ↦
                let same_row = once (part_at branches end) (answer_at branches end) f r s (over end f below answer) (rows end r below first.upto) (rows end s below second.upto) (subst (λ k. IsIn (child_at branches k r) f) new_one first.within) (subst (λ k. IsIn (child_at branches k s) f) also second.within) in
                (new_one ∙ sym also, same_row)
            | inr old ↦ absurd (not_both f e r d s answer first second new_one (omega arith))
          ]
          | inr first_old ↦ elim (cases_eq d end) [
            | inl new_one ↦ absurd (not_both f d s e r answer second first new_one (omega arith))
            | inr old ↦ split.one f e r d s answer (was end e r f (omega arith) first) (was end d s f (omega arith) second)
          ]
        ]

    next_split : IsSplit objective X branches (suc end)
    next_split = record {
      cover = next_cover;
      different = next_different;
      apart = next_apart;
      one = next_one;
    }

  -- ---- the first branch

  -- all answers are in the first branch's part
  in_whole : (f : List ℕ) → IsIn (part_at branches 0) f
  in_whole f r below =
      let row : (branch_at branches 0).row ≡ 0 = are.row in
      record {
        fixed = λ (before : r < (branch_at branches 0).row). absurd (omega arith);
        not_banned = λ _ found.
            let (k, within, is) = subst (λ (bans : List ℕ). Contains bans (slice_index f r)) are.banned found in
            absurd (omega arith);
      }

  divided_whole : 0 < all → (f : List ℕ) → IsAnswer objective X f → (f ≡ answer_at branches 0) ⊎ ((r : ℕ) × Holds X branches 1 0 r f)
  divided_whole some f answer = divided 0 f some answer (in_whole f)

  first_split : 0 < all → IsSplit objective X branches 1
  first_split some = record {
    cover = λ f answer. elim (divided_whole some f answer) [ inl same ↦ inl (0, omega arith, same) | inr (r, inside) ↦ inr (0, r, inside) ];
    different = λ a b order before. absurd (omega arith);
    apart = λ a e r before holds.
        let under : e < 1 = holds.before in
        let upto : r < length X.rows = holds.upto in
        let first : e ≡ 0 = omega arith in
        let same : a ≡ 0 = omega arith in
        let inside = subst (λ d. IsIn (child_at branches d r) (answer_at branches a)) first holds.within in
        not_in_child (part_at branches 0) (answer_at branches 0) r (rows 0 r some upto) (subst (λ d. IsIn (child_at branches 0 r) (answer_at branches d)) same inside);
    one = λ f e r d s answer left right.
        let before : e < 1 = left.before in
        let under : d < 1 = right.before in
        let first : e ≡ 0 = omega arith in
        let second : d ≡ 0 = omega arith in
        (first ∙ sym second, once (part_at branches 0) (answer_at branches 0) f r s (over 0 f some answer) (rows 0 r some left.upto) (rows 0 s some right.upto) (subst (λ k. IsIn (child_at branches k r) f) first left.within) (subst (λ k. IsIn (child_at branches k s) f) second right.within));
  }

  pub split_upto : (k : ℕ) → k < all → IsSplit objective X branches (suc k)
  split_upto zero some = first_split some
  split_upto (suc k) below = next_split (suc k) (omega arith) below (split_upto k (omega arith))
