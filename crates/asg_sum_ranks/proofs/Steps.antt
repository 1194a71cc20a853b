-- Branches one after the other, and what is in their parts.
use Rattle.asg_sum_ranks.proofs.Common.{◌≡◌, ℕ, suc, ◌+◌, ◌<◌, ◌≤◌, List, [], ◌∷◌, length, get_or, slice_index, Contains, sym, refl, ap, ◌∙◌, subst, inl, inr, arith, cases_eq, get_or_default, same_lists, Duals, AreAbove, IsAnswer, sum_at, Part, IsIn, child_part, IsChildGap, Problem, Objective, Branch, branch_at, answer_at, part_at, child_at, IsSound, IsChild, AreBranches, HaveGaps, IsShut, SumsTo}
use Rattle.asg_dual_bounds.proofs.DualBounds.{child_bound}

pub first_branches : (objective : Objective) (X : Problem) (branches : List Branch)
    → (branch_at branches 0).row ≡ 0 → (branch_at branches 0).banned ≡ []
    → IsAnswer objective X (answer_at branches 0) → IsIn (part_at branches 0) (answer_at branches 0)
    → AreAbove objective X (part_at branches 0) (branch_at branches 0).duals
    → AreBranches objective X branches 1
first_branches objective X branches row banned answer within above = record {
  row = row;
  banned = banned;
  sound = λ a below.
      let first : 0 ≡ a = omega arith in
      subst (IsSound objective X branches) first (record { answer = answer; within = within; above = above });
  child = λ a one below. absurd (omega arith);
}

pub next_branches : (objective : Objective) (X : Problem) (branches : List Branch) (place : ℕ)
    → AreBranches objective X branches place → 1 ≤ place → IsChild X branches place
    → IsAnswer objective X (answer_at branches place) → IsIn (part_at branches place) (answer_at branches place)
    → AreAbove objective X (part_at branches place) (branch_at branches place).duals
    → AreBranches objective X branches (place + 1)
next_branches objective X branches place are one is_child answer within above = record {
  row = are.row;
  banned = are.banned;
  sound = λ a below. elim (cases_eq place a) [ inl last ↦ subst (IsSound objective X branches) last (record { answer = answer; within = within; above = above }) | inr other ↦ are.sound a (omega arith) ];
  child = λ a from below. elim (cases_eq place a) [ inl last ↦ subst (IsChild X branches) last is_child | inr other ↦ are.child a from (omega arith) ];
}

-- the part of a branch is its parent's child
pub same_part : (X : Problem) (branches : List Branch) (place : ℕ) → IsChild X branches place
    → child_at branches (branch_at branches place).parent (branch_at branches place).row ≡ part_at branches place
same_part X branches place is_child =
    let banned : (branch_at branches place).banned ≡ (child_at branches (branch_at branches place).parent (branch_at branches place).row).banned = is_child.part in
    ap (λ (bans : List ℕ). let part : Part = record { columns = answer_at branches (branch_at branches place).parent; row = (branch_at branches place).row; banned = bans } in part) (sym banned)

-- columns that agree with the fixed ones, and of which the row's isn't banned, are in the part
pub in_part : (columns fixed banned : List ℕ) (row : ℕ) → ((k : ℕ) → k < row → slice_index columns k ≡ slice_index fixed k) → ¬ Contains banned (slice_index columns row)
    → IsIn (record { columns = fixed; row = row; banned = banned }) columns
in_part columns fixed banned row agree free r below = record {
  fixed = agree r;
  not_banned = λ same found. free (subst (λ k. Contains banned (slice_index columns k)) same found);
}

-- a list behind a column
pub behind : (banned others : List ℕ) (column : ℕ) → length banned ≡ length others + 1 → get_or banned 0 0 ≡ column → ((i : ℕ) → i < length others → get_or banned (i + 1) 0 ≡ get_or others i 0) → banned ≡ column ∷ others
behind [] others column long first rest = absurd (omega arith)
behind (x ∷ xs) others column long first rest =
    let same : xs ≡ others = same_lists xs others (omega arith) (λ k d below.
    let within : k < length others = omega arith in
    let next : k + 1 ≡ suc k = omega arith in
    let read : get_or xs k 0 ≡ get_or others k 0 = subst (λ n. get_or (x ∷ xs) n 0 ≡ get_or others k 0) next (rest k within) in
    get_or_default xs k d 0 below ∙ (read ∙ get_or_default others k 0 d within)) in
    ap (λ y. y ∷ xs) first ∙ ap (λ ys. column ∷ ys) same

-- gaps of the children of a sound branch
pub have_gaps : (objective : Objective) (X : Problem) (branches : List Branch) (a : ℕ) (gaps : List ℕ) → IsSound objective X branches a
    → ((k : ℕ) → (part_at branches a).row ≤ k → k < length X.rows → IsChildGap objective X (part_at branches a) (answer_at branches a) k (branch_at branches a).duals (slice_index gaps k))
    → HaveGaps objective X branches a gaps
have_gaps objective X branches a gaps sound each r b from upto bound f answer within =
    let gap = each r from upto in
    let least : b + gap.row_gap + gap.column_gap ≤ sum_at objective X f = child_bound objective X (part_at branches a) (branch_at branches a).duals b sound.above bound (answer_at branches a) r gap.row_gap gap.column_gap sound.answer sound.within from upto gap.row gap.column f answer within in
    let whole : slice_index gaps r ≡ gap.row_gap + gap.column_gap = gap.both in
    omega arith

-- sums that ascend, one after the other
pub sums_one : (objective : Objective) (X : Problem) (branches : List Branch) (last : ℕ) → last ≡ sum_at objective X (answer_at branches 0) → SumsTo objective X branches 1 last
sums_one objective X branches last is = record {
  last_one = λ a same.
      let zero_is : 0 ≡ a = omega arith in
      subst (λ n. last ≡ sum_at objective X (answer_at branches n)) zero_is is;
  ascends = λ a below. absurd (omega arith);
}

pub sums_more : (objective : Objective) (X : Problem) (branches : List Branch) (end last sum : ℕ) → SumsTo objective X branches end last → sum ≡ sum_at objective X (answer_at branches end) → last ≤ sum → SumsTo objective X branches (end + 1) sum
sums_more objective X branches end last sum sums is order = record {
  last_one = λ a same.
      let here : end ≡ a = omega arith in
      subst (λ n. sum ≡ sum_at objective X (answer_at branches n)) here is;
  ascends = λ a below. elim (cases_eq (a + 1) end) [
    | inr other ↦ sums.ascends a (omega arith)
    | inl here ↦
        let before : last ≡ sum_at objective X (answer_at branches a) = sums.last_one a here in
        let least : sum_at objective X (answer_at branches a) ≤ sum_at objective X (answer_at branches end) = omega arith in
        subst (λ n. sum_at objective X (answer_at branches a) ≤ sum_at objective X (answer_at branches n)) (sym here) least
  ];
}

-- a test of a child by lists that are those of a branch
pub above_child : (objective : Objective) (X : Problem) (branches : List Branch) (place row : ℕ) (part : Part) (answer : List ℕ) (before after now : Duals)
    → part ≡ part_at branches place → answer ≡ answer_at branches place → before ≡ (branch_at branches place).duals → after ≡ now
    → (AreAbove objective X part before → AreAbove objective X (child_part part answer row) after)
    → AreAbove objective X (part_at branches place) (branch_at branches place).duals → AreAbove objective X (child_at branches place row) now
above_child objective X branches place row part answer before after now same_part same_answer same_before same_after test above =
    let here = subst (λ d. AreAbove objective X part d) (sym same_before) (subst (λ p. AreAbove objective X p (branch_at branches place).duals) (sym same_part) above) in
    let there = subst (λ d. AreAbove objective X (child_part part answer row) d) same_after (test here) in
    let with_answer = subst (λ g. AreAbove objective X (child_part part g row) now) same_answer there in
    subst (λ p. AreAbove objective X (child_part p (answer_at branches place) row) now) same_part with_answer

-- the gaps by lists that are those of a branch
pub gaps_by : (objective : Objective) (X : Problem) (branches : List Branch) (place : ℕ) (gaps : List ℕ) (part : Part) (answer : List ℕ) (duals : Duals) (rows : ℕ)
    → part ≡ part_at branches place → answer ≡ answer_at branches place → duals ≡ (branch_at branches place).duals → rows ≡ length X.rows
    → (AreAbove objective X part duals → (k : ℕ) → part.row ≤ k → k < rows → IsChildGap objective X part answer k duals (slice_index gaps k))
    → IsSound objective X branches place → HaveGaps objective X branches place gaps
gaps_by objective X branches place gaps part answer duals rows same_part same_answer same_duals same_rows test sound =
    let at_rows = subst (λ n. AreAbove objective X part duals → (k : ℕ) → part.row ≤ k → k < n → IsChildGap objective X part answer k duals (slice_index gaps k)) same_rows test in
    let at_duals = subst (λ d. AreAbove objective X part d → (k : ℕ) → part.row ≤ k → k < length X.rows → IsChildGap objective X part answer k d (slice_index gaps k)) same_duals at_rows in
    let at_answer = subst (λ g. AreAbove objective X part (branch_at branches place).duals → (k : ℕ) → part.row ≤ k → k < length X.rows → IsChildGap objective X part g k (branch_at branches place).duals (slice_index gaps k)) same_answer at_duals in
    let at_part = subst (λ p. AreAbove objective X p (branch_at branches place).duals → (k : ℕ) → p.row ≤ k → k < length X.rows → IsChildGap objective X p (answer_at branches place) k (branch_at branches place).duals (slice_index gaps k)) same_part at_answer in
    have_gaps objective X branches place gaps sound (at_part sound.above)

-- a list without an entry
pub empty : (xs : List ℕ) → length xs ≡ 0 → xs ≡ []
empty [] none = refl
empty (x ∷ xs) none = absurd (omega arith)

-- children that are shut, one after the other
pub shut_more : (objective : Objective) (X : Problem) (branches : List Branch) (least a row : ℕ) → ((r : ℕ) → (branch_at branches a).row ≤ r → r < row → IsShut objective X branches least a r) → IsShut objective X branches least a row
    → (r : ℕ) → (branch_at branches a).row ≤ r → r < row + 1 → IsShut objective X branches least a r
shut_more objective X branches least a row before last r from below =
    elim (cases_eq row r) [ inl same ↦ subst (IsShut objective X branches least a) same last | inr other ↦ before r from (omega arith) ]
