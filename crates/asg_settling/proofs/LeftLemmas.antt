-- Columns that leave before the end of a phase.
use Rattle.asg_settling.proofs.Common.{◌≡◌, ℕ, ◌+◌, ◌<◌, ◌≤◌, cond, ltb, List, length, slice_index, ap, ◌∙◌, subst, ⊎_elim, arith, le-ltb, lt-ltb, cases_lt, IsPassed}

-- a place by itself
pub passed_none : (leaves : List ℕ) (end k next : ℕ) → k ≤ length leaves → next ≡ k → IsPassed leaves end k next
passed_none leaves end k next h e = record {
  onward = omega (arith, e);
  within = omega (arith, e, h);
  stays = λ j low high. absurd (omega (arith, e, low, high));
}

-- one column more
pub passed_more : (leaves : List ℕ) (end k next later : ℕ) → k < length leaves → next ≡ cond (ltb (slice_index leaves k) end) k later → IsPassed leaves end (k + 1) later → IsPassed leaves end k next
passed_more leaves end k next later h e after =
    ⊎_elim
    (λ (leaves_early : slice_index leaves k < end). passed_none leaves end k next (omega (arith, h)) (e ∙ ap (λ b. cond b k later) (lt-ltb (slice_index leaves k) end leaves_early)))
    (λ (late : end ≤ slice_index leaves k).
    let is : next ≡ later = e ∙ ap (λ b. cond b k later) (le-ltb (slice_index leaves k) end late) in
    record {
      onward = omega (arith, is, after.onward);
      within = omega (arith, is, after.within);
      stays = λ j low high.
          ⊎_elim
          (λ (more : k < j). after.stays j (omega (arith, more)) (omega (arith, high, is)))
          (λ (first : j ≤ k). let here : k ≡ j = omega (arith, first, low) in subst (λ i. end ≤ slice_index leaves i) here late)
          (cases_lt k j);
    })
    (cases_lt (slice_index leaves k) end)
