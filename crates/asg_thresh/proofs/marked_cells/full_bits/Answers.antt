use Rattle.asg_thresh.proofs.Common.{◌≡◌, ℕ, ◌<◌, ◌≤◌, Bool, true, false, cond, leb, List, map, length, get_or, take, sym, ap, ◌∙◌, subst, ⊎_elim, arith, length-take, get_or-take, w32, le-leb, leb-true, bit_at, bit_mask_l, bitmask_splat, cases_Bool, cases_lt, get_or-map, get_or_past, length-map, mask_l, AreBitsUpTo}
use Rattle.asg_thresh.proofs.marked_cells.full_bits.Goals as goal

module _ (grades : List ℕ) (limit : ℕ) (long : length grades ≡ 64) where
  -- which lanes are at most the limit
  abbrev marks : List Bool
  marks = map (λ x. leb x limit) (take 64 grades)

  mark_at : (k : ℕ) → k < 64 → bit_at (mask_l marks) k ≡ cond (leb (get_or grades k 0) limit) 1 0
  mark_at k h =
      bit_mask_l marks k
      ∙ ap (λ b. cond b 1 0) (get_or-map (λ x. leb x limit) (take 64 grades) k 0 false (omega (arith, length-take 64 grades)) ∙ ap (λ x. leb x limit) (get_or-take 64 grades k 0 h))

  mark_past : (k : ℕ) → 64 ≤ k → bit_at (mask_l marks) k ≡ 0
  mark_past k h =
      bit_mask_l marks k ∙ ap (λ b. cond b 1 0) (get_or_past marks k false (omega (arith, length-map (take 64 grades) (λ x. leb x limit), length-take 64 grades)))

  -- the mask of these lanes
  mask_bits : AreBitsUpTo grades 64 limit (mask_l marks)
  mask_bits k = (
    λ has.
        ⊎_elim
        (λ (h : k < 64).
        ⊎_elim
        (λ (yes : leb (get_or grades k 0) limit ≡ true). (h, leb-true (get_or grades k 0) limit yes))
        (λ (other : leb (get_or grades k 0) limit ≡ false).
        let none = mark_at k h ∙ ap (λ b. cond b 1 0) other in
        absurd (omega (arith, none, has)))
        (cases_Bool (leb (get_or grades k 0) limit)))
        (λ (past : 64 ≤ k). let none = mark_past k past in absurd (omega (arith, none, has)))
        (cases_lt k 64),
    λ both. mark_at k both.0 ∙ ap (λ b. cond b 1 0) (le-leb (get_or grades k 0) limit both.1),
  )

pub returns : goal.returns
returns c =
    let front = take 64 c.args.grades.now in
    subst (AreBitsUpTo c.args.grades.now 64 c.args.limit)
    (sym (bitmask_splat w32 leb front 64 c.args.limit (omega (arith, length-take 64 c.args.grades.now, c.requires)) (omega arith)))
    (mask_bits c.args.grades.now c.args.limit c.requires)
