-- The words of comparisons of 64 first parts.
use Rattle.asg_cell_tables.proofs.Common.{◌≡◌, ℕ, ◌<◌, ◌≤◌, Bool, true, false, cond, not, eqb, List, map, length, get_or, take, ℤ, pos, int_eq, sym, refl, ap, ◌∙◌, subst, ⊎_elim, arith, length-take, get_or-take, to_z-of_z, SFits, to_z, of_z, ne_eqb, Decides-int_eq, bit_mask_l, cases_Bool, cases_lt, false≢true, get_or-map, get_or_default, get_or_past, length-map, mask_l, AreBitsOf, is_there, absent, w64}

-- a first part, as the bits of a machine compare it, isn't that of an absent cell
pub absent_number : (a : ℤ) → SFits w64 a → not (eqb (of_z w64 a) 9223372036854775808) ≡ is_there a
absent_number a fits =
    ⊎_elim
    (λ (e : int_eq a absent ≡ true).
    subst (λ (x : ℤ). not (eqb (of_z w64 x) 9223372036854775808) ≡ is_there x) (sym ((Decides-int_eq a absent).0 e)) refl)
    (λ (e : int_eq a absent ≡ false).
    ap not
    (ne_eqb (of_z w64 a) 9223372036854775808
    (λ (same : of_z w64 a ≡ 9223372036854775808).
    let is : a ≡ absent = sym (to_z-of_z w64 a fits) ∙ ap (to_z w64) same in
    false≢true (sym e ∙ (Decides-int_eq a absent).1 is)))
    ∙ sym (ap not e))
    (cases_Bool (int_eq a absent))

module _ (firsts : List ℤ) (long : length firsts ≡ 64) (fits : (k : ℕ) → k < length firsts → SFits w64 (get_or firsts k (pos 0))) where
  abbrev numbers : List ℕ
  numbers = map (of_z w64) (take 64 firsts)

  abbrev differs : ℕ → Bool
  differs x = not (eqb x 9223372036854775808)

  abbrev marks : List Bool
  marks = map differs numbers

  mark_at : (k : ℕ) → k < 64 → get_or marks k false ≡ is_there (get_or firsts k absent)
  mark_at k h =
      get_or-map differs numbers k 0 false (omega (arith, h, length-map (take 64 firsts) (of_z w64), length-take 64 firsts, long))
      ∙ ap differs
      (get_or-map (of_z w64) (take 64 firsts) k (pos 0) 0 (omega (arith, h, length-take 64 firsts, long))
      ∙ ap (of_z w64) (get_or-take 64 firsts k (pos 0) h))
      ∙ absent_number (get_or firsts k (pos 0)) (fits k (omega (arith, h, long)))
      ∙ ap is_there (get_or_default firsts k (pos 0) absent (omega (arith, h, long)))

  bit_is : (b : Bool) → eqb (cond b 1 0) 1 ≡ b
  bit_is true = refl
  bit_is false = refl

  -- the mask of these lanes
  pub first_bits : AreBitsOf 64 (λ k. is_there (get_or firsts k absent)) (mask_l marks)
  first_bits = record {
    each = λ k h. ap (λ n. eqb n 1) (bit_mask_l marks k) ∙ bit_is (get_or marks k false) ∙ mark_at k h;
    inside = λ k has.
        ⊎_elim
        (λ (h : k < 64). h)
        (λ (past : 64 ≤ k).
        let none : get_or marks k false ≡ false = get_or_past marks k false (omega (arith, past, length-map numbers differs, length-map (take 64 firsts) (of_z w64), length-take 64 firsts, long)) in
        absurd (false≢true (sym (ap (λ n. eqb n 1) (bit_mask_l marks k) ∙ bit_is (get_or marks k false) ∙ none) ∙ has)))
        (cases_lt k 64);
  }
