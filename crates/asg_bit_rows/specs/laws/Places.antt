-- One place of a table that stands row by row.
use Rattle.std.specs.Prelude.{◌≡◌, ℕ, ◌+◌, ◌*◌, ◌/◌, ◌%◌, ◌<◌, true, false, ◌&&◌, eqb, cond, refl}
use Rattle.std.proofs.Common.{sym, ap, ◌∙◌, ⊎_elim}
use Rattle.std.proofs.lemmas.Bool.{cases_Bool, eq-eqb, ne_eqb}
use Rattle.std.proofs.lemmas.Bool.Decides.{Decides-eqb}
use Rattle.std.proofs.lemmas.Nat.{div-mul-add, mod-mul-add}

-- the row and the column of a place are one row and one column
pub same_place : (w s x r y : ℕ) → x < w → y < w → s * w + x ≡ r * w + y → (s ≡ r) × (x ≡ y)
same_place w s x r y h k e = (
  sym (div-mul-add s w x h) ∙ ap (λ n. n / w) e ∙ div-mul-add r w y k,
  sym (mod-mul-add s w x h) ∙ ap (λ n. n % w) e ∙ mod-mul-add r w y k,
)

-- what a change of one place says there
pub place_hit : {A : Type 0} (s r d c : ℕ) (x y : A) → s ≡ r → d ≡ c → cond (eqb s r && eqb d c) x y ≡ x
place_hit s r d c x y e f = rw (eq-eqb s r e, eq-eqb d c f) refl

-- and at every other place
pub place_missed : {A : Type 0} (s r d c : ℕ) (x y : A) → (s ≡ r → d ≡ c → ⊥) → cond (eqb s r && eqb d c) x y ≡ y
place_missed s r d c x y other =
    ⊎_elim
    (λ (row : eqb s r ≡ true). rw (row, ne_eqb d c (λ e. other ((Decides-eqb s r).0 row) e)) refl)
    (λ (row : eqb s r ≡ false). rw row refl)
    (cases_Bool (eqb s r))
