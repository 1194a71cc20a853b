-- The live cells of a child are those of its instance that the branch keeps.
use Rattle.std.proofs.Common.{◌≡◌, ℕ, Bool, true, false, cond, ◌&&◌, eqb, List, [], ◌∷◌, Option, Some, None, refl, sym, ◌∙◌, ap, ⊎_elim}
use Rattle.std.specs.Prelude.{filter}
use Rattle.std.proofs.lemmas.Bool.{cases_Bool, and_parts, eqb-true}
use Rattle.asg_model.specs.declared.parts.Cost.{Cost}
use Rattle.asg_model.specs.Instances.{IsInstance}
use Rattle.asg_model.specs.Live.{live_at, cost_at, is_active, is_open}
use Rattle.asg_model.specs.Problem.{Problem}
use Rattle.asg_model.specs.laws.Retained.{IsInstance-retained}
use Rattle.asg_rankings.specs.Children.{is_kept, child}

abbrev Cell : Type 0
Cell = (ℕ × ℕ) × Cost

module _ (p : ℕ × ℕ → Bool) where
  cost_at-cons : (cell : Cell) (rest : List Cell) (r c : ℕ) (kept here : Bool) → p cell.0 ≡ kept → (eqb cell.0.0 r && eqb cell.0.1 c) ≡ here → cost_at (filter (λ x. p x.0) rest) r c ≡ cond (p (r, c)) (cost_at rest r c) None → cost_at (cond kept (cell ∷ filter (λ x. p x.0) rest) (filter (λ x. p x.0) rest)) r c ≡ cond (p (r, c)) (cond here (Some cell.1) (cost_at rest r c)) None
  cost_at-cons cell rest r c true true k h more =
      let parts = and_parts _ _ h in
      let same : p (r, c) ≡ true = ap (λ x. p (x, c)) (sym (eqb-true _ _ parts.0)) ∙ ap (λ y. p (cell.0.0, y)) (sym (eqb-true _ _ parts.1)) ∙ k in
      rw (h, same) refl
  cost_at-cons cell rest r c false true k h more =
      let parts = and_parts _ _ h in
      let same : p (r, c) ≡ false = ap (λ x. p (x, c)) (sym (eqb-true _ _ parts.0)) ∙ ap (λ y. p (cell.0.0, y)) (sym (eqb-true _ _ parts.1)) ∙ k in
      more ∙ rw same refl
  cost_at-cons cell rest r c true false k h more = rw h more
  cost_at-cons cell rest r c false false k h more = more

  -- the cost in a list of the cells that pass, by place
  pub cost_at-filter : (cells : List Cell) (r c : ℕ) → cost_at (filter (λ x. p x.0) cells) r c ≡ cond (p (r, c)) (cost_at cells r c) None
  cost_at-filter [] r c = ⊎_elim (λ (e : p (r, c) ≡ true). rw e refl) (λ (e : p (r, c) ≡ false). rw e refl) (cases_Bool (p (r, c)))
  cost_at-filter (cell ∷ rest) r c =
      cost_at-cons cell rest r c (p cell.0) (eqb cell.0.0 r && eqb cell.0.1 c) refl refl (cost_at-filter rest r c)

swapped : {V : Type 0} (b d : Bool) (o : Option V) → cond b (cond d o None) None ≡ cond d (cond b o None) None
swapped true true o = refl
swapped true false o = refl
swapped false true o = refl
swapped false false o = refl

-- the live cells of a child
pub live_at-child : (X : Problem) (f : List (Option ℕ)) (branch r c : ℕ) → live_at (child X f branch) r c ≡ cond (is_kept X f branch (r, c)) (live_at X r c) None
live_at-child X f branch r c =
    ap (λ o. cond (is_active X r && is_open X c) o None) (cost_at-filter (is_kept X f branch) X.cells r c)
    ∙ swapped (is_active X r && is_open X c) (is_kept X f branch (r, c)) (cost_at X.cells r c)

kept_of : {V : Type 0} (b : Bool) (o : Option V) (x : V) → cond b o None ≡ Some x → (b ≡ true) × (o ≡ Some x)
kept_of true o x e = (refl, e)
kept_of false o x e = absurd (cc e)

-- a live cell of a child is kept, and live in the instance with the same cost
pub live-from_child : (X : Problem) (f : List (Option ℕ)) (branch r c : ℕ) (cost : Cost) → live_at (child X f branch) r c ≡ Some cost → (is_kept X f branch (r, c) ≡ true) × (live_at X r c ≡ Some cost)
live-from_child X f branch r c cost e = kept_of (is_kept X f branch (r, c)) (live_at X r c) cost (sym (live_at-child X f branch r c) ∙ e)

-- and a live cell that is kept is live in the child
pub live-to_child : (X : Problem) (f : List (Option ℕ)) (branch r c : ℕ) → is_kept X f branch (r, c) ≡ true → live_at (child X f branch) r c ≡ live_at X r c
live-to_child X f branch r c kept = live_at-child X f branch r c ∙ ap (λ b. cond b (live_at X r c) None) kept

-- a child is an instance
pub IsInstance-child : (X : Problem) (f : List (Option ℕ)) (branch : ℕ) → IsInstance X → IsInstance (child X f branch)
IsInstance-child X f branch instance = IsInstance-retained X (is_kept X f branch) instance
