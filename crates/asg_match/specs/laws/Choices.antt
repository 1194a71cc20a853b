-- The costs that a choice picks, as a list and row by row.
use Rattle.std.proofs.Common.{◌≡◌, refl, ℕ, ◌<◌, ◌≤◌, List, [], ◌∷◌, length, Option, Some, None, cond, sym, ◌∙◌, subst, ap, arith, ⊎_elim, suc, zero-add}
use Rattle.std.specs.Prelude.{ℤ, ◌≤ℤ◌, All, IfSome, IsSome, is_some, count_by, slice_get, filter_map, fold, option_and_then}
use Rattle.std.specs.Int.{int_max, int_min}
use Rattle.std.specs.List.{range_with_len, cons_option}
use Rattle.std.proofs.lemmas.Bool.{cases_lt}
use Rattle.std.proofs.lemmas.Int.{fold-int_max_reached, fold-int_min_reached}
use Rattle.std.proofs.lemmas.List.Elements.{All-head, All-tail, All-cons, All-nil, All-contains}
use Rattle.std.proofs.lemmas.List.FromFn.{length-range_with_len, get_or-range_with_len}
use Rattle.std.proofs.lemmas.Option.{none-some, slice_get_past}
use Rattle.asg_model.specs.declared.parts.Cost.{Cost}
use Rattle.asg_model.specs.Problem.{Problem}
use Rattle.asg_model.specs.Live.{live_at}
use Rattle.std.proofs.lemmas.List.Sums.{sum_by-cons}
use Rattle.asg_model.specs.declared.parts.Place.{Place}
use Rattle.asg_model.specs.declared.parts.Place.TheVariants.{All as PlaceAll, Exactly}
use Rattle.asg_model.specs.Counts.{active_count, placed_by}
use Rattle.asg_model.specs.Instances.{IsPlaceInRange, IsInstance}
use Rattle.asg_model.specs.ValidChoice.{Chooses, IsValid}
use Rattle.asg_model.specs.Values.{chosen_cost, costs_of}
use Rattle.asg_model.specs.Extremes.{greatest, least}

-- what holds of each value that is there holds of the list of them
All-filter_map : {E B : Type 0} (h : E → Option B) (P : B → Type 0) (es : List E) → All (λ e. IfSome (h e) P) es → All P (filter_map h es)
All-filter_map h P [] all = All-nil P
All-filter_map {B = B} h P (e ∷ es) all =
    front (h e) (All-head (λ x. IfSome (h x) P) e es all) (All-filter_map h P es (All-tail (λ x. IfSome (h x) P) e es all))
  where
    front : (o : Option B) → IfSome o P → All P (filter_map h es) → All P (cons_option o (filter_map h es))
    front None p rest = rest
    front (Some b) p rest = All-cons P b (filter_map h es) p rest

-- and the other way round
All-from_filter_map : {E B : Type 0} (h : E → Option B) (P : B → Type 0) (es : List E) → All P (filter_map h es) → All (λ e. IfSome (h e) P) es
All-from_filter_map h P [] all = All-nil (λ e. IfSome (h e) P)
All-from_filter_map {B = B} h P (e ∷ es) all =
    let both = front (h e) all in
    All-cons (λ x. IfSome (h x) P) e es both.0 (All-from_filter_map h P es both.1)
  where
    front : (o : Option B) → All P (cons_option o (filter_map h es)) → IfSome o P × All P (filter_map h es)
    front None rest = (tt, rest)
    front (Some b) rest = (All-head P b (filter_map h es) rest, All-tail P b (filter_map h es) rest)

-- a fact of the cost of each row that chooses one holds of the costs of the choice
pub costs_each : (X : Problem) (f : List (Option ℕ)) (P : Cost → Type 0) → ((r : ℕ) → r < length f → IfSome (chosen_cost X f r) P) → All P (costs_of X f)
costs_each X f P each =
    All-filter_map (chosen_cost X f) P (range_with_len 0 (length f))
    (λ k d h.
    let below : k < length f = omega (arith, length-range_with_len 0 (length f)) in
    subst (λ r. IfSome (chosen_cost X f r) P) (sym (get_or-range_with_len 0 (length f) k d below ∙ zero-add k)) (each k below))

pub costs_at_row : (X : Problem) (f : List (Option ℕ)) (P : Cost → Type 0) → All P (costs_of X f) → (r : ℕ) → r < length f → IfSome (chosen_cost X f r) P
costs_at_row X f P all r h =
    let rows = range_with_len 0 (length f) in
    let at = All-from_filter_map (chosen_cost X f) P rows all r 0 (omega (arith, length-range_with_len 0 (length f))) in
    subst (λ k. IfSome (chosen_cost X f k) P) (get_or-range_with_len 0 (length f) r 0 h ∙ zero-add r) at

-- what a row chooses that is live is its chosen cost
pub chosen_is : (X : Problem) (f : List (Option ℕ)) (r c : ℕ) (cost : Cost) → Chooses f r c → live_at X r c ≡ Some cost → (r < length f) × (chosen_cost X f r ≡ Some cost)
chosen_is X f r c cost chooses live = (
  ⊎_elim (λ h. h) (λ past. absurd (none-some (Some c) (sym (slice_get_past f r past) ∙ chooses))) (cases_lt r (length f)),
  ap (λ o. option_and_then (λ chosen. option_and_then (live_at X r) chosen) o) chooses ∙ live,
)

-- a list that isn't empty, of numbers that are at most a bound, has a greatest one that is too
pub greatest-le : (xs : List ℤ) (b : ℤ) → 0 < length xs → All (λ x. x ≤ℤ b) xs → greatest xs ≤ℤ b
greatest-le [] b some upto = absurd (omega arith)
greatest-le (x ∷ xs) b some upto =
    ⊎_elim
    (λ e. subst (λ y. y ≤ℤ b) (sym e) (All-head (λ y. y ≤ℤ b) x xs upto))
    (λ at. All-contains (λ y. y ≤ℤ b) xs (fold int_max x xs) (All-tail (λ y. y ≤ℤ b) x xs upto) at)
    (fold-int_max_reached x xs (fold int_max x xs) refl)

pub least-ge : (xs : List ℤ) (b : ℤ) → 0 < length xs → All (λ x. b ≤ℤ x) xs → b ≤ℤ least xs
least-ge [] b some from = absurd (omega arith)
least-ge (x ∷ xs) b some from =
    ⊎_elim
    (λ e. subst (λ y. b ≤ℤ y) (sym e) (All-head (λ y. b ≤ℤ y) x xs from))
    (λ at. All-contains (λ y. b ≤ℤ y) xs (fold int_min x xs) (All-tail (λ y. b ≤ℤ y) x xs from) at)
    (fold-int_min_reached x xs (fold int_min x xs) refl)

-- where a choice chooses, some row chooses a column
some_chosen : (f : List (Option ℕ)) → 0 < count_by is_some f → (r : ℕ) × (c : ℕ) × (slice_get f r ≡ Some (Some c))
some_chosen [] h = absurd (omega arith)
some_chosen (Some c ∷ f) h = (0, c, refl)
some_chosen (None ∷ f) h =
    let rest = some_chosen f (omega (arith, h, sum_by-cons (λ (o : Option ℕ). cond (is_some o) 1 0) None f)) in
    (suc rest.0, rest.1, rest.2)

-- a valid choice places a row
placed_some : (X : Problem) (place : Place) → IsPlaceInRange X place → 1 ≤ active_count X → 0 < placed_by place (active_count X)
placed_some X PlaceAll h some = some
placed_some X (Exactly k) h some = h.0

-- so it has a cost
pub some_cost : (X : Problem) (f : List (Option ℕ)) → IsInstance X → IsValid X f → (r : ℕ) × (cost : Cost) × (r < length f) × (chosen_cost X f r ≡ Some cost)
some_cost X f i valid =
    let at = some_chosen f (subst (λ n. 0 < n) (sym valid.counted) (placed_some X X.place i.well_formed.place_in_range i.well_formed.some_active)) in
    let live = value_there (live_at X at.0 at.1) (valid.alive at.0 at.1 at.2) in
    let chosen = chosen_is X f at.0 at.1 live.0 at.2 live.1 in
    (at.0, live.0, chosen.0, chosen.1)
  where
    value_there : {A : Type 0} (o : Option A) → IsSome o → (x : A) × (o ≡ Some x)
    value_there (Some x) h = (x, refl)
    value_there None h = absurd (cc)

-- a chosen cost is that of a live cell
chosen_live_by : (X : Problem) (r : ℕ) (o : Option (Option ℕ)) (cost : Cost) → option_and_then (λ chosen. option_and_then (live_at X r) chosen) o ≡ Some cost → (c : ℕ) × (live_at X r c ≡ Some cost)
chosen_live_by X r None cost e = absurd (none-some cost e)
chosen_live_by X r (Some None) cost e = absurd (none-some cost e)
chosen_live_by X r (Some (Some c)) cost e = (c, e)

pub chosen_live : (X : Problem) (f : List (Option ℕ)) (r : ℕ) (cost : Cost) → chosen_cost X f r ≡ Some cost → (c : ℕ) × (live_at X r c ≡ Some cost)
chosen_live X f r cost e = chosen_live_by X r (slice_get f r) cost e

-- what is shown of a value that is there
pub if_some : {A : Type 0} (P : A → Type 0) (o : Option A) → ((x : A) → o ≡ Some x → P x) → IfSome o P
if_some P None show = tt
if_some P (Some x) show = show x refl

pub from_if_some : {A : Type 0} (P : A → Type 0) (o : Option A) (x : A) → o ≡ Some x → IfSome o P → P x
from_if_some P o x e h = subst (λ q. IfSome q P) e h

-- the list of the costs isn't empty
pub costs_some : (X : Problem) (f : List (Option ℕ)) → IsInstance X → IsValid X f → 0 < length (costs_of X f)
costs_some X f i valid = by (costs_of X f) refl
  where
    by : (costs : List Cost) → costs_of X f ≡ costs → 0 < length (costs_of X f)
    by (cost ∷ costs) e = subst (λ xs. 0 < length xs) (sym e) (omega arith)
    by [] e =
        let at = some_cost X f i valid in
        let none : All (λ (c : Cost). ⊥) (costs_of X f) = subst (All (λ (c : Cost). ⊥)) (sym e) (All-nil (λ (c : Cost). ⊥)) in
        absurd (from_if_some (λ (c : Cost). ⊥) (chosen_cost X f at.0) at.1 at.3 (costs_at_row X f (λ (c : Cost). ⊥) none at.0 at.2))
