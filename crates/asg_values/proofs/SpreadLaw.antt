-- The costs of a valid choice of an instance lie between its least one and as much more as its
-- spread.
use Rattle.asg_values.proofs.Common.{◌≡◌, ℕ, suc, ◌≤◌, true, ◌&&◌, List, [], ◌∷◌, length, ℤ, pos, ◌+ℤ◌, ◌-ℤ◌, ◌≤ℤ◌, is_some, slice_get, int_le, Some, None, fold, All, Contains, count_by, Option, filter_map, option_and_then, sym, refl, ap, subst, ⊎_elim, arith, All-cons, All-contains, All-head, All-nil, All-tail, cons_option, false≢true, fold-int_min_reached, int_min, ints, none-some, range_with_len, active_count, placed_by, greatest, least, IsInstance, IsPlaceInRange, live_at, Problem, Chooses, IsValid, chosen_cost, costs_of, first_parts, choice_value, Balanced, Value, One, Two, Many, Cost}
use Rattle.asg_model.specs.declared.parts.Place.{Place}
use Rattle.asg_model.specs.Spreads.{HasSpread}
use Rattle.asg_values.proofs.BottleneckLaw.{part_chosen}
use Rattle.asg_values.proofs.ExtremeBounds.{greatest-bounds, least-bounds}
use Rattle.asg_model.specs.declared.parts.Place.TheVariants.{All as PlaceAll, Exactly}

-- ---- what holds of the cost of each chosen cell holds of the costs of a choice

module _ (P : ℤ → Type 0) where
  with_given : (o : Option Cost) (rest : List Cost) → ((y : Cost) → o ≡ Some y → P y.a) → All P (first_parts rest) → All P (first_parts (cons_option o rest))
  with_given None rest here all = all
  with_given (Some y) rest here all = All-cons P y.a (first_parts rest) (here y refl) all

  all_given : (h : ℕ → Option Cost) (xs : List ℕ) → ((x : ℕ) (y : Cost) → h x ≡ Some y → P y.a) → All P (first_parts (filter_map h xs))
  all_given h [] each = All-nil P
  all_given h (x ∷ xs) each = with_given (h x) (filter_map h xs) (each x) (all_given h xs each)

  chosen_part : (X : Problem) (f : List (Option ℕ)) (r : ℕ) (o : Option (Option ℕ)) → slice_get f r ≡ o → ((c : ℕ) (cost : Cost) → Chooses f r c → live_at X r c ≡ Some cost → P cost.a)
      → (y : Cost) → option_and_then (λ chosen. option_and_then (live_at X r) chosen) o ≡ Some y → P y.a
  chosen_part X f r None at each y e = absurd (none-some y e)
  chosen_part X f r (Some None) at each y e = absurd (none-some y e)
  chosen_part X f r (Some (Some c)) at each y e = each c y at e

  parts_chosen : (X : Problem) (f : List (Option ℕ)) → ((r c : ℕ) (cost : Cost) → Chooses f r c → live_at X r c ≡ Some cost → P cost.a) → All P (first_parts (costs_of X f))
  parts_chosen X f each = all_given (chosen_cost X f) (range_with_len 0 (length f)) (λ r y e. chosen_part X f r (slice_get f r) refl (each r) y e)

-- ---- a valid choice of an instance chooses a cell

placed_some : (X : Problem) (place : Place) → 1 ≤ active_count X → IsPlaceInRange X place → 1 ≤ placed_by place (active_count X)
placed_some X PlaceAll some range = some
placed_some X (Exactly k) some range = range.0

abbrev SomeChosen : List (Option ℕ) → Type 0
SomeChosen f = (r : ℕ) × (c : ℕ) × Chooses f r c

some_chosen : (f : List (Option ℕ)) → 1 ≤ count_by is_some f → SomeChosen f
some_chosen [] some = absurd (omega (arith, some))
some_chosen (Some c ∷ f) some = (0, c, refl)
some_chosen (None ∷ f) some =
    let rest = some_chosen f some in
    (suc rest.0, rest.1, rest.2)

chosen_of : (X : Problem) (f : List (Option ℕ)) → IsInstance X → IsValid X f → SomeChosen f
chosen_of X f instance valid =
    some_chosen f (subst (λ n. 1 ≤ n) (sym valid.counted) (placed_some X X.place instance.well_formed.some_active instance.well_formed.place_in_range))

some_live : (o : Option Cost) → is_some o ≡ true → (cost : Cost) × (o ≡ Some cost)
some_live None live = absurd (false≢true live)
some_live (Some cost) live = (cost, refl)

-- so it has a cost
no_parts : (X : Problem) (f : List (Option ℕ)) → IsValid X f → first_parts (costs_of X f) ≡ [] → SomeChosen f → ⊥
no_parts X f valid none one =
    let live = some_live (live_at X one.0 one.1) (valid.alive one.0 one.1 one.2) in
    part_chosen (λ a. ⊥) X f (subst (All (λ a. ⊥)) (sym none) (All-nil (λ a. ⊥))) one.0 one.1 live.0 one.2 live.1

-- ---- the law

abbrev IsChosenPart : Problem → List (Option ℕ) → ℤ → Type 0
IsChosenPart X f a = (r : ℕ) × (c : ℕ) × (cost : Cost) × Chooses f r c × (live_at X r c ≡ Some cost) × (cost.a ≡ a)

-- the least of some numbers is one of them
least_has : (P : ℤ → Type 0) (xs : List ℤ) → ¬ (xs ≡ []) → All P xs → P (least xs)
least_has P [] some all = absurd (some refl)
least_has P (x ∷ xs) some all =
    ⊎_elim
    (λ (first : fold int_min x xs ≡ x). subst P (sym first) (All-head P x xs all))
    (λ (later : Contains xs (fold int_min x xs)). All-contains P xs (fold int_min x xs) (All-tail P x xs all) later)
    (fold-int_min_reached x xs (fold int_min x xs) refl)

abbrev number_of : Value → ℤ
number_of (One x) = x
number_of (Two x y) = x
number_of (Many xs) = pos 0

between : (low high d a x : ℤ) → high -ℤ low ≡ d → a ≡ low → low ≤ℤ x → x ≤ℤ high → (int_le a x && int_le x (a +ℤ d)) ≡ true
between low high d a x spread least above below = grind (arith, ints)

pub spread_law : (X : Problem) (f : List (Option ℕ)) (d : ℤ) → IsInstance X → IsValid X f → choice_value Balanced X f ≡ One d → HasSpread X f d
spread_law X f d instance valid is =
    let parts = first_parts (costs_of X f) in
    let one = chosen_of X f instance valid in
    let some : ¬ (parts ≡ []) = λ none. absurd (no_parts X f valid none one) in
    let low = least_has (IsChosenPart X f) parts some
    (parts_chosen (IsChosenPart X f) X f (λ r c cost chooses live. (r, c, cost, chooses, live, refl))) in
    let spread : greatest parts -ℤ least parts ≡ d = ap number_of is in
    record {
      row = low.0;
      column = low.1;
      cost = low.2;
      chosen = low.3;
      live = low.4;
      inside = λ r c cost chooses live.
          between (least parts) (greatest parts) d low.2.a cost.a spread low.5
          (part_chosen (λ a. least parts ≤ℤ a) X f (least-bounds parts) r c cost chooses live)
          (part_chosen (λ a. a ≤ℤ greatest parts) X f (greatest-bounds parts) r c cost chooses live);
    }
