-- A part gives a choice of its own, and its children take its place.
use Rattle.std.proofs.Common.{◌≡◌, ◌≢◌, ℕ, ◌+◌, ◌<◌, ◌≤◌, ◌⊎◌, List, [], ◌∷◌, ◌++◌, length, Option, refl, sym, ◌∙◌, ap, subst, arith, ⊎_elim, inl, inr}
use Rattle.std.specs.Prelude.{Bool, IsTrue, Contains, slice_index_or}
use Rattle.std.proofs.lemmas.Bool.{cases_eq}
use Rattle.std.proofs.lemmas.List.Elements.{Contains-append_left, Contains-append_right, Contains-append_cases}
use Rattle.asg_model.specs.declared.parts.Place.TheVariants.{All as PlaceAll}
use Rattle.asg_model.specs.Counts.{placed}
use Rattle.asg_model.specs.Problem.{Problem}
use Rattle.asg_model.specs.ValidChoice.{IsValid}
use Rattle.asg_order.specs.Monoid.{Monoid, IsValue, IsLe, IsOrderedMonoid}
use Rattle.asg_rankings.specs.Children.{child}
use Rattle.asg_rankings.specs.Frontiers.{IsFrontier, Splits, IsLeastPart}
use Rattle.asg_rankings.specs.laws.ChosenRows.{chosen_at}
use Rattle.asg_rankings.specs.laws.Partition.{first_difference, IsValid-from_child, not-in_child, covered, once}

here_is : (f : List (Option ℕ)) → Contains (f ∷ []) f
here_is f = (0, omega arith, refl)

only_here : (f g : List (Option ℕ)) → Contains (f ∷ []) g → f ≡ g
only_here f g c =
    let zero_place : 0 ≡ c.0 = omega (arith, c.1) in
    subst (λ k. slice_index_or (f ∷ []) k g ≡ g) (sym zero_place) c.2

module _ (X : Problem) (given : List (List (Option ℕ))) (is_open is_open_now : ℕ → Bool) (part part_now : ℕ → Problem) (last n : ℕ) (f : List (Option ℕ))
    (frontier : IsFrontier X given is_open part) (there : IsTrue (is_open n)) (all : (part n).place ≡ PlaceAll) (valid : IsValid (part n) f)
    (splits : Splits is_open is_open_now part part_now last n f)
  where
    -- a choice of an open part now is one of an old part, or of a child
    old_or_child : (g : List (Option ℕ)) (m : ℕ) → IsTrue (is_open_now m) → IsValid (part_now m) g → (IsTrue (is_open m) × (m ≢ n) × IsValid (part m) g) ⊎ ((i : ℕ) × (1 ≤ i) × (i ≤ placed (part n)) × (m ≡ last + i) × IsValid (child (part n) f i) g)
    old_or_child g m now in_m =
        ⊎_elim
        (λ (old : IsTrue (is_open m) × (m ≢ n)). inl (old.0, old.1, subst (λ Y. IsValid Y g) (splits.same m (splits.upto m old.0)) in_m))
        (λ (new : (i : ℕ) × (1 ≤ i) × (i ≤ placed (part n)) × (m ≡ last + i)).
        inr (new.0, new.1, new.2, new.3, subst (λ Y. IsValid Y g) (ap part_now new.3 ∙ splits.child_parts new.0 new.1 new.2) in_m))
        (splits.only m now)

    -- the frontier after a part gave a choice
    pub frontier_after : IsFrontier X (given ++ f ∷ []) is_open_now part_now
    frontier_after = record {
      whole = λ g valid_g.
          ⊎_elim
          (λ (before : Contains given g). inl (Contains-append_left given (f ∷ []) g before))
          (λ (at : (m : ℕ) × IsTrue (is_open m) × IsValid (part m) g).
          ⊎_elim
          (λ (here : at.0 ≡ n).
          let in_n : IsValid (part n) g = subst (λ m. IsValid (part m) g) here at.2 in
          ⊎_elim
          (λ (same : f ≡ g). inl (Contains-append_right given (f ∷ []) g (subst (Contains (f ∷ [])) same (here_is f))))
          (λ (differ : (r : ℕ) × (r < length f) × ((s : ℕ) → s < r → chosen_at f s ≡ chosen_at g s) × (chosen_at f r ≢ chosen_at g r)).
          let some = covered (part n) f all valid g in_n (λ same. differ.3 (ap (λ x. chosen_at x differ.0) same)) in
          ⊎_elim
          (λ (now : IsTrue (is_open_now (last + some.0))). inr (last + some.0, now, subst (λ Y. IsValid Y g) (sym (splits.child_parts some.0 some.1 some.2)) some.3))
          (λ (none : (h : List (Option ℕ)) → ¬ IsValid (child (part n) f some.0) h). absurd (none g some.3))
          (splits.open_or_empty some.0 some.1 some.2))
          (first_difference f g (valid.over ∙ sym in_n.over)))
          (λ (other : at.0 ≡ n → ⊥). inr (at.0, splits.kept at.0 at.1 other, subst (λ Y. IsValid Y g) (sym (splits.same at.0 (splits.upto at.0 at.1))) at.2))
          (cases_eq at.0 n))
          (frontier.whole g valid_g);
      sound = λ g m now in_m.
          ⊎_elim
          (λ (old : IsTrue (is_open m) × (m ≢ n) × IsValid (part m) g). frontier.sound g m old.0 old.2)
          (λ (new : (i : ℕ) × (1 ≤ i) × (i ≤ placed (part n)) × (m ≡ last + i) × IsValid (child (part n) f i) g).
          frontier.sound g n there (IsValid-from_child (part n) f new.0 g new.4))
          (old_or_child g m now in_m);
      apart = λ g m k now_m now_k in_m in_k.
          ⊎_elim
          (λ (old : IsTrue (is_open m) × (m ≢ n) × IsValid (part m) g).
          ⊎_elim
          (λ (old_k : IsTrue (is_open k) × (k ≢ n) × IsValid (part k) g). frontier.apart g m k old.0 old_k.0 old.2 old_k.2)
          (λ (new_k : (i : ℕ) × (1 ≤ i) × (i ≤ placed (part n)) × (k ≡ last + i) × IsValid (child (part n) f i) g).
          absurd (old.1 (frontier.apart g m n old.0 there old.2 (IsValid-from_child (part n) f new_k.0 g new_k.4))))
          (old_or_child g k now_k in_k))
          (λ (new : (i : ℕ) × (1 ≤ i) × (i ≤ placed (part n)) × (m ≡ last + i) × IsValid (child (part n) f i) g).
          ⊎_elim
          (λ (old_k : IsTrue (is_open k) × (k ≢ n) × IsValid (part k) g).
          absurd (old_k.1 (frontier.apart g k n old_k.0 there old_k.2 (IsValid-from_child (part n) f new.0 g new.4))))
          (λ (new_k : (i : ℕ) × (1 ≤ i) × (i ≤ placed (part n)) × (k ≡ last + i) × IsValid (child (part n) f i) g).
          new.3 ∙ ap (λ i. last + i) (once (part n) f all valid new.0 new_k.0 g new.1 new.2 new_k.1 new_k.2 new.4 new_k.4) ∙ sym new_k.3)
          (old_or_child g k now_k in_k))
          (old_or_child g m now_m in_m);
      fresh = λ g m now in_m given_now.
          ⊎_elim
          (λ (before : Contains given g).
          ⊎_elim
          (λ (old : IsTrue (is_open m) × (m ≢ n) × IsValid (part m) g). frontier.fresh g m old.0 old.2 before)
          (λ (new : (i : ℕ) × (1 ≤ i) × (i ≤ placed (part n)) × (m ≡ last + i) × IsValid (child (part n) f i) g).
          frontier.fresh g n there (IsValid-from_child (part n) f new.0 g new.4) before)
          (old_or_child g m now in_m))
          (λ (last_one : Contains (f ∷ []) g).
          let same = only_here f g last_one in
          ⊎_elim
          (λ (old : IsTrue (is_open m) × (m ≢ n) × IsValid (part m) g). old.1 (frontier.apart g m n old.0 there old.2 (subst (IsValid (part n)) same valid)))
          (λ (new : (i : ℕ) × (1 ≤ i) × (i ≤ placed (part n)) × (m ≡ last + i) × IsValid (child (part n) f i) g).
          not-in_child (part n) f all valid new.0 new.1 new.2 (subst (IsValid (child (part n) f new.0)) (sym same) new.4))
          (old_or_child g m now in_m))
          (Contains-append_cases given (f ∷ []) g given_now);
    }

-- a choice of the least part that is worth the part's bound is new, valid, and worth at most what
-- each valid choice is that wasn't given
module _ {V : Type 0} (M : Monoid V) (laws : IsOrderedMonoid M) (worth : List (Option ℕ) → V) (X : Problem) (given : List (List (Option ℕ))) (is_open : ℕ → Bool) (part : ℕ → Problem) (bound : ℕ → V) (n : ℕ) (f : List (Option ℕ))
    (frontier : IsFrontier X given is_open part) (least : IsLeastPart M worth is_open part bound n) (valid : IsValid (part n) f) (is : worth f ≡ bound n)
    (bound_is_value : (m : ℕ) → IsTrue (is_open m) → IsValue M (bound m)) (worth_is_value : (g : List (Option ℕ)) → IsValid X g → IsValue M (worth g))
  where
    pub least_valid : IsValid X f
    least_valid = frontier.sound f n least.there valid

    pub least_new : ¬ Contains given f
    least_new = frontier.fresh f n least.there valid

    pub least_best : (g : List (Option ℕ)) → IsValid X g → ¬ Contains given g → IsLe M (worth f) (worth g)
    least_best g valid_g other =
        ⊎_elim
        (λ (before : Contains given g). absurd (other before))
        (λ (at : (m : ℕ) × IsTrue (is_open m) × IsValid (part m) g).
        subst (λ z. IsLe M z (worth g)) (sym is)
        (laws.transitive (bound n) (bound at.0) (worth g) (bound_is_value n least.there) (bound_is_value at.0 at.1) (worth_is_value g valid_g)
        (least.least at.0 at.1) (least.bounds g at.0 at.1 at.2)))
        (frontier.whole g valid_g)
