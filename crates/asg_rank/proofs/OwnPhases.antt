-- The phases of a trail beyond those of the one before it.
use Rattle.asg_rank.proofs.Common.{◌≡◌, ℕ, ◌+◌, ◌-◌, List, [], ◌∷◌, ◌++◌, length, Some, None, All, Option, sym, refl, ap, ◌∙◌, subst, ⊎_elim, append-nil, arith, All-nil, none-some, same_Some, AreOfValues, IsNext, GrewOn, Monoid, IsValue, Word, Forest, phases_of, phases_to, last_phase, IsForest, HasParent-live, PhaseOf, phase_of, worded, AreOwn}
use Rattle.asg_nodes.specs.Settled.{IsOwn}

-- the last of phases of values has values, and so it is where there is none
pub last_values : {V : Type 0} (M : Monoid V) (phases : List (PhaseOf V)) → AreOfValues M phases → All (IsValue M) (last_phase phases).steps
last_values M [] values = All-nil (IsValue M)
last_values M (phase ∷ rest) values = values (length (phase ∷ rest) - 1) (phase_of [] [] []) (omega arith)

module _ {V : Type 0} (F : Forest V) (before trail : Option ℕ) (next : IsNext F before trail) where
  pub own_grew : (t : ℕ) → IsOwn before trail (Some t) → GrewOn F before t
  own_grew t own =
      ⊎_elim
      (λ (same : trail ≡ before). absurd (own.1 same))
      (λ (grew : (u : ℕ) × (trail ≡ Some u) × GrewOn F before u). subst (GrewOn F before) (same_Some grew.0 t (sym grew.1 ∙ own.0)) grew.2)
      next

  -- the phases of a trail that grew are those before it and then its last one
  pub own_one : (word_of : V → Word) → IsForest F → (t : ℕ) → IsOwn before trail (Some t) → AreOwn word_of F before trail (worded word_of (last_phase (phases_of F t)) ∷ [])
  own_one word_of forest t own =
      let grew = own_grew t own in record {
        own = last_phase (phases_of F t) ∷ [];
        one = omega arith;
        list = ap (phases_to F) own.0 ∙ (HasParent-live F forest t grew.live).list ∙ ap (λ p. phases_to F p ++ last_phase (phases_of F t) ∷ []) grew.parent;
        words = refl;
      }

  -- a trail that has nothing beyond the one before is that one
  same_trail : IsOwn before trail None → trail ≡ before
  same_trail own =
      ⊎_elim
      (λ (same : trail ≡ before). same)
      (λ (none : trail ≡ None).
      ⊎_elim
      (λ (same : trail ≡ before). same)
      (λ (grew : (t : ℕ) × (trail ≡ Some t) × GrewOn F before t). absurd (none-some grew.0 (sym none ∙ grew.1)))
      next)
      own

  pub own_none : (word_of : V → Word) → IsOwn before trail None → AreOwn word_of F before trail []
  own_none word_of own = record {
    own = [];
    one = omega arith;
    list = ap (phases_to F) (same_trail own) ∙ sym (append-nil (phases_to F before));
    words = refl;
  }
