-- The trails on the way to a trail.
use Rattle.asg_kept_phases.proofs.Common.{◌≡◌, ℕ, List, [], ◌∷◌, ◌++◌, reverse, IfSome, Some, All, Option, sym, refl, ap, ◌∙◌, subst, All-cons, phases_along, Forest, IsLive, phases_of, phases_to, parent_of, last_phase, IsForest, HasParent-live, PhaseOf}

append_twice : {X : Type 0} (xs ys zs : List X) → (xs ++ ys) ++ zs ≡ xs ++ (ys ++ zs)
append_twice [] ys zs = refl
append_twice (x ∷ xs) ys zs = ap (λ l. x ∷ l) (append_twice xs ys zs)

module _ {V : Type 0} (F : Forest V) where
  -- the trails so far, the last one first, and the next one
  pub record IsOnTheWay (phases : List (PhaseOf V)) (trails : List ℕ) (next : Option ℕ) : Type 0 where
    pub live : IfSome next (IsLive F)
    pub all : All (IsLive F) (reverse trails)
    pub rest : phases_to F next ++ phases_along F (reverse trails) ≡ phases

module _ {V : Type 0} (F : Forest V) (forest : IsForest F) where
  pub IsOnTheWay-next : (phases : List (PhaseOf V)) (trails more : List ℕ) (t : ℕ) → reverse more ≡ t ∷ reverse trails → IsOnTheWay F phases trails (Some t) → IsOnTheWay F phases more (parent_of F t)
  IsOnTheWay-next phases trails more t is so_far =
      let has = HasParent-live F forest t so_far.live in
      record {
        live = has.live;
        all = subst (All (IsLive F)) (sym is) (All-cons (IsLive F) t (reverse trails) so_far.live so_far.all);
        rest =
            ap (λ list. phases_to F (parent_of F t) ++ phases_along F list) is
            ∙ sym (append_twice (phases_to F (parent_of F t)) (last_phase (phases_of F t) ∷ []) (phases_along F (reverse trails)))
            ∙ ap (λ list. list ++ phases_along F (reverse trails)) (sym has.list)
            ∙ so_far.rest;
      }
