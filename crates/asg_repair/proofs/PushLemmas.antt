-- Chains of trails on which phases are pushed.
use Rattle.asg_repair.proofs.Common.{◌≡◌, ℕ, ◌≢◌, ◌⊎◌, List, [], ◌∷◌, IfSome, Some, None, Option, option_and_then, sym, refl, ap, ◌∙◌, subst, inl, inr, ⊎_elim, cases_eq, IsPush, ArePushed, IsChain, Branch, Forest, trail_at, IsLive, IsLeaf, IsForest, IsGrown, parent_of, PhaseOf}
use Rattle.asg_pool.specs.laws.Trails.{live_differs, IsLive-kept, IsLive-pushed}

-- a chain in which each trail grew on a live one
pub record IsLinked {V : Type 0} (F : Forest V) (last : Option ℕ) : Type 0 where
  pub chain : IsChain F last
  pub parents : (t p : ℕ) → parent_of F t ≡ Some p → IsLive F p

-- in a forest each trail grew on a live one
parents_by : {V : Type 0} (F : Forest V) (p : ℕ) (o : Option (Branch V)) → option_and_then (λ (b : Branch V). b.parent) o ≡ Some p → IfSome o (IsGrown F) → IsLive F p
parents_by F p None e grown = absurd (let none = e in cc)
parents_by F p (Some branch) e grown = subst (λ o. IfSome o (IsLive F)) e grown.parent

pub IsLinked-forest : {V : Type 0} (F : Forest V) (last : Option ℕ) → IsForest F → IsChain F last → IsLinked F last
IsLinked-forest F last forest chain = record { chain = chain; parents = λ t p e. parents_by F p (trail_at F t) e (forest t) }

module _ {V : Type 0} (F G : Forest V) (parent : Option ℕ) (phase : PhaseOf V) (t : ℕ) (push : IsPush F G parent phase t) (linked : IsLinked F parent) where
  live_kept : (p : ℕ) → IsLive F p → IsLive G p
  live_kept p live = IsLive-kept push.trails p (live_differs F t p push.new live) live

  parent_other : (s : ℕ) → s ≢ t → parent_of G s ≡ parent_of F s
  parent_other s other = ap (λ (o : Option (Branch V)). option_and_then (λ b. b.parent) o) (push.trails.others s other)

  parent_new : parent_of G t ≡ parent
  parent_new = ap (λ (o : Option (Branch V)). option_and_then (λ b. b.parent) o) push.trails.changed

  -- what grew on a trail is the one that was pushed, or did so before
  grew : (s p : ℕ) → parent_of G s ≡ Some p → ((s ≡ t) × (parent ≡ Some p)) ⊎ (parent_of F s ≡ Some p)
  grew s p e =
      ⊎_elim
      (λ (same : s ≡ t). inl (same, sym parent_new ∙ ap (parent_of G) (sym same) ∙ e))
      (λ other. inr (sym (parent_other s other) ∙ e))
      (cases_eq s t)

  parent_live : (p : ℕ) → parent ≡ Some p → IsLive F p
  parent_live p e = subst (λ o. IfSome o (IsLive F)) e linked.chain.live

  parent_leaf : (p : ℕ) → parent ≡ Some p → IsLeaf F p
  parent_leaf p e = subst (λ o. IfSome o (IsLeaf F)) e linked.chain.leaf

  -- what a trail grew on was live before
  grew_on_live : (s p : ℕ) → parent_of G s ≡ Some p → IsLive F p
  grew_on_live s p e =
      ⊎_elim (λ new. parent_live p new.1) (λ old. linked.parents s p old) (grew s p e)

  single_after : (a b p : ℕ) → parent_of G a ≡ Some p → parent_of G b ≡ Some p → a ≡ b
  single_after a b p x y =
      ⊎_elim
      (λ new.
      ⊎_elim (λ also. new.0 ∙ sym also.0) (λ old. absurd (parent_leaf p new.1 b old)) (grew b p y))
      (λ was.
      ⊎_elim (λ new. absurd (parent_leaf p new.1 a was)) (λ old. linked.chain.single a b p was old) (grew b p y))
      (grew a p x)

  pub IsLinked-pushed : IsLinked G (Some t)
  IsLinked-pushed = record {
    chain = record {
      live = IsLive-pushed push.trails;
      leaf = λ other e. live_differs F t t push.new (grew_on_live other t e) refl;
      single = single_after;
    };
    parents = λ s p e. live_kept p (grew_on_live s p e);
  }

pub IsLinked-all : {V : Type 0} (phases : List (PhaseOf V)) (F G : Forest V) (trail last : Option ℕ) → ArePushed phases F G trail last → IsLinked F trail → IsLinked G last
IsLinked-all [] F G trail last pushed linked =
    subst (λ H. IsLinked H last) (sym pushed.0) (subst (IsLinked F) (sym pushed.1) linked)
IsLinked-all (phase ∷ rest) F G trail last pushed linked =
    IsLinked-all rest pushed.0 G (Some pushed.1) last pushed.3 (IsLinked-pushed F pushed.0 trail phase pushed.1 pushed.2 linked)
