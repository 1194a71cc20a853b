-- What a caller of a region knows of its trails from one call to the next.
use Rattle.std.specs.Prelude.{◌≡◌, ◌≢◌, ℕ, ◌-◌, ◌<◌, ◌≤◌, All, List, [], ◌∷◌, ◌++◌, length, Option, Some, None, IfSome, is_some, unwrap_or, option_map, option_and_then, refl}
use Rattle.std.proofs.Common.{zero, suc, inl, inr, ◌∙◌, ap, sym, subst, arith, get_or, length-append}
use Rattle.std.proofs.Math.Seq.{get_or-append_seam}
use Rattle.std.proofs.lemmas.Bool.{cases_eq}
use Rattle.std.proofs.lemmas.List.Elements.{All-nil, All-push}
use Rattle.asg_proof.specs.Phases.{PhaseOf, phase_of}
use Rattle.asg_proof.specs.PromisedProofs.{IsPhaseOver}
use Rattle.asg_pool.specs.Forest.{Branch, Forest, trail_at, IsLive, parent_of, phases_of, phases_to, last_phase, IsLeaf, Changes, IsGrown, IsForest}

-- a live trail isn't a number that no trail has
pub live_differs : {V : Type 0} (F : Forest V) (k t : ℕ) → trail_at F k ≡ None → IsLive F t → t ≢ k
live_differs F k t free live same = absurd (let none = ap (trail_at F) same ∙ free in cc)

module _ {V : Type 0} {F G : Forest V} {k : ℕ} {branch : Option (Branch V)} where
  -- each other trail stays live, and keeps its list
  pub IsLive-kept : Changes F G k branch → (t : ℕ) → t ≢ k → IsLive F t → IsLive G t
  IsLive-kept changes t other live = ap is_some (changes.others t other) ∙ live

-- a trail that was pushed is live, with its parent's list and then its phase
pub IsLive-pushed : {V : Type 0} {F G : Forest V} {k : ℕ} {branch : Branch V} → Changes F G k (Some branch) → IsLive G k
IsLive-pushed changes = ap is_some changes.changed

pub phases_pushed : {V : Type 0} {F G : Forest V} {k : ℕ} {branch : Branch V} → Changes F G k (Some branch) → phases_of G k ≡ branch.phases
phases_pushed {V} changes = ap (λ (o : Option (Branch V)). unwrap_or (option_map (λ b. b.phases) o) []) changes.changed

-- the last phase of a list that ends with it
pub last_phase-push : {V : Type 0} (before : List (PhaseOf V)) (phase : PhaseOf V) → last_phase (before ++ phase ∷ []) ≡ phase
last_phase-push before phase =
    let end : length (before ++ phase ∷ []) - 1 ≡ length before = omega (arith, length-append before (phase ∷ [])) in
    ap (λ n. get_or (before ++ phase ∷ []) n (phase_of [] [] [])) end ∙ get_or-append_seam before phase [] (phase_of [] [] [])

module _ {V : Type 0} (F : Forest V) (forest : IsForest F) where
  -- what is known of a live trail: its list is that of its parent, which is live, and then its last
  -- phase, which is over the side
  pub record HasParent (t : ℕ) : Type 0 where
    pub live : IfSome (parent_of F t) (IsLive F)
    pub over : IsPhaseOver F.side (last_phase (phases_of F t))
    pub list : phases_of F t ≡ phases_to F (parent_of F t) ++ last_phase (phases_of F t) ∷ []

  pub HasParent-live : (t : ℕ) → IsLive F t → HasParent t
  HasParent-live t live = by (trail_at F t) refl
    where
      by : (o : Option (Branch V)) → trail_at F t ≡ o → HasParent t
      by None e = absurd (cc (e, live))
      by (Some branch) e =
          let grown = subst (λ (o : Option (Branch V)). IfSome o (IsGrown F)) e (forest t) in
          let list : phases_of F t ≡ branch.phases = ap (λ (o : Option (Branch V)). unwrap_or (option_map (λ (b : Branch V). b.phases) o) []) e in
          let parent : parent_of F t ≡ branch.parent = ap (λ (o : Option (Branch V)). option_and_then (λ (b : Branch V). b.parent) o) e in
          let last : last_phase (phases_of F t) ≡ grown.phase = ap last_phase (list ∙ grown.list) ∙ last_phase-push (phases_to F branch.parent) grown.phase in
          record {
            live = subst (λ o. IfSome o (IsLive F)) (sym parent) grown.parent;
            over = subst (IsPhaseOver F.side) (sym last) grown.over;
            list =
                list ∙ grown.list
                ∙ ap (λ p. phases_to F p ++ grown.phase ∷ []) (sym parent)
                ∙ ap (λ q. phases_to F (parent_of F t) ++ q ∷ []) (sym last);
          }

  -- the parent has fewer phases
  pub parent_shorter : (t : ℕ) → IsLive F t → length (phases_to F (parent_of F t)) < length (phases_of F t)
  parent_shorter t live =
      let has = HasParent-live t live in
      omega (arith, ap length has.list, length-append (phases_to F (parent_of F t)) (last_phase (phases_of F t) ∷ []))

  -- the phases of a live trail are over the side
  over_within : (n : ℕ) (trail : Option ℕ) → length (phases_to F trail) ≤ n → IfSome trail (IsLive F) → All (IsPhaseOver F.side) (phases_to F trail)
  over_within n None few live = All-nil (IsPhaseOver F.side)
  over_within zero (Some t) few live = absurd (let shorter = parent_shorter t live in omega (arith, few, shorter))
  over_within (suc n) (Some t) few live =
      let has = HasParent-live t live in
      let shorter = parent_shorter t live in
      subst (All (IsPhaseOver F.side)) (sym has.list)
      (All-push (IsPhaseOver F.side) (phases_to F (parent_of F t)) (last_phase (phases_of F t)) (over_within n (parent_of F t) (omega (arith, few, shorter)) has.live) has.over)

  pub phases_over : (trail : Option ℕ) → IfSome trail (IsLive F) → All (IsPhaseOver F.side) (phases_to F trail)
  phases_over trail live = over_within (length (phases_to F trail)) trail (omega arith) live

module _ {V : Type 0} where
  -- no trail of a forest grew on a number that none of its trails has
  pub IsLeaf-free : (F : Forest V) (k : ℕ) → IsForest F → trail_at F k ≡ None → IsLeaf F k
  IsLeaf-free F k forest free t e = by_trail (trail_at F t) refl
    where
      by_trail : (o : Option (Branch V)) → trail_at F t ≡ o → ⊥
      by_trail None h = absurd (let none = sym (ap (option_and_then (λ b. b.parent)) h) ∙ e in cc)
      by_trail (Some branch) h =
          let grown = subst (λ o. IfSome o (IsGrown F)) h (forest t) in
          let parent : branch.parent ≡ Some k = sym (ap (option_and_then (λ b. b.parent)) h) ∙ e in
          let live : IsLive F k = subst (λ o. IfSome o (IsLive F)) parent grown.parent in
          absurd (let none = free in cc)

  -- a trail is a leaf still where none that grew on it came
  pub IsLeaf-kept : (F G : Forest V) (k t : ℕ) (branch : Option (Branch V)) → Changes F G k branch → IfSome branch (λ b. b.parent ≢ Some t) → IsLeaf F t → IsLeaf G t
  IsLeaf-kept F G k t branch changes grew leaf other e =
      elim (cases_eq other k) [
        | inl same ↦ by_branch branch (sym (ap (option_and_then (λ b. b.parent)) (ap (trail_at G) same ∙ changes.changed)) ∙ e) grew
        | inr differs ↦ leaf other (sym (ap (option_and_then (λ b. b.parent)) (changes.others other differs)) ∙ e)
      ]
    where
      by_branch : (o : Option (Branch V)) → option_and_then (λ b. b.parent) o ≡ Some t → IfSome o (λ b. b.parent ≢ Some t) → ⊥
      by_branch None h not = absurd (cc)
      by_branch (Some b) h not = not h
