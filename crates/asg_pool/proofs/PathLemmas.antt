-- The ways to the records of a table.
use Rattle.asg_pool.proofs.Common.{◌≡◌, ℕ, zero, suc, ◌+◌, ◌<◌, ◌≤◌, ◌≢◌, List, [], ◌∷◌, ◌++◌, length, is_some, IfSome, IsSome, Some, None, All, Option, AllPairs, option_and_then, unwrap_or, sym, refl, ap, ◌∙◌, subst, arith, length-append, All-cons, All-nil, AllPairs-cons, option_map, length-le_from_below, link_at, path, parent_at, depth_at, IsRooted, AreRooted, Link, PhaseOf}
use Rattle.asg_pool.proofs.LinkLemmas.{link_within}

-- what an option has that has something
pub some_of : {X : Type 0} (o : Option X) → IsSome o → (x : X) × (o ≡ Some x)
some_of None h = absurd (cc)
some_of (Some x) h = (x, refl)

pub some_there : {X : Type 0} (o : Option X) (x : X) → o ≡ Some x → IsSome o
some_there o x e = ap is_some e

pub if_some : {X : Type 0} (P : X → Type 0) (o : Option X) → ((x : X) → o ≡ Some x → P x) → IfSome o P
if_some P None h = tt
if_some P (Some x) h = h x refl

pub if_some_at : {X : Type 0} (P : X → Type 0) (o : Option X) (x : X) → IfSome o P → o ≡ Some x → P x
if_some_at P o x h e = subst (λ q. IfSome q P) e h

module _ (slots : List (Option Link)) where
  pub parent_is : (k : ℕ) (link : Link) → link_at slots k ≡ Some link → parent_at slots k ≡ link.parent
  parent_is k link e = ap (option_and_then (λ l. l.parent)) e

  pub depth_is : (k : ℕ) (link : Link) → link_at slots k ≡ Some link → depth_at slots (Some k) ≡ link.depth
  depth_is k link e = ap (λ o. unwrap_or (option_map (λ l. l.depth) o) 0) e

  -- the record at a place is there
  abbrev pub IsThere : ℕ → Type 0
  IsThere k = IsSome (link_at slots k)

module _ (slots : List (Option Link)) (rooted : AreRooted slots) where
  pub rooted_at : (k : ℕ) (link : Link) → link_at slots k ≡ Some link → IsRooted slots link
  rooted_at k link e = if_some_at (IsRooted slots) (link_at slots k) link (rooted k) e

  -- the parent of a record is there
  pub closed : (k p : ℕ) → IsThere slots k → parent_at slots k ≡ Some p → IsThere slots p
  closed k p there e =
      let has = some_of (link_at slots k) there in
      if_some_at (IsThere slots) _ p (rooted_at k has.0 has.1).parent (sym (parent_is slots k has.0 has.1) ∙ e)

  pub parent_there : (k : ℕ) → IsThere slots k → IfSome (parent_at slots k) (IsThere slots)
  parent_there k there = if_some (IsThere slots) (parent_at slots k) (λ p h. closed k p there h)

  -- a record counts one phase more than its parent
  pub depth_more : (k : ℕ) → IsThere slots k → depth_at slots (Some k) ≡ depth_at slots (parent_at slots k) + 1
  depth_more k there =
      let has = some_of (link_at slots k) there in
      depth_is slots k has.0 has.1 ∙ (rooted_at k has.0 has.1).depth ∙ ap (λ p. depth_at slots p + 1) (sym (parent_is slots k has.0 has.1))

  -- the records on the way to one, from it on: they count fewer and fewer phases
  chain : (n : ℕ) (trail : Option ℕ) → IfSome trail (IsThere slots) → depth_at slots trail ≡ n
      → (ks : List ℕ) × (length ks ≡ n) × AllPairs ◌≢◌ ks × All (λ j. j < length slots) ks × All (λ j. depth_at slots (Some j) ≤ n) ks
  chain zero trail there e =
      ([], refl, (λ i j d less within. absurd (omega arith)), All-nil (λ j. j < length slots), All-nil (λ j. depth_at slots (Some j) ≤ 0))
  chain (suc n) None there e = absurd (omega (arith, e))
  chain (suc n) (Some k) there e =
      let rest = chain n (parent_at slots k) (parent_there k there) (omega (arith, depth_more k there, e)) in
      let ks = rest.0 in
      let fewer = rest.4 in
      let apart : All (λ j. k ≢ j) ks = λ i d h same. let deep = ap (λ j. depth_at slots (Some j)) same in absurd (omega (arith, deep, e, fewer i d h)) in (
        k ∷ ks,
        ap suc rest.1,
        AllPairs-cons ◌≢◌ k ks apart rest.2,
        All-cons (λ j. j < length slots) k ks (link_within slots k there) rest.3,
        All-cons (λ j. depth_at slots (Some j) ≤ suc n) k ks (omega (arith, e)) (λ i d h. omega (arith, fewer i d h)),
      )

  -- no way is longer than the table
  pub depth_within : (k : ℕ) → IsThere slots k → depth_at slots (Some k) ≤ length slots
  depth_within k there =
      let all = chain (depth_at slots (Some k)) (Some k) there refl in
      omega (arith, all.1, length-le_from_below all.0 (length slots) all.2 all.3)

  pub way_within : (trail : Option ℕ) → IfSome trail (IsThere slots) → depth_at slots trail ≤ length slots
  way_within None there = omega arith
  way_within (Some k) there = depth_within k there

module _ {V : Type 0} (slots : List (Option Link)) (phase : ℕ → PhaseOf V) (rooted : AreRooted slots) where
  -- the way to a record ends with its phase
  pub path_more : (k : ℕ) → IsThere slots k → path slots phase (depth_at slots (Some k)) (Some k) ≡ path slots phase (depth_at slots (parent_at slots k)) (parent_at slots k) ++ phase k ∷ []
  path_more k there =
      let more : depth_at slots (Some k) ≡ suc (depth_at slots (parent_at slots k)) = omega (arith, depth_more slots rooted k there) in
      ap (λ n. path slots phase n (Some k)) more

  -- the way has as many phases as the record counts
  pub path_length : (n : ℕ) (trail : Option ℕ) → IfSome trail (IsThere slots) → depth_at slots trail ≡ n → length (path slots phase n trail) ≡ n
  path_length zero trail there e = refl
  path_length (suc n) None there e = absurd (omega (arith, e))
  path_length (suc n) (Some k) there e =
      let before = path_length n (parent_at slots k) (parent_there slots rooted k there) (omega (arith, depth_more slots rooted k there, e)) in
      omega (arith, length-append (path slots phase n (parent_at slots k)) (phase k ∷ []), before)

module _ {V : Type 0} (slots after : List (Option Link)) (phase phase_after : ℕ → PhaseOf V) (P : ℕ → Type 0)
    (links : (j : ℕ) → P j → link_at after j ≡ link_at slots j) (phases : (j : ℕ) → P j → phase_after j ≡ phase j)
    (onward : (j p : ℕ) → P j → parent_at slots j ≡ Some p → P p) where
  -- a way over records that stay stays
  pub path_same : (n : ℕ) (trail : Option ℕ) → IfSome trail P → path after phase_after n trail ≡ path slots phase n trail
  path_same zero trail there = refl
  path_same (suc n) None there = refl
  path_same (suc n) (Some j) there =
      let parent : parent_at after j ≡ parent_at slots j = ap (option_and_then (λ l. l.parent)) (links j there) in
      let before = path_same n (parent_at slots j) (if_some P (parent_at slots j) (λ p h. onward j p there h)) in
      ap (λ q. path after phase_after n q ++ phase_after j ∷ []) parent
      ∙ ap (λ xs. xs ++ phase_after j ∷ []) before
      ∙ ap (λ x. path slots phase n (parent_at slots j) ++ x ∷ []) (phases j there)
