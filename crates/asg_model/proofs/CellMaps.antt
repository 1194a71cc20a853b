-- What an insert into a map of cells keeps.
use Rattle.asg_model.proofs.Common.{List, [], ◌∷◌, All, Ordering, Less, Equal, Greater, All-cons, All-head, All-tail, insert_entry, match_ordering}

module _ {K V : Type 0} (A : K → Type 0) (B : V → Type 0) where
  insert_at : (o : Ordering) (e : K × V) (es rest : List (K × V)) (k : K) (v : V) → A k → B v → A e.0 → B e.1 → All (λ e. A e.0 × B e.1) es → All (λ e. A e.0 × B e.1) rest
      → All (λ e. A e.0 × B e.1) (match_ordering o ((k, v) ∷ (e ∷ es)) ((e.0, v) ∷ es) (e ∷ rest))
  insert_at Less e es rest k v a b c d all more = All-cons (λ e. A e.0 × B e.1) (k, v) (e ∷ es) (a, b) (All-cons (λ e. A e.0 × B e.1) e es (c, d) all)
  insert_at Equal e es rest k v a b c d all more = All-cons (λ e. A e.0 × B e.1) (e.0, v) es (c, b) all
  insert_at Greater e es rest k v a b c d all more = All-cons (λ e. A e.0 × B e.1) e rest (c, d) more

  -- what holds of each key and of each value holds after an insert of a key and a value of which it
  -- holds
  pub All-insert_entry : (cmp : K → K → Ordering) (es : List (K × V)) (k : K) (v : V) → A k → B v → All (λ e. A e.0 × B e.1) es → All (λ e. A e.0 × B e.1) (insert_entry cmp es k v)
  All-insert_entry cmp [] k v a b all = All-cons (λ e. A e.0 × B e.1) (k, v) [] (a, b) all
  All-insert_entry cmp (e ∷ es) k v a b all =
      let head = All-head (λ e. A e.0 × B e.1) e es all in
      let tail = All-tail (λ e. A e.0 × B e.1) e es all in
      insert_at (cmp k e.0) e es (insert_entry cmp es k v) k v a b head.0 head.1 tail (All-insert_entry cmp es k v a b tail)
