-- An alternating tree that grows by a row.
use Rattle.std.proofs.Common.{◌≡◌, ◌≢◌, ℕ, ◌<◌, ◌⊎◌, inl, inr, List, [], ◌∷◌, ◌++◌, length, Option, Some, None, get_or, ⊎_elim, sym, ◌∙◌, subst, ap, refl, arith}
use Rattle.std.proofs.lemmas.List.{get_or_append_left, get_or_push, get_or_default, length_push}
use Rattle.std.proofs.lemmas.List.Elements.{All-push, All-cons, All-nil}
use Rattle.std.proofs.lemmas.List.Quantifiers.{all_pairs_push}
use Rattle.std.proofs.lemmas.Bool.{cases_lt, cases_eq}
use Rattle.std.proofs.lemmas.Option.{none-some, same_Some}
use Rattle.asg_match.specs.Matching.{column_at, Matches}
use Rattle.asg_match.specs.Alternating.{HasParent, IsFollowed, IsJoined, IsTree}
use Rattle.asg_match.specs.laws.Matchings.{Matches-below, Matches-same}

-- a row whose column was not reached is none of the tree's
next_apart : {m : List (Option ℕ)} {rows : List ℕ} {parents : ℕ → Option ℕ} → IsTree m rows parents → (c next : ℕ) → parents c ≡ None → Matches m next c → (k : ℕ) → k < length rows → get_or rows k 0 ≢ next
next_apart {m = m} {rows = rows} {parents = parents} tree c next unreached has k within e =
    ⊎_elim
    (λ later.
    let j = tree.joined k later within in
    let same = Matches-same m next j.column c (subst (λ r. Matches m r j.column) e j.has) has in
    none-some j.parent (sym unreached ∙ subst (λ d. HasParent parents d j.parent) same j.reached))
    (λ first.
    let at_root : 0 ≡ k = omega arith in
    let free : column_at m next ≡ None = subst (λ r. column_at m r ≡ None) (ap (λ i. get_or rows i 0) at_root ∙ e) tree.root_free in
    none-some c (sym free ∙ has))
    (cases_lt 0 k)

-- a tree of its root alone
pub IsTree-root : (m : List (Option ℕ)) (root : ℕ) (parents : ℕ → Option ℕ) → root < length m → column_at m root ≡ None → ((c : ℕ) → parents c ≡ None) → IsTree m (root ∷ []) parents
IsTree-root m root parents below free none =
    record {
      rooted = omega arith;
      root_free = free;
      below = All-cons (λ r. r < length m) root [] below (All-nil (λ r. r < length m));
      apart = λ i j d h k. absurd (omega (arith, k));
      followed = λ c p e. absurd (none-some p (sym (none c) ∙ e));
      joined = λ k later within. absurd (omega (arith, within));
    }

module _ (m : List (Option ℕ)) (rows : List ℕ) (parents after : ℕ → Option ℕ) (p c next : ℕ) (tree : IsTree m rows parents) (p_within : p < length rows) (unreached : parents c ≡ None) (here : after c ≡ Some p) (others : (d : ℕ) → d ≢ c → after d ≡ parents d) (has : Matches m next c) where
  row_before : (k : ℕ) → k < length rows → get_or (rows ++ next ∷ []) k 0 ≡ get_or rows k 0
  row_before k h = get_or_append_left rows (next ∷ []) 0 k h

  row_last : get_or (rows ++ next ∷ []) (length rows) 0 ≡ next
  row_last = get_or_push rows next 0 (length rows) refl

  -- a parent after is the new one, or one before
  pub parent_cases : (d q : ℕ) → HasParent after d q → HasParent parents d q ⊎ ((d ≡ c) × (q ≡ p))
  parent_cases d q e =
      ⊎_elim
      (λ same. inr (same, same_Some q p (sym e ∙ (ap after same ∙ here))))
      (λ other. inl (sym (others d other) ∙ e))
      (cases_eq d c)

  pub parent_kept : (d q : ℕ) → HasParent parents d q → HasParent after d q
  parent_kept d q e = others d (λ same. none-some q (sym unreached ∙ (sym (ap parents same) ∙ e))) ∙ e

  followed_more : (d q : ℕ) → HasParent after d q → IsFollowed m (rows ++ next ∷ []) d q
  followed_more d q e =
      ⊎_elim
      (λ there.
      let f = tree.followed d q there in
      record {
        place = f.place;
        later = f.later;
        within = omega (arith, length_push rows next, f.within);
        has = subst (λ r. Matches m r d) (sym (row_before f.place f.within)) f.has;
      })
      (λ new.
      record {
        place = length rows;
        later = subst (λ n. n < length rows) (sym new.1) p_within;
        within = omega (arith, length_push rows next);
        has = subst (λ r. Matches m r d) (sym row_last) (subst (λ x. Matches m next x) (sym new.0) has);
      })
      (parent_cases d q e)

  joined_more : (k : ℕ) → 0 < k → k < length (rows ++ next ∷ []) → IsJoined m (rows ++ next ∷ []) after k
  joined_more k later within =
      ⊎_elim
      (λ before.
      let j = tree.joined k later before in
      record {
        column = j.column;
        parent = j.parent;
        earlier = j.earlier;
        reached = parent_kept j.column j.parent j.reached;
        has = subst (λ r. Matches m r j.column) (sym (row_before k before)) j.has;
      })
      (λ last.
      let at_end : length rows ≡ k = omega (arith, length_push rows next) in
      record {
        column = c;
        parent = p;
        earlier = omega arith;
        reached = here;
        has = subst (λ r. Matches m r c) (sym row_last ∙ ap (λ i. get_or (rows ++ next ∷ []) i 0) at_end) has;
      })
      (cases_lt k (length rows))

  pub IsTree-push : IsTree m (rows ++ next ∷ []) after
  IsTree-push =
      record {
        rooted = omega (arith, length_push rows next, tree.rooted);
        root_free = subst (λ r. column_at m r ≡ None) (sym (row_before 0 tree.rooted)) tree.root_free;
        below = All-push (λ r. r < length m) rows next tree.below (Matches-below m next c has);
        apart = all_pairs_push ◌≢◌ rows next tree.apart (λ k d h e. next_apart tree c next unreached has k h (get_or_default rows k 0 d h ∙ e));
        followed = followed_more;
        joined = joined_more;
      }
