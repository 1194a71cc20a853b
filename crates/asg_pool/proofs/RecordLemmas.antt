-- Phases that are copied on the way from a record to the first one.
use Rattle.asg_pool.proofs.Common.{◌≡◌, ℕ, List, [], ◌∷◌, ◌++◌, reverse, IfSome, Some, Option, sym, ap, ◌∙◌, subst, append_assoc, reverse-append, path, parent_at, depth_at, AreRooted, Link, PhaseOf}
use Rattle.asg_pool.proofs.PathLemmas.{IsThere, parent_there, path_more}

-- the phases after the next record are out, the last one first
pub record IsUnwound {V : Type 0} (slots : List (Option Link)) (phase : ℕ → PhaseOf V) (last next : Option ℕ) (out : List (PhaseOf V)) : Type 0 where
  pub there : IfSome next (IsThere slots)
  pub list : path slots phase (depth_at slots next) next ++ reverse out ≡ path slots phase (depth_at slots last) last

module _ {V : Type 0} (slots : List (Option Link)) (rooted : AreRooted slots) (phase : ℕ → PhaseOf V) (last : Option ℕ) (k : ℕ) (out : List (PhaseOf V)) where
  IsUnwound-more : IsUnwound slots phase last (Some k) out → IsUnwound slots phase last (parent_at slots k) (out ++ phase k ∷ [])
  IsUnwound-more was =
      let parent = parent_at slots k in
      let way : List (PhaseOf V) = path slots phase (depth_at slots parent) parent in
      record {
        there = parent_there slots rooted k was.there;
        list =
            ap (λ ps. way ++ ps) (reverse-append out (phase k ∷ []))
            ∙ sym (append_assoc way (phase k ∷ []) (reverse out))
            ∙ ap (λ ps. ps ++ reverse out) (sym (path_more slots phase rooted k was.there))
            ∙ was.list;
      }

  -- the same where what comes next and what is out have names of their own
  pub IsUnwound-next : (here next : Option ℕ) (more : List (PhaseOf V)) (copy : PhaseOf V) → here ≡ Some k → next ≡ parent_at slots k → more ≡ out ++ copy ∷ [] → copy ≡ phase k
      → IsUnwound slots phase last here out → IsUnwound slots phase last next more
  IsUnwound-next here next more copy at parent pushed is was =
      subst (λ n. IsUnwound slots phase last n more) (sym parent)
      (subst (IsUnwound slots phase last (parent_at slots k)) (sym (pushed ∙ ap (λ p. out ++ p ∷ []) is))
      (IsUnwound-more (subst (λ n. IsUnwound slots phase last n out) at was)))
