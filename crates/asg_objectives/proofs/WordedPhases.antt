-- Phases that are turned into words one after the other.
use Rattle.asg_objectives.proofs.Common.{◌≡◌, List, [], ◌∷◌, ◌++◌, map, All, sym, ap, ◌∙◌, subst, append_assoc, All-push, All-tail, AreOfValues, Monoid, IsValue, Word, PhaseOf, worded, IsPhase, ArePhases}

module _ {V : Type 0} (M : Monoid V) (word_of : V → Word) (all : List (PhaseOf V)) where
  -- the first phases are out as words, the others are left
  pub record IsWorded (out : List (PhaseOf Word)) (left : List (PhaseOf V)) : Type 0 where
    pub list : out ++ map (worded word_of) left ≡ map (worded word_of) all
    pub kept : ArePhases out
    pub values : AreOfValues M left

  pub IsWorded-next : (out more : List (PhaseOf Word)) (left rest : List (PhaseOf V)) (phase : PhaseOf V)
      (words : PhaseOf Word)
      → IsWorded out left → left ≡ phase ∷ rest → more ≡ out ++ words ∷ [] → words ≡ worded word_of phase
      → IsPhase words → IsWorded more rest
  IsWorded-next out more left rest phase words was next pushed is one = record {
    list =
        ap (λ ps. ps ++ map (worded word_of) rest) (pushed ∙ ap (λ p. out ++ p ∷ []) is)
        ∙ append_assoc out (worded word_of phase ∷ []) (map (worded word_of) rest)
        ∙ ap (λ ps. out ++ map (worded word_of) ps) (sym next)
        ∙ was.list;
    kept = subst ArePhases (sym pushed) (All-push IsPhase out words was.kept one);
    values =
        All-tail (λ (p : PhaseOf V). All (IsValue M) p.steps) phase rest (subst (AreOfValues M) next was.values);
  }
