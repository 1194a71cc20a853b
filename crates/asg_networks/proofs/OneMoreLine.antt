-- What one more line of an asn file says.
use Rattle.asg_networks.proofs.Common.{◌≡◌, ℕ, List, [], ◌∷◌, ◌++◌, slice_get, Some, None, fold, Option, refl, ap, ◌∙◌, cons_option, filter_map-append, fold_push, append-nil, sizes_in, node_in, arc_in, with_id, Arc, Line, Header, Sizes, filter_map}
use Rattle.asg_networks.specs.AsnArcs.{stated, arcs, sources}

-- one more line adds what it says to a list of what lines say
module _ {A : Type 0} (h : Line → Option A) (before : List Line) (line : Line) where
  says_nothing : h line ≡ None → filter_map h (before ++ line ∷ []) ≡ filter_map h before
  says_nothing none = filter_map-append h before (line ∷ []) ∙ ap (λ x. filter_map h before ++ cons_option x []) none ∙ append-nil (filter_map h before)

  says_more : (x : A) → h line ≡ Some x → filter_map h (before ++ line ∷ []) ≡ filter_map h before ++ x ∷ []
  says_more x some = filter_map-append h before (line ∷ []) ∙ ap (λ x. filter_map h before ++ cons_option x []) some

module _ (before : List Line) (line : Line) where
  pub stated_stays : sizes_in line ≡ None → stated (before ++ line ∷ []) ≡ stated before
  unfolding stated
  stated_stays none = ap (λ xs. slice_get xs 0) (says_nothing sizes_in before line none)

  pub arcs_stay : arc_in line ≡ None → arcs (before ++ line ∷ []) ≡ arcs before
  unfolding arcs
  arcs_stay none = says_nothing arc_in before line none

  pub arcs_grow : (arc : Arc) → arc_in line ≡ Some arc → arcs (before ++ line ∷ []) ≡ arcs before ++ arc ∷ []
  unfolding arcs
  arcs_grow arc some = says_more arc_in before line arc some

  pub sources_stay : node_in line ≡ None → sources (before ++ line ∷ []) ≡ sources before
  unfolding sources
  sources_stay none = ap (λ ids. fold with_id [] ids) (says_nothing node_in before line none)

  pub sources_grow : (id : ℕ) → node_in line ≡ Some id → sources (before ++ line ∷ []) ≡ with_id (sources before) id
  unfolding sources
  sources_grow id some = ap (λ ids. fold with_id [] ids) (says_more node_in before line id some) ∙ fold_push with_id [] (filter_map node_in before) id

-- sizes are stated once
none_stated : {A : Type 0} (xs : List A) → slice_get xs 0 ≡ None → xs ≡ []
none_stated [] none = refl
none_stated (x ∷ xs) none = cc

pub stated_first : (before : List Line) (sizes : Sizes) → stated before ≡ None → stated (before ++ Header (Some sizes) ∷ []) ≡ Some sizes
unfolding stated
stated_first before sizes none = ap (λ xs. slice_get xs 0) (says_more sizes_in before (Header (Some sizes)) sizes refl ∙ ap (λ xs. xs ++ sizes ∷ []) (none_stated (filter_map sizes_in before) none))
