-- A table that is filled by the costs of arcs.
use Rattle.asg_networks.proofs.Common.{◌≡◌, ℕ, ◌+◌, ◌<◌, Bool, true, false, cond, not, ◌&&◌, List, [], ◌∷◌, map, length, get_or, take, ℤ, IfSome, ◌==◌, slice_get, Some, None, All, Option, find, option_and_then, refl, ap, ◌∙◌, subst, All-cons, All-head, All-nil, All-tail, All-take, All-weaker, IsPartInRange, are_unlike, HasCell, with_cost, arc_of_link, known_cost, firsts_between, twice_faults, Arc, Layout, Link, ArcTwice}
use Rattle.asg_networks.proofs.TwiceLemmas.{AreOnce, one_more_once, twice_here, found_told, ends_flip}

-- costs of arcs that are in range
arcs_in_range : (links : List Link) → All (λ link. IsPartInRange link.cost) links → All (λ arc. IfSome arc.cost IsPartInRange) (map arc_of_link links)
arcs_in_range [] all = All-nil (λ (arc : Arc). IfSome arc.cost IsPartInRange)
arcs_in_range (link ∷ links) all =
    All-cons (λ (arc : Arc). IfSome arc.cost IsPartInRange) (arc_of_link link) (map arc_of_link links) (All-head (λ (link : Link). IsPartInRange link.cost) link links all) (arcs_in_range links (All-tail (λ (link : Link). IsPartInRange link.cost) link links all))

pub known_in_range : (links : List Link) → All (λ link. IsPartInRange link.cost) links → (s t : ℕ) → IfSome (known_cost links s t) IsPartInRange
known_in_range links all s t = go (find between (map arc_of_link links)) refl
  where
    between : Arc → Bool
    between arc = (arc.source == s) && (arc.target == t)

    go : (found : Option Arc) → find between (map arc_of_link links) ≡ found → IfSome (option_and_then (λ arc. arc.cost) found) IsPartInRange
    go None is = tt
    go (Some arc) is = found_told (λ arc. IfSome arc.cost IsPartInRange) between (map arc_of_link links) arc is (arcs_in_range links all)

-- a table holds the costs of the first i arcs, of which none repeats another at another cost
pub record IsFilled (sources targets : List ℕ) (links : List Link) (i : ℕ) (firsts : List ℤ) : Type 0 where
  pub once : AreOnce (known_cost (take i links)) links i
  pub firsts_are : firsts ≡ firsts_between (known_cost (take i links)) sources targets

cells_in_range : (layout : Layout) (links : List Link) → All (HasCell layout) links → All (λ link. IsPartInRange link.cost) links
cells_in_range layout links all = All-weaker (HasCell layout) (λ link. IsPartInRange link.cost) (λ link h. h.in_range) links all

not_true : (b : Bool) → true ≡ not b → b ≡ false
not_true true e = cc
not_true false e = refl

not_false : (b : Bool) → false ≡ not b → b ≡ true
not_false true e = refl
not_false false e = cc

-- the next arc
module _ (layout : Layout) (links : List Link) (i : ℕ) (link : Link) (within : i < length links) (here : get_or links i link ≡ link) (cells : All (HasCell layout) links) (sources targets : List ℕ) (old : List ℤ) (is : IsFilled sources targets links i old) where
  abbrev known : ℕ → ℕ → Option ℤ
  known = known_cost (take i links)

  -- whether the table has another cost for it
  abbrev TellsAlike : Bool → Type 0
  TellsAlike told =
      (known : ℕ → ℕ → Option ℤ) → old ≡ firsts_between known sources targets → IfSome (known link.source link.target) IsPartInRange → told ≡ not (are_unlike (Some link.cost) (known link.source link.target))

  known_range : IfSome (known link.source link.target) IsPartInRange
  known_range = known_in_range (take i links) (All-take (λ link. IsPartInRange link.cost) i links (cells_in_range layout links cells)) link.source link.target

  pub fill_more : (new : List ℤ) → TellsAlike true → ((known : ℕ → ℕ → Option ℤ) → old ≡ firsts_between known sources targets → new ≡ firsts_between (with_cost known (link.source, link.target) link.cost) sources targets) → IsFilled sources targets links (i + 1) new
  fill_more new alike put =
      let more : ℕ → ℕ → Option ℤ = with_cost known (link.source, link.target) link.cost in
      let once : AreOnce more links (i + 1) =
      one_more_once known links i link within here is.once more (not_true _ (alike known is.firsts_are known_range))
      (λ s t. ap {B = Option ℤ} (λ v. cond v (Some link.cost) (known s t)) (ends_flip (s, t) (link.source, link.target))) in
      let same : more ≡ known_cost (take (i + 1) links) = λ j s t. once.told.costs_are s t j in
      record {
        once = subst (λ known. AreOnce known links (i + 1)) same once;
        firsts_are = put known is.firsts_are ∙ ap (λ known. firsts_between known sources targets) same;
      }

  pub fill_twice : TellsAlike false → slice_get (twice_faults [] links) 0 ≡ Some (ArcTwice link.line)
  fill_twice unlike = twice_here known links i link within here is.once (not_false _ (unlike known is.firsts_are known_range))
