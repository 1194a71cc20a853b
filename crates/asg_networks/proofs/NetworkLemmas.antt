-- What is kept of the lines of an asn file, one line further.
use Rattle.asg_networks.proofs.Common.{◌≡◌, ℕ, ◌+◌, ◌<◌, ◌≤◌, Bool, true, false, cond, not, ◌&&◌, ◌||◌, List, [], ◌∷◌, ◌++◌, map, length, get_or, is_some, nat_eq, nat_le, ◌==◌, slice_get, Some, None, All, Option, sym, refl, ap, ◌∙◌, subst, ⊎_elim, append_assoc, arith, eq-eqb, ne_eqb, eqb-true, leb-true, All-nil, All-push, IsDistinct-push, and_parts, cases_Bool, false≢true, get_or_default, list_any, list_any-append, list_any_at, map-append, nat_eq_equiv, append-nil, IsPartInRange, arc_in, is_among, is_target, with_id, differs_from, is_node, node_faults, arc_faults, goes_right, faults_behind, faults_of_line, line_faults, nodes_of, arc_of_link, twice_faults, IsRightLink, AreSound, IsSound, IsNetworkOf, PutsArc, PutsSource, RefusesLine, RefusesOwn, has, Arc, Line, Empty, Header, Node, Arrow, Sizes, Link, Network, NodeSet, Fault, SecondProblemLine, BadNode, BadArc, CostRange, ArcTwice, fault_where, IsEarliest, TextRefusal}
use Rattle.std.specs.List.{IsDistinct}
use Rattle.asg_networks.specs.AsnArcs.{stated, arcs, sources}
use Rattle.asg_networks.proofs.OneMoreLine.{stated_stays, arcs_stay, arcs_grow, sources_stay, sources_grow, stated_first}
use Rattle.asg_networks.proofs.TwiceLemmas.{twice_more}

-- before the first line
pub nothing_kept : (network : Network) → network.sizes ≡ None → network.sources.items ≡ [] → network.links.items ≡ [] → IsNetworkOf [] network
unfolding stated arcs sources
nothing_kept network sizes sources_are links = record {
  sizes_are = sizes;
  sources_are = sources_are;
  arcs_are = ap (map arc_of_link) links;
  faults_are = ap (twice_faults []) (sym links);
}

pub nothing_sound : (nodes : ℕ) (ids : List ℕ) (links : List Link) (source_set target_set : NodeSet) → ids ≡ [] → links ≡ [] → ((id : ℕ) → has source_set id ≡ false) → ((id : ℕ) → has target_set id ≡ false) → AreSound nodes ids links source_set target_set
unfolding IsDistinct
nothing_sound nodes ids links source_set target_set no_ids no_links none_source none_target = record {
  nodes = subst (All (λ id. (1 ≤ id) × (id ≤ nodes))) (sym no_ids) (All-nil (λ id. (1 ≤ id) × (id ≤ nodes)));
  differ = subst (IsDistinct nat_eq) (sym no_ids) tt;
  links = subst (All (IsRightLink ids nodes)) (sym no_links) (All-nil (IsRightLink ids nodes));
  source_set = λ id. none_source id ∙ ap (λ ids. is_among ids id) (sym no_ids);
  target_set = λ id. none_target id ∙ ap (list_any (λ (link : Link). id == link.target)) (sym no_links);
}

-- the faults of lines and of those behind them
pub faults_append : (before xs ys : List Line) → line_faults before (xs ++ ys) ≡ line_faults before xs ++ line_faults (before ++ xs) ys
faults_append before [] ys = ap (λ before. line_faults before ys) (sym (append-nil before))
faults_append before (x ∷ xs) ys =
    let faults = faults_of_line before (length before + 1) x in
    let next = before ++ x ∷ [] in
    ap (λ more. faults ++ more) (faults_append next xs ys ∙ ap (λ before. line_faults next xs ++ line_faults before ys) (append_assoc before (x ∷ []) xs))
    ∙ sym (append_assoc faults (line_faults next xs) (line_faults (before ++ x ∷ xs) ys))

one_more_fault : (before : List Line) (number : ℕ) (line : Line) → number ≡ length before + 1 → line_faults [] (before ++ line ∷ []) ≡ line_faults [] before ++ faults_of_line before number line
one_more_fault before number line is =
    faults_append [] before (line ∷ []) ∙ ap (λ more. line_faults [] before ++ more) (append-nil (faults_of_line before (length before + 1) line) ∙ ap (λ number. faults_of_line before number line) (sym is))

-- a line that is refused for a fault of its own, behind arcs that repeat others
pub refuses_all : (number : ℕ) (line : Line) (old : Network) (refusal told : TextRefusal) → ((faults : List Fault) → IsEarliest faults refusal → IsEarliest (twice_faults [] old.links.items ++ faults) told) → RefusesOwn number line old refusal → RefusesLine number line old told
refuses_all number line old refusal told earliest own before is number_is =
    subst (λ faults. IsEarliest faults told) (sym (one_more_fault before number line number_is ∙ ap (λ faults. faults ++ faults_of_line before number line) is.faults_are))
    (earliest (faults_of_line before number line) (own before is))

not_some : {A : Type 0} (o : Option A) → false ≡ is_some o → o ≡ None
not_some None e = refl
not_some (Some x) e = cc

or_true : (b : Bool) → (b || true) ≡ true
or_true true = refl
or_true false = refl

or_false : (b : Bool) → (b || false) ≡ b
or_false true = refl
or_false false = refl

-- one more of a set
one_more : (x id : ℕ) (b : Bool) → cond (x == id) true b ≡ (b || ((id == x) || false))
one_more x id b =
    ⊎_elim
    (λ (same : (x == id) ≡ true). ap (λ v. cond v true b) same ∙ sym (or_true b) ∙ ap (λ v. b || (v || false)) (sym (eq-eqb id x (sym (eqb-true x id same)))))
    (λ (apart : (x == id) ≡ false). ap (λ v. cond v true b) apart ∙ sym (or_false b) ∙ ap (λ v. b || (v || false)) (sym (ne_eqb id x (λ same. absurd (false≢true (sym apart ∙ eq-eqb x id (sym same)))))))
    (cases_Bool (x == id))

-- the ids with one more
among_with : (ids : List ℕ) (id other : ℕ) → is_among (with_id ids id) other ≡ (is_among ids other || ((other == id) || false))
among_with ids id other = go (is_among ids id) refl
  where
    go : (among : Bool) → is_among ids id ≡ among → is_among (cond among ids (ids ++ id ∷ [])) other ≡ (is_among ids other || ((other == id) || false))
    go false is = list_any-append (λ x. other == x) ids (id ∷ [])
    go true is =
        ⊎_elim
        (λ (same : (other == id) ≡ true).
        ap (is_among ids) (eqb-true other id same) ∙ is ∙ sym (or_true (is_among ids other)) ∙ ap (λ v. is_among ids other || (v || false)) (sym same))
        (λ (apart : (other == id) ≡ false). sym (or_false (is_among ids other)) ∙ ap (λ v. is_among ids other || (v || false)) (sym apart))
        (cases_Bool (other == id))

-- a line is kept that has no arc and no fault
no_arc_kept : (before : List Line) (number : ℕ) (line : Line) (old new : Network) → IsNetworkOf before old → number ≡ length before + 1 → arc_in line ≡ None → new.sizes ≡ stated (before ++ line ∷ []) → new.sources.items ≡ sources (before ++ line ∷ []) → new.links.items ≡ old.links.items → faults_of_line before number line ≡ [] → IsNetworkOf (before ++ line ∷ []) new
no_arc_kept before number line old new is number_is none sizes sources_are links right = record {
  sizes_are = sizes;
  sources_are = sources_are;
  arcs_are = ap (map arc_of_link) links ∙ is.arcs_are ∙ sym (arcs_stay before line none);
  faults_are =
      one_more_fault before number line number_is ∙ (λ i. is.faults_are i ++ right i) ∙ append-nil (twice_faults [] old.links.items)
      ∙ ap (twice_faults []) (sym links);
}

-- an arc goes to the node
target_told : (before : List Line) (old : Network) (id : ℕ) → IsNetworkOf before old → is_target before id ≡ list_any (λ (link : Link). id == link.target) old.links.items
target_told before old id is = ap (list_any (λ (arc : Arc). id == arc.target)) (sym is.arcs_are) ∙ of_links old.links.items
  where
    of_links : (links : List Link) → list_any (λ (arc : Arc). id == arc.target) (map arc_of_link links) ≡ list_any (λ (link : Link). id == link.target) links
    of_links [] = refl
    of_links (link ∷ links) = ap (λ v. (id == link.target) || v) (of_links links)

-- a node that an arc goes to is refused
pub node_refused : (before : List Line) (old : Network) (number : ℕ) → IsNetworkOf before old → (sizes : Sizes) (id : ℕ) → IsSound old → old.sizes ≡ Some sizes → has old.target_set id ≡ true → slice_get (faults_of_line before number (Node (Some id))) 0 ≡ Some (BadNode number)
node_refused before old number is sizes id sound stated_is goes =
    let told : stated before ≡ Some sizes = sym is.sizes_are ∙ stated_is in
    let target : is_target before id ≡ true = target_told before old id is ∙ sym (sound.target_set id) ∙ goes in
    (λ i. slice_get (faults_behind number (told i) (λ sizes. node_faults before sizes number (Some id))) 0)
    ∙ (λ i. slice_get (fault_where (not (is_node sizes id) || target i) (BadNode number)) 0)
    ∙ ap (λ v. slice_get (fault_where v (BadNode number)) 0) (or_true (not (is_node sizes id)))

module _ (before : List Line) (old new : Network) (number : ℕ) (is : IsNetworkOf before old) (number_is : number ≡ length before + 1) where
  -- a line that says nothing
  pub empty_kept : IsNetworkOf (before ++ Empty ∷ []) old
  empty_kept = no_arc_kept before number Empty old old is number_is refl (is.sizes_are ∙ sym (stated_stays before Empty refl)) (is.sources_are ∙ sym (sources_stay before Empty refl)) refl refl

  -- a problem line is kept
  pub sizes_kept : (sizes : Option Sizes) → false ≡ is_some old.sizes → is_some sizes ≡ true → new.sizes ≡ sizes → new.sources.items ≡ old.sources.items → new.links.items ≡ old.links.items → IsNetworkOf (before ++ Header sizes ∷ []) new
  sizes_kept None no_old some sizes_are sources_are links = cc
  sizes_kept (Some sizes) no_old some sizes_are sources_are links =
      let none : stated before ≡ None = sym is.sizes_are ∙ not_some old.sizes no_old in
      let line = Header (Some sizes) in
      no_arc_kept before number line old new is number_is refl (sizes_are ∙ sym (stated_first before sizes none)) (sources_are ∙ is.sources_are ∙ sym (sources_stay before line refl)) links
      (ap (λ o. fault_where (is_some o) (SecondProblemLine number) ++ []) none)

  -- a node line is kept
  pub node_kept : (sizes : Sizes) (id : ℕ) → IsSound old → old.sizes ≡ Some sizes → is_node sizes id ≡ true → has old.target_set id ≡ false → PutsSource id old new → IsNetworkOf (before ++ Node (Some id) ∷ []) new
  node_kept sizes id sound stated_is right no_target put =
      let line = Node (Some id) in
      let told : stated before ≡ Some sizes = sym is.sizes_are ∙ stated_is in
      let none : is_target before id ≡ false = target_told before old id is ∙ sym (sound.target_set id) ∙ no_target in
      no_arc_kept before number line old new is number_is refl (put.sizes ∙ is.sizes_are ∙ sym (stated_stays before line refl)) (put.sources ∙ ap (λ ids. with_id ids id) is.sources_are ∙ sym (sources_grow before line id refl)) put.links
      ((λ i. faults_behind number (told i) (λ sizes. node_faults before sizes number (Some id))) ∙ (λ i. fault_where (not (right i) || none i) (BadNode number)))

  -- an arc line is kept
  pub arc_kept : (sizes : Sizes) (arc : Arc) (link : Link) → old.sizes ≡ Some sizes → goes_right old.sources.items sizes arc ≡ true → arc ≡ arc_of_link link → link.line ≡ number → PutsArc link old new → IsNetworkOf (before ++ Arrow (Some arc) ∷ []) new
  arc_kept sizes arc link stated_is right arc_is line_is put =
      let line = Arrow (Some arc) in
      let told : stated before ≡ Some sizes = sym is.sizes_are ∙ stated_is in
      let goes : goes_right (sources before) sizes arc ≡ true = ap (λ ids. goes_right ids sizes arc) (sym is.sources_are) ∙ right in
      let some_cost : is_some arc.cost ≡ true = ap (λ (arc : Arc). is_some arc.cost) arc_is in
      let faults : faults_of_line before number line ≡ fault_where (differs_from (arcs before) arc) (ArcTwice number) =
      (λ i. faults_behind number (told i) (λ sizes. arc_faults before sizes number (Some arc)))
      ∙ (λ i. fault_where (not (goes i)) (BadArc number) ++ fault_where (not (some_cost i)) (CostRange number) ++ fault_where (differs_from (arcs before) arc) (ArcTwice number)) in
      record {
        sizes_are = put.sizes ∙ is.sizes_are ∙ sym (stated_stays before line refl);
        sources_are = put.sources ∙ is.sources_are ∙ sym (sources_stay before line refl);
        arcs_are =
            ap (map arc_of_link) put.links ∙ map-append arc_of_link old.links.items (link ∷ [])
            ∙ (λ i. is.arcs_are i ++ sym arc_is i ∷ []) ∙ sym (arcs_grow before line arc refl);
        faults_are =
            one_more_fault before number line number_is
            ∙ (λ i. is.faults_are i ++ (faults ∙ (λ j. fault_where (differs_from (sym is.arcs_are j) (arc_is j)) (ArcTwice (sym line_is j)))) i)
            ∙ sym (twice_more old.links.items link) ∙ ap (twice_faults []) (sym put.links);
      }

-- before the sizes are stated there is no source, and no arc
pub sizes_sound : (old : Network) (nodes : ℕ) → IsSound old → false ≡ is_some old.sizes → AreSound nodes old.sources.items old.links.items old.source_set old.target_set
sizes_sound old nodes sound none =
    let no_nodes : nodes_of old.sizes ≡ 0 = ap nodes_of (not_some old.sizes none) in
    record {
      nodes = λ k d within. let low = sound.nodes k d within in absurd (omega (arith, low.0, low.1, no_nodes));
      differ = sound.differ;
      links = λ k d within. let right = sound.links k d within in absurd (omega (arith, right.target_above, right.target_below, no_nodes));
      source_set = sound.source_set;
      target_set = sound.target_set;
    }

-- a source is kept to which no arc goes
module _ (nodes : ℕ) (ids : List ℕ) (links : List Link) (source_set target_set : NodeSet) (sound : AreSound nodes ids links source_set target_set) (id : ℕ) where
  apart : (link : Link) (k : ℕ) → k < length links → get_or links k link ≡ link → list_any (λ (link : Link). id == link.target) links ≡ false → (link.target == id) ≡ false
  apart link k within here none =
      ⊎_elim
      (λ (same : (link.target == id) ≡ true).
      let back : (id == (get_or links k link).target) ≡ true = ap (λ (link : Link). id == link.target) here ∙ eq-eqb id link.target (sym (eqb-true link.target id same)) in
      absurd (false≢true (sym none ∙ list_any_at (λ (link : Link). id == link.target) links k link within back)))
      (λ (apart : (link.target == id) ≡ false). apart)
      (cases_Bool (link.target == id))

  still_right : (link : Link) → (link.target == id) ≡ false → IsRightLink ids nodes link → IsRightLink (with_id ids id) nodes link
  still_right link other right = record {
    source = among_with ids id link.source ∙ ap (λ v. v || ((link.source == id) || false)) right.source;
    target = among_with ids id link.target ∙ (λ i. right.target i || (other i || false));
    target_above = right.target_above;
    target_below = right.target_below;
    cost = right.cost;
  }

  pub source_sound : (set : NodeSet) → 1 ≤ id → id ≤ nodes → has target_set id ≡ false → ((other : ℕ) → has set other ≡ cond (id == other) true (has source_set other)) → AreSound nodes (with_id ids id) links set target_set
  source_sound set low high no_target put =
      let P : ℕ → Type 0 = λ id. (1 ≤ id) × (id ≤ nodes) in
      let none = sym (sound.target_set id) ∙ no_target in
      record {
        nodes = elim (is_among ids id) as (λ v. All P (cond v ids (ids ++ id ∷ []))) [ true ↦ sound.nodes | false ↦ All-push P ids id sound.nodes (low, high) ];
        differ = distinct (is_among ids id) refl;
        links = λ k d within.
            let link = get_or links k d in
            still_right link (apart link k within (same_at k d within) none) (sound.links k d within);
        source_set = λ other. put other ∙ ap (cond (id == other) true) (sound.source_set other) ∙ one_more id other (is_among ids other) ∙ sym (among_with ids id other);
        target_set = sound.target_set;
      }
    where
      distinct : (among : Bool) → is_among ids id ≡ among → IsDistinct nat_eq (cond among ids (ids ++ id ∷ []))
      distinct true is = sound.differ
      distinct false is = IsDistinct-push nat_eq_equiv ids id sound.differ is

      same_at : (k : ℕ) (d : Link) → k < length links → get_or links k (get_or links k d) ≡ get_or links k d
      same_at k d within = get_or_default links k (get_or links k d) d within

pub node_sound : (old new : Network) (sizes : Sizes) (id : ℕ) → IsSound old → old.sizes ≡ Some sizes → is_node sizes id ≡ true → has old.target_set id ≡ false → PutsSource id old new → IsSound new
node_sound old new sizes id sound stated_is right no_target put =
    let parts = and_parts (nat_le 1 id) (nat_le id sizes.nodes) right in
    let nodes : nodes_of old.sizes ≡ sizes.nodes = ap nodes_of stated_is in
    let more : AreSound (nodes_of old.sizes) (with_id old.sources.items id) old.links.items new.source_set old.target_set =
    source_sound (nodes_of old.sizes) old.sources.items old.links.items old.source_set old.target_set sound id new.source_set (leb-true 1 id parts.0) (omega (arith, leb-true id sizes.nodes parts.1, nodes)) no_target put.source_set in
    subst (λ sizes. AreSound (nodes_of sizes) new.sources.items new.links.items new.source_set new.target_set) (sym put.sizes)
    (subst (λ ids. AreSound (nodes_of old.sizes) ids new.links.items new.source_set new.target_set) (sym put.sources)
    (subst (λ links. AreSound (nodes_of old.sizes) (with_id old.sources.items id) links new.source_set new.target_set) (sym put.links)
    (subst (λ set. AreSound (nodes_of old.sizes) (with_id old.sources.items id) old.links.items new.source_set set) (sym put.target_set) more)))

-- an arc is kept that goes from a source to another node
not_among : (b : Bool) → not b ≡ true → b ≡ false
not_among true e = cc
not_among false e = refl

right_link : (ids : List ℕ) (sizes : Sizes) (link : Link) → goes_right ids sizes (arc_of_link link) ≡ true → IsPartInRange link.cost → IsRightLink ids sizes.nodes link
right_link ids sizes link right in_range =
    let parts = and_parts (is_among ids link.source && is_node sizes link.target) (not (is_among ids link.target)) right in
    let first = and_parts (is_among ids link.source) (is_node sizes link.target) parts.0 in
    let node = and_parts (nat_le 1 link.target) (nat_le link.target sizes.nodes) first.1 in
    record {
      source = first.0;
      target = not_among (is_among ids link.target) parts.1;
      target_above = leb-true 1 link.target node.0;
      target_below = leb-true link.target sizes.nodes node.1;
      cost = in_range;
    }

pub arc_sound : (old new : Network) (sizes : Sizes) (link : Link) → IsSound old → old.sizes ≡ Some sizes → goes_right old.sources.items sizes (arc_of_link link) ≡ true → IsPartInRange link.cost → PutsArc link old new → IsSound new
arc_sound old new sizes link sound stated_is right in_range put =
    let nodes : nodes_of old.sizes ≡ sizes.nodes = ap nodes_of stated_is in
    let this : IsRightLink old.sources.items (nodes_of old.sizes) link = subst (λ n. IsRightLink old.sources.items n link) (sym nodes) (right_link old.sources.items sizes link right in_range) in
    let more : AreSound (nodes_of old.sizes) old.sources.items (old.links.items ++ link ∷ []) old.source_set new.target_set = record {
      nodes = sound.nodes;
      differ = sound.differ;
      links = All-push (IsRightLink old.sources.items (nodes_of old.sizes)) old.links.items link sound.links this;
      source_set = sound.source_set;
      target_set = λ id.
          put.target_set id ∙ ap (cond (link.target == id) true) (sound.target_set id) ∙ one_more link.target id (list_any (λ (link : Link). id == link.target) old.links.items)
          ∙ sym (list_any-append (λ (link : Link). id == link.target) old.links.items (link ∷ []));
    } in
    subst (λ sizes. AreSound (nodes_of sizes) new.sources.items new.links.items new.source_set new.target_set) (sym put.sizes)
    (subst (λ ids. AreSound (nodes_of old.sizes) ids new.links.items new.source_set new.target_set) (sym put.sources)
    (subst (λ links. AreSound (nodes_of old.sizes) old.sources.items links new.source_set new.target_set) (sym put.links)
    (subst (λ set. AreSound (nodes_of old.sizes) old.sources.items (old.links.items ++ link ∷ []) set new.target_set) (sym put.source_set) more)))
