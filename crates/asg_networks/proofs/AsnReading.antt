-- How far the lines of an asn file are read.
use Rattle.asg_networks.proofs.Common.{◌≡◌, ℕ, ◌+◌, ◌<◌, ◌≤◌, List, [], ◌∷◌, ◌++◌, length, get_or, take, drop, IfSome, slice_get, Some, None, Option, sym, ap, ◌∙◌, subst, arith, take-append-drop, take_all, drop_more, length-map, none-some, take_more, length-drop, Problem, arcs, line_faults, count_faults, cost_between, instance_of, nodes_of, reading_of_asn, IsNetworkOf, arc_of_link, reading_of_network, Line, Network, Fault, fault_of, Refuses, reading_with, TellsOf, IsEarliest, TextRefusal}
use Rattle.asg_networks.proofs.NetworkLemmas.{faults_append}

-- the next of all lines
pub record IsNextLine (all : List Line) (n : ℕ) (line : Line) (left : List Line) : Type 0 where
  pub there : n < length all
  pub so_far : take (n + 1) all ≡ take n all ++ line ∷ []
  pub cut : drop n all ≡ line ∷ drop (n + 1) all
  pub left_are : left ≡ drop (n + 1) all

pub next_line : (all : List Line) (n : ℕ) (line : Line) (left : List Line) → n ≤ length all → line ∷ left ≡ drop n all → IsNextLine all n line left
next_line all n line left within is =
    let there : n < length all = omega (arith, ap length is, length-drop n all) in
    let both : line ∷ left ≡ get_or all n line ∷ drop (n + 1) all = is ∙ drop_more all n line there in
    let here : get_or all n line ≡ line = cc in
    let left_are : left ≡ drop (n + 1) all = cc in
    record {
      there = there;
      so_far = take_more all n line there ∙ ap (λ x. take n all ++ x ∷ []) here;
      cut = sym is ∙ ap (λ xs. line ∷ xs) left_are;
      left_are = left_are;
    }

-- the earliest fault of the first lines is that of the file
pub refuses : (all : List Line) (n : ℕ) (refusal : TextRefusal) → IsEarliest (line_faults [] (take n all)) refusal → (more : List Fault) (X : Problem) → TellsOf (reading_with (line_faults [] all ++ more) X) refusal
refuses all n refusal earliest more X = go (fault_of refusal) (line_faults [] (take n all)) faults_are earliest
  where
    later : List Fault
    later = line_faults (take n all) (drop n all)

    faults_are : line_faults [] all ≡ line_faults [] (take n all) ++ later
    faults_are = ap (line_faults []) (sym (take-append-drop n all)) ∙ faults_append [] (take n all) (drop n all)

    go : (told : Option Fault) (faults : List Fault) → line_faults [] all ≡ faults ++ later → IfSome told (λ fault. slice_get faults 0 ≡ Some fault) → IfSome told (λ fault. reading_with (line_faults [] all ++ more) X ≡ Refuses fault)
    go None faults is h = h
    go (Some fault) [] is h = absurd (none-some fault h)
    go (Some fault) (first ∷ faults) is h =
        let same : first ≡ fault = cc in
        ap (λ faults. reading_with (faults ++ more) X) is ∙ ap Refuses same

-- a network of all lines gives their reading
pub whole_reading : (all : List Line) (n : ℕ) (network : Network) → n ≤ length all → [] ≡ drop n all → IsNetworkOf (take n all) network → reading_of_asn all ≡ reading_of_network network
whole_reading all n network within ended kept =
    let whole : take n all ≡ all = take_all n all (omega (arith, ap length ended, length-drop n all)) in
    let is : IsNetworkOf all network = subst (λ lines. IsNetworkOf lines network) whole kept in
    let count : length (arcs all) ≡ length network.links.items = ap length (sym is.arcs_are) ∙ length-map network.links.items arc_of_link in
    (λ i. reading_with (is.faults_are i ++ count_faults (sym is.sizes_are i) (count i) (length (sym is.sources_are i))) (instance_of (sym is.sources_are i) (nodes_of (sym is.sizes_are i)) (cost_between (sym is.arcs_are i))))
