-- The parts of nodes and of search trees.
use Rattle.asg_doc_reader.proofs.Common.{◌≡◌, ℕ, ◌^◌, ◌<◌, Bool, List, ◌∷◌, ◌++◌, length, IsErrAnd, Ok, Err, codes, decimal, All, Result, flat_map, sym, refl, ap, ◌∙◌, subst, arith, HasFront, branch_spelling, mark_spelling, node_count_part, node_head_part, node_head_spelling, node_part, phase_part, tree_part, HasMarkText, HasNodeText, node_head_text, node_lines, phase_lines, Lacks, IsCutAt, Part, and_then, counted, IsReadable, Spelling, SpellsOrFails, behind, joined, number_spelling, pair_spelling, list_spelling, Fault, Refused, NoMemory, IsLegible-joined, cut_unique, heads_same, tails_same, IsReadable-line, IsReadable-chain, IsReadable-counted, IsReadable-shape, Chain, Shape, IsLegible, IsLegible-behind, IsLegible-number, IsLegible-pair, IsLegible-positive, IsLegible-list, Lacks-decimal, Word, PhaseOf, Node}
use Rattle.asg_rankings.specs.declared.nodes.Mark.TheVariants.{Answered, Open, Empty}
use Rattle.asg_rankings.specs.declared.nodes.Mark.{Mark}
use Rattle.asg_rankings.specs.NodeLists.{AreNodeParts, IsMarkPart}
use Rattle.asg_doc_reader.proofs.PhaseParts.{phase_law, ArePhases-from_text}

-- ---- marks

answered_legible : IsLegible (behind (codes "answered ") pair_spelling)
answered_legible = IsLegible-behind (codes "answered ") refl IsLegible-pair

open_legible : IsLegible (behind (codes "open ") number_spelling)
open_legible = IsLegible-behind (codes "open ") refl IsLegible-number

empty_legible : IsLegible (behind (codes "empty") list_spelling)
empty_legible = IsLegible-behind (codes "empty") refl IsLegible-list

pub mark_legible : IsLegible mark_spelling
mark_legible = record { some = (Open, 0); has = (omega arith, tt); same = same; plain = plain } where
  same : (x y : Mark × ℕ) → mark_spelling.Has x → mark_spelling.Has y → mark_spelling.bytes x ≡ mark_spelling.bytes y → x ≡ y
  same (Answered a, m) (Answered b, n) hx hy e = ap (λ p. (Answered p.0, p.1)) (answered_legible.same (a, m) (b, n) (hx.1, hx.0) (hy.1, hy.0) e)
  same (Answered a, m) (Open, n) hx hy e = absurd (omega (arith, heads_same 97 111 _ _ e))
  same (Answered a, m) (Empty ys, n) hx hy e = absurd (omega (arith, heads_same 97 101 _ _ e))
  same (Open, m) (Open, n) hx hy e = ap (λ k. (Open, k)) (open_legible.same m n hx.0 hy.0 e)
  same (Open, m) (Answered b, n) hx hy e = absurd (omega (arith, heads_same 111 97 _ _ e))
  same (Open, m) (Empty ys, n) hx hy e = absurd (omega (arith, heads_same 111 101 _ _ e))
  same (Empty xs, m) (Empty ys, n) hx hy e =
      ap (λ rows. (Empty rows, m)) (empty_legible.same xs ys hx.1.0 hy.1.0 e) ∙ ap (λ k. (Empty ys, k)) (hx.1.1 ∙ sym hy.1.1)
  same (Empty xs, m) (Answered b, n) hx hy e = absurd (omega (arith, heads_same 101 97 _ _ e))
  same (Empty xs, m) (Open, n) hx hy e = absurd (omega (arith, heads_same 101 111 _ _ e))

  plain : (x : Mark × ℕ) → mark_spelling.Has x → Lacks 10 (mark_spelling.bytes x)
  plain (Answered a, m) hx = answered_legible.plain (a, m) (hx.1, hx.0)
  plain (Open, m) hx = open_legible.plain m hx.0
  plain (Empty xs, m) hx = empty_legible.plain xs hx.1.0

-- a text whose rest behind the word spells no answer and no count spells no mark
pub no_answered : (text rest : List ℕ) → text ≡ codes "answered " ++ rest → ((x : ℕ × ℕ) → pair_spelling.Has x → rest ≡ pair_spelling.bytes x → ⊥)
    → (x : Mark × ℕ) → mark_spelling.Has x → text ≡ mark_spelling.bytes x → ⊥
no_answered text rest front none (Answered a, m) hx is = none (a, m) (hx.1, hx.0) (let e : codes "answered " ++ rest ≡ codes "answered " ++ pair_spelling.bytes (a, m) = sym front ∙ is in cc (e))
no_answered text rest front none (Open, m) hx is = absurd (omega (arith, heads_same 97 111 _ _ (sym front ∙ is)))
no_answered text rest front none (Empty xs, m) hx is = absurd (omega (arith, heads_same 97 101 _ _ (sym front ∙ is)))

-- ---- a number and what follows the space behind it

no_space-number : (n : ℕ) → n < 2 ^ 32 → Lacks 32 (decimal n)
no_space-number n fits = Lacks-decimal 32 n (omega arith) (omega (arith, fits))

pub front_cut : (text word rest : List ℕ) (n : ℕ) (tail : List ℕ) → text ≡ word ++ rest → Lacks 32 word → IsCutAt 32 rest → HasFront text n tail → (word ≡ decimal n) × (rest ≡ 32 ∷ tail)
front_cut text word rest n tail whole lacks cut has =
    cut_unique 32 word (decimal n) rest (32 ∷ tail) lacks (no_space-number n has.fits) cut refl (sym whole ∙ has.whole)

-- a text of two values has the first in front
front_of : {B : Type 0} (back : Spelling B) (text : List ℕ) (both : ℕ × B) → (joined 32 number_spelling back).Has both → text ≡ (joined 32 number_spelling back).bytes both → HasFront text both.0 (back.bytes both.1)
front_of back text both has is = record { fits = has.0; whole = is }

-- without a number in front it spells no two values
pub no_front : {B : Type 0} (back : Spelling B) (text : List ℕ) → ((n : ℕ) (rest : List ℕ) → HasFront text n rest → ⊥)
    → (both : ℕ × B) → (joined 32 number_spelling back).Has both → text ≡ (joined 32 number_spelling back).bytes both → ⊥
no_front back text none both has is = none both.0 (back.bytes both.1) (front_of back text both has is)

-- nor where what follows the first spells no second
no_back : {B : Type 0} (back : Spelling B) (text : List ℕ) (n : ℕ) (rest : List ℕ) → HasFront text n rest → ((b : B) → back.Has b → rest ≡ back.bytes b → ⊥)
    → (both : ℕ × B) → (joined 32 number_spelling back).Has both → text ≡ (joined 32 number_spelling back).bytes both → ⊥
no_back back text n rest front none both has is =
    let parts = front_cut text (decimal n) (32 ∷ rest) both.0 (back.bytes both.1) front.whole (no_space-number n front.fits) refl (front_of back text both has is) in
    none both.1 has.1 (tails_same 32 32 rest (back.bytes both.1) parts.1)

back_fails : {B : Type 0} (back : Spelling B) (text : List ℕ) (n : ℕ) (rest : List ℕ) (fault : Fault) → HasFront text n rest → SpellsOrFails back rest (Err fault) → SpellsOrFails (joined 32 number_spelling back) text (Err fault)
back_fails back text n rest Refused front none = no_back back text n rest front none
back_fails back text n rest NoMemory front none = tt

pub no_second : {B : Type 0} (back : Spelling B) (text : List ℕ) (n : ℕ) (rest : List ℕ) (fault : Fault) (result : Result (ℕ × B) Fault) → IsErrAnd result (λ y. y ≡ fault) → HasFront text n rest → SpellsOrFails back rest (Err fault)
    → SpellsOrFails (joined 32 number_spelling back) text result
no_second back text n rest fault (Ok both) gives front none = absurd gives
no_second back text n rest fault (Err y) gives front none = back_fails back text n rest y front (subst (λ f. SpellsOrFails back rest (Err f)) (sym gives) none)

-- both are spelled
pub both_spelled : {B : Type 0} (back : Spelling B) (text : List ℕ) (n : ℕ) (rest : List ℕ) (b : B) → HasFront text n rest → back.Has b × (rest ≡ back.bytes b) → (joined 32 number_spelling back).Has (n, b) × (text ≡ (joined 32 number_spelling back).bytes (n, b))
both_spelled back text n rest b front is = ((front.fits, is.0), front.whole ∙ ap (λ r. decimal n ++ 32 ∷ r) is.1)

-- ---- the first line of a node

branch_legible : IsLegible branch_spelling
branch_legible = IsLegible-joined number_spelling mark_spelling 32 no_space-number (λ is. absurd (omega arith)) IsLegible-number mark_legible

pub node_head_legible : IsLegible node_head_spelling
node_head_legible = IsLegible-joined number_spelling branch_spelling 32 no_space-number (λ is. absurd (omega arith)) IsLegible-number branch_legible

node_head_law : IsReadable node_head_part
node_head_law = IsReadable-line (IsLegible-behind (codes "node ") refl node_head_legible)

-- ---- nodes

-- the phases of a node, as many as its first line says
abbrev own_part : Bool → ℕ × (ℕ × (Mark × ℕ)) → Part (List (PhaseOf Word))
own_part graded head = counted head.1.1.1 (phase_part graded)

pub head_own : (graded : Bool) → Chain node_head_part (own_part graded)
head_own graded = record { first_law = node_head_law; second_law = λ head _. IsReadable-counted (phase_law graded) head.1.1.1 }

unfoldable pub node_shape : (graded : Bool) → Shape (and_then node_head_part (own_part graded)) (node_part graded)
node_shape graded = record {
  make = λ t. record { parent = t.0.0; branch = t.0.1.0; mark = t.0.1.1.0; own = t.1 };
  has = λ t h. record {
    parent_fits = h.0.0;
    branch_fits = h.0.1.0;
    marked = subst (HasMarkText t.0.1.1.0) (sym h.1.0) h.0.1.1.1;
    phases = record { few = omega (arith, h.0.1.1.0, h.1.0); each = h.1.1 };
  };
  lines = λ t h. ap (λ n. (codes "node " ++ node_head_text (t.0.0, (t.0.1.0, (t.0.1.1.0, n)))) ∷ flat_map (phase_lines graded) t.1) h.1.0;
  back = λ node h. (((node.parent, (node.branch, (node.mark, length node.own))), node.own), ((h.parent_fits, (h.branch_fits, (h.phases.few, h.marked))), (refl, h.phases.each)), refl);
}

pub node_law : (graded : Bool) → IsReadable (node_part graded)
node_law graded = IsReadable-shape (node_shape graded) (IsReadable-chain (head_own graded))

-- nodes that have a text keep what nodes keep
IsMarkPart-from_text : (mark : Mark) (count : ℕ) → HasMarkText mark count → IsMarkPart mark
IsMarkPart-from_text (Answered a) count has = has
IsMarkPart-from_text Open count has = tt
IsMarkPart-from_text (Empty rows) count has = has.0.ids

pub AreNodeParts-from_text : (graded : Bool) (nodes : List Node) → All (HasNodeText graded) nodes → AreNodeParts nodes
AreNodeParts-from_text graded nodes each = λ k d within.
    let node = each k d within in
    record { parent_fits = node.parent_fits; branch_fits = node.branch_fits; mark_is = IsMarkPart-from_text _ _ node.marked; own_are = ArePhases-from_text graded _ node.phases.each }

-- ---- search trees

node_count_law : IsReadable node_count_part
node_count_law = IsReadable-line (IsLegible-behind (codes "proof tree ") refl IsLegible-positive)

pub counted_nodes : (graded : Bool) → Chain node_count_part (λ count. counted count (node_part graded))
counted_nodes graded = record { first_law = node_count_law; second_law = λ count _. IsReadable-counted (node_law graded) count }

unfoldable pub tree_shape : (graded : Bool) → Shape (and_then node_count_part (λ count. counted count (node_part graded))) (tree_part graded)
tree_shape graded = record {
  make = λ t. t.1;
  has = λ t h. record { some = omega (arith, h.0.0, h.1.0); few = omega (arith, h.0.1, h.1.0); each = h.1.1 };
  lines = λ t h. ap (λ n. (codes "proof tree " ++ decimal n) ∷ flat_map (node_lines graded) t.1) h.1.0;
  back = λ nodes h. ((length nodes, nodes), ((h.some, h.few), (refl, h.each)), refl);
}

pub tree_law : (graded : Bool) → IsReadable (tree_part graded)
tree_law graded = IsReadable-shape (tree_shape graded) (IsReadable-chain (counted_nodes graded))
