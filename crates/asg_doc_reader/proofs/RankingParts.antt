-- The parts of rankings.
use Rattle.asg_doc_reader.proofs.Common.{◌∷◌, ◌++◌, length, codes, decimal, flat_map, refl, ap, arith, answer_count_part, answer_part, answers_part, asked_part, ranked_part, ranking_part, tree_part, answer_lines_behind, asked_spelling, has_grades, and_then, counted, IsReadable, IsReadable-line, IsReadable-chain, IsReadable-counted, IsReadable-shape, Chain, Shape, IsLegible, IsLegible-behind, IsLegible-positive, Lacks-decimal, decimal_same, Objective}
use Rattle.asg_doc_reader.proofs.AnswerParts.{answer_law}
use Rattle.asg_doc_reader.proofs.NodeParts.{tree_law}

-- ---- how many were asked for

pub asked_legible : IsLegible asked_spelling
asked_legible = record {
  some = 1;
  has = (omega arith, omega arith);
  same = λ m n hm hn e. decimal_same m n (omega (arith, hm.1)) (omega (arith, hn.1)) e;
  plain = λ n hn. Lacks-decimal 10 n (omega arith) (omega (arith, hn.1));
}

asked_law : IsReadable asked_part
asked_law = IsReadable-line (IsLegible-behind (codes "count ") refl asked_legible)

-- ---- listed answers

answer_count_law : IsReadable answer_count_part
answer_count_law = IsReadable-line (IsLegible-behind (codes "answers ") refl IsLegible-positive)

pub listed_law : (o : Objective) → IsReadable (answer_part (codes "answer") o)
listed_law o = answer_law (codes "answer") refl o

pub counted_answers : (o : Objective) → Chain answer_count_part (λ count. counted count (answer_part (codes "answer") o))
counted_answers o = record { first_law = answer_count_law; second_law = λ count _. IsReadable-counted (listed_law o) count }

unfoldable pub answers_shape : (o : Objective) → Shape (and_then answer_count_part (λ count. counted count (answer_part (codes "answer") o))) (answers_part o)
answers_shape o = record {
  make = λ t. t.1;
  has = λ t h. record { some = omega (arith, h.0.0, h.1.0); few = omega (arith, h.0.1, h.1.0); each = h.1.1 };
  lines = λ t h. ap (λ n. (codes "answers " ++ decimal n) ∷ flat_map (answer_lines_behind (codes "answer")) t.1) h.1.0;
  back = λ answers h. ((length answers, answers), ((h.some, h.few), (refl, h.each)), refl);
}

answers_law : (o : Objective) → IsReadable (answers_part o)
answers_law o = IsReadable-shape (answers_shape o) (IsReadable-chain (counted_answers o))

-- ---- rankings

pub answers_tree : (o : Objective) → Chain (answers_part o) (λ _. tree_part (has_grades o))
answers_tree o = record { first_law = answers_law o; second_law = λ _ _. tree_law (has_grades o) }

pub asked_ranked : (o : Objective) → Chain asked_part (λ _. ranked_part o)
asked_ranked o = record { first_law = asked_law; second_law = λ _ _. IsReadable-chain (answers_tree o) }

pub ranking_law : (o : Objective) → IsReadable (ranking_part o)
ranking_law o = IsReadable-chain (asked_ranked o)
