-- A search tree where sums stop at a top is one where they stop at a greater top.
use Rattle.asg_rankings.proofs.Common.{◌≡◌, ℕ, ◌≤◌, List, [], ◌∷◌, Option, arith, le-leb, leb-true, Problem, square_side, Cost, bounded_sums, bounded_difference, choice_fold, Word, PhaseOf, index_of, node_at, AreAdmittedWords, IsMarked, last_answer, IsSearchTree, Mark, Answered, Open, Empty, Node, square_cell}
use Rattle.asg_monoids.specs.laws.SumFolds.{bounded_fold}
use Rattle.asg_proof.proofs.Tops.{AreAdmittedPhases-by_top}

-- an index by the lesser top is at most that by the greater one
index_rises : (low high : ℕ) (phases : List (PhaseOf ℕ)) → low ≤ high → index_of (bounded_sums low) phases ≤ index_of (bounded_sums high) phases
index_rises low high [] le = omega arith
index_rises low high (phase ∷ rest) le =
    omega (arith, le, index_rises low high rest le, bounded_fold low phase.steps, bounded_fold high phase.steps)

module _ (low high : ℕ) (le : low ≤ high) (word_of : ℕ → Word) (enter : Cost → ℕ) where
  words_by_top : (Y : Problem) (words : List (PhaseOf Word)) → AreAdmittedWords (bounded_sums low) bounded_difference word_of enter Y words → AreAdmittedWords (bounded_sums high) bounded_difference word_of enter Y words
  words_by_top Y words trail = record {
    phases = trail.phases;
    written = trail.written;
    admitted = AreAdmittedPhases-by_top low high le (square_side Y) trail.phases (square_cell Y 0 enter) trail.admitted;
  }

  marked_by_top : (X : Problem) (answers : List (List (Option ℕ))) (nodes : List Node) (n : ℕ) (mark : Mark) → IsMarked (bounded_sums low) bounded_difference word_of enter X answers nodes n mark → IsMarked (bounded_sums high) bounded_difference word_of enter X answers nodes n mark
  marked_by_top X answers nodes n (Answered a) marked = (marked.0, words_by_top _ _ marked.1)
  marked_by_top X answers nodes n Open marked = words_by_top _ _ marked
  marked_by_top X answers nodes n (Empty rows) marked = marked

  -- a search tree by the lesser top is one by the greater, where the last answer's product is the
  -- same
  pub IsSearchTree-by_top : (X : Problem) (count : ℕ) (answers : List (List (Option ℕ))) (nodes : List Node) → choice_fold (bounded_sums high) enter X (last_answer answers) ≡ choice_fold (bounded_sums low) enter X (last_answer answers) → IsSearchTree (bounded_sums low) bounded_difference word_of enter X count answers nodes → IsSearchTree (bounded_sums high) bounded_difference word_of enter X count answers nodes
  unfolding words_by_top
  IsSearchTree-by_top X count answers nodes same tree = record {
    root = tree.root;
    sound = λ n number. record {
      has_place = (tree.sound n number).has_place;
      marked = marked_by_top X answers nodes n (node_at nodes n).mark (tree.sound n number).marked;
    };
    given = tree.given;
    open_nodes = λ n number is.
        let may = tree.open_nodes n number is in
        record {
          full = may.full;
          trail = words_by_top _ _ may.trail;
          bound = le-leb (choice_fold (bounded_sums high) enter X (last_answer answers)) (index_of (bounded_sums high) may.trail.phases)
              (omega (arith, same, leb-true (choice_fold (bounded_sums low) enter X (last_answer answers)) (index_of (bounded_sums low) may.trail.phases) may.bound, index_rises low high may.trail.phases le));
        };
  }
