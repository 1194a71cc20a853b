-- What stands against phases, by the monoid of the objective.
use mathlib.Core.HLevel.{dec→stable, ×_discrete}
use Rattle.std.proofs.Common.{◌≡◌, ℕ, ◌^◌, List, [], take, Option, refl, sym, ap, ◌∙◌}
use Rattle.std.specs.Prelude.{IsTrue}
use Rattle.std.proofs.Math.Decide.{ℕ_discrete}
use Rattle.asg_model.specs.declared.objectives.Objective.{Objective}
use Rattle.asg_model.specs.declared.objectives.Objective.TheVariants.{Bottleneck, BottleneckMax, TimeCost, Balanced, Lex}
use Rattle.asg_model.specs.declared.parts.Cost.{Cost}
use Rattle.asg_model.specs.Problem.{Problem}
use Rattle.asg_model.specs.Shapes.{square_side}
use Rattle.asg_order.specs.declared.words.Word.{Word}
use Rattle.asg_order.specs.Bridge.{choice_fold}
use Rattle.asg_order.specs.Monoid.{Monoid}
use Rattle.asg_order.specs.Words.{HasWords}
use Rattle.asg_monoids.specs.BoundedSums.{bounded_sums, bounded_value, plain_word}
use Rattle.asg_monoids.specs.Entered.{top_of}
use Rattle.asg_monoids.specs.Grades.{graded, graded_value, graded_word}
use Rattle.asg_monoids.specs.Maxima.{maxima, maxima_value}
use Rattle.asg_monoids.specs.ObjectiveMonoids.{Fact, InMonoidOf}
use Rattle.asg_monoids.specs.laws.Bounded.{bounded_word_laws}
use Rattle.asg_monoids.specs.laws.Graded.{graded_word_laws}
use Rattle.asg_monoids.specs.laws.Maxima.{maxima_word_laws}
use Rattle.asg_square.specs.Cells.{square_cell}
use Rattle.asg_proof.specs.FoldProofs.{FoldFact, ProvesFold, ProvesPhases}
use Rattle.asg_proof.specs.Phases.{PhaseOf, index_of}
use Rattle.asg_model.specs.Objectives.{is_algebraic}
use Rattle.asg_replays.specs.Replays.{AreAdmittedFrom}
use Rattle.asg_verdicts.specs.PhaseReasons.{AreAdmitted, AreAdmittedFor, HaveIndexBut, HaveOtherIndex, HaveOtherIndexFor}
use Rattle.asg_replays.specs.laws.PhaseWords.{admitted-take, dec_admitted, phases-once}

-- the values have words, and are decided to be the same or not
pub record AreSpelled {V : Type 0} (M : Monoid V) (word_of : V → Word) : Type 0 where
  pub value_of : Word → Option V
  pub spelled : HasWords M word_of value_of
  pub same : (x y : V) → Dec (x ≡ y)

pub sums_spelled : (top : ℕ) → AreSpelled (bounded_sums top) plain_word
sums_spelled top = record { value_of = bounded_value top; spelled = bounded_word_laws top; same = ℕ_discrete }

pub peaks_spelled : AreSpelled maxima plain_word
peaks_spelled = record { value_of = maxima_value; spelled = maxima_word_laws; same = ℕ_discrete }

pub times_spelled : AreSpelled (graded (bounded_sums (2 ^ 120))) graded_word
times_spelled = record { value_of = graded_value (2 ^ 120); spelled = graded_word_laws (2 ^ 120); same = ×_discrete ℕ_discrete ℕ_discrete }

-- ---- over a monoid

-- where admitted phases have this index, none with the same words have another
pub no_other_from : {V : Type 0} (M : Monoid V) (difference : V → V → V) (word_of : V → Word) (value_of : Word → Option V) → HasWords M word_of value_of → (side : ℕ) (square : ℕ → ℕ → Option V) (value : V) (words : List (PhaseOf Word))
    (a : AreAdmittedFrom M difference word_of side square words) → index_of M a.phases ≡ value → ¬ HaveIndexBut M difference word_of side square value words
no_other_from M difference word_of value_of spelled side square value words a is other =
    let b = other.admitted in
    let same = phases-once M word_of value_of spelled difference side square b.phases a.phases b.admitted a.admitted (b.written ∙ sym a.written) in
    other.other (ap (index_of M) same ∙ is)

module _ {V : Type 0} (M : Monoid V) (difference : V → V → V) (word_of : V → Word) (enter : Cost → V) (X : Problem) where
  pub dec_admitted_over : AreSpelled M word_of → (words : List (PhaseOf Word)) → Dec (AreAdmitted M difference word_of enter X words)
  dec_admitted_over s words = dec_admitted M word_of s.value_of s.spelled difference (square_side X) (square_cell X M.unit enter) words

  pub take_over : (n : ℕ) (words : List (PhaseOf Word)) → AreAdmitted M difference word_of enter X words → AreAdmitted M difference word_of enter X (take n words)
  take_over n words a = admitted-take M difference word_of (square_side X) (square_cell X M.unit enter) n words a

  -- where admitted phases have the fold as their index, none with the same words have another
  no_other : (value_of : Word → Option V) → HasWords M word_of value_of → (choice : List (Option ℕ)) (words : List (PhaseOf Word)) (a : AreAdmitted M difference word_of enter X words) → index_of M a.phases ≡ choice_fold M enter X choice → ¬ HaveOtherIndex M difference word_of enter X choice words
  no_other value_of spelled choice words =
      no_other_from M difference word_of value_of spelled (square_side X) (square_cell X M.unit enter) (choice_fold M enter X choice) words

  module _ (s : AreSpelled M word_of) (choice : List (Option ℕ)) (words : List (PhaseOf Word)) where
    dec_other : Dec (HaveOtherIndex M difference word_of enter X choice words)
    dec_other = by (dec_admitted_over s words)
      where
        with_index : (a : AreAdmitted M difference word_of enter X words) → Dec (index_of M a.phases ≡ choice_fold M enter X choice) → Dec (HaveOtherIndex M difference word_of enter X choice words)
        with_index a (yes is) = no (no_other s.value_of s.spelled choice words a is)
        with_index a (no differ) = yes (record { admitted = a; other = differ })

        by : Dec (AreAdmitted M difference word_of enter X words) → Dec (HaveOtherIndex M difference word_of enter X choice words)
        by (yes a) = with_index a (s.same (index_of M a.phases) (choice_fold M enter X choice))
        by (no none) = no (λ other. none other.admitted)

    proves : AreAdmitted M difference word_of enter X words → ¬ HaveOtherIndex M difference word_of enter X choice words → ProvesFold M difference word_of enter X choice words
    proves a one = record {
      phases = a.phases;
      written = a.written;
      proved = record { admitted = a.admitted; index = dec→stable (s.same (index_of M a.phases) (choice_fold M enter X choice)) (λ differ. one (record { admitted = a; other = differ })) };
    }

  abbrev admitted_of : (choice : List (Option ℕ)) (words : List (PhaseOf Word)) → ProvesFold M difference word_of enter X choice words → AreAdmitted M difference word_of enter X words
  admitted_of choice words p = record { phases = p.phases; written = p.written; admitted = p.proved.admitted }

  one_index : AreSpelled M word_of → (choice : List (Option ℕ)) (words : List (PhaseOf Word)) → ProvesFold M difference word_of enter X choice words → ¬ HaveOtherIndex M difference word_of enter X choice words
  one_index s choice words p = no_other s.value_of s.spelled choice words (admitted_of choice words p) p.proved.index

-- ---- by the objective

-- a fact of each monoid with words is decided
pub dec_by : (P : Fact) → ((V : Type 0) (M : Monoid V) (difference : V → V → V) (word_of : V → Word) (enter : Cost → V) → AreSpelled M word_of → Dec (P V M difference word_of enter)) → (objective : Objective) → Dec (InMonoidOf objective P)
dec_by P each Bottleneck = each _ _ _ _ _ peaks_spelled
dec_by P each BottleneckMax = each _ _ _ _ _ peaks_spelled
dec_by P each TimeCost = each _ _ _ _ _ times_spelled
dec_by P each Balanced = no (λ none. none)
dec_by P each Lex = no (λ none. none)
dec_by P each objective = each _ _ _ _ _ (sums_spelled (top_of objective))

-- what follows in each monoid with words
pub mapped : (P Q : Fact) → ((V : Type 0) (M : Monoid V) (difference : V → V → V) (word_of : V → Word) (enter : Cost → V) → AreSpelled M word_of → P V M difference word_of enter → Q V M difference word_of enter) → (objective : Objective) → InMonoidOf objective P → InMonoidOf objective Q
mapped P Q each Bottleneck p = each _ _ _ _ _ peaks_spelled p
mapped P Q each BottleneckMax p = each _ _ _ _ _ peaks_spelled p
mapped P Q each TimeCost p = each _ _ _ _ _ times_spelled p
mapped P Q each Balanced p = p
mapped P Q each Lex p = p
mapped P Q each objective p = each _ _ _ _ _ (sums_spelled (top_of objective)) p

-- two facts of one monoid
pub both : (P Q : Fact) (objective : Objective) → InMonoidOf objective P → InMonoidOf objective Q → InMonoidOf objective (λ V M difference word_of enter. P V M difference word_of enter × Q V M difference word_of enter)
both P Q Balanced p q = p
both P Q Lex p q = p
both P Q objective p q = (p, q)

-- no fact of any monoid, where none holds
pub nothing : (P : Fact) → ((V : Type 0) (M : Monoid V) (difference : V → V → V) (word_of : V → Word) (enter : Cost → V) → AreSpelled M word_of → ¬ P V M difference word_of enter) → (objective : Objective) → ¬ InMonoidOf objective P
nothing P each Bottleneck p = each _ _ _ _ _ peaks_spelled p
nothing P each BottleneckMax p = each _ _ _ _ _ peaks_spelled p
nothing P each TimeCost p = each _ _ _ _ _ times_spelled p
nothing P each Balanced p = p
nothing P each Lex p = p
nothing P each objective p = each _ _ _ _ _ (sums_spelled (top_of objective)) p

module _ (objective : Objective) (X : Problem) (words : List (PhaseOf Word)) where
  pub dec_admitted_for : Dec (AreAdmittedFor objective X words)
  dec_admitted_for = dec_by (λ V M difference word_of enter. AreAdmitted M difference word_of enter X words) (λ V M difference word_of enter s. dec_admitted_over M difference word_of enter X s words) objective

  pub take_for : (n : ℕ) → AreAdmittedFor objective X words → AreAdmittedFor objective X (take n words)
  take_for n a =
      mapped (λ V M difference word_of enter. AreAdmitted M difference word_of enter X words) (λ V M difference word_of enter. AreAdmitted M difference word_of enter X (take n words))
      (λ V M difference word_of enter s. take_over M difference word_of enter X n words) objective a

  module _ (choice : List (Option ℕ)) where
    pub dec_other_for : Dec (HaveOtherIndexFor objective X choice words)
    dec_other_for = dec_by (λ V M difference word_of enter. HaveOtherIndex M difference word_of enter X choice words) (λ V M difference word_of enter s. dec_other M difference word_of enter X s choice words) objective

    -- phases that prove the choice are admitted, and have no other index
    pub admitted_for : ProvesPhases objective X choice words → AreAdmittedFor objective X words
    admitted_for p =
        mapped (FoldFact X choice words) (λ V M difference word_of enter. AreAdmitted M difference word_of enter X words)
        (λ V M difference word_of enter s. admitted_of M difference word_of enter X choice words) objective p

    pub one_index_for : ProvesPhases objective X choice words → ¬ HaveOtherIndexFor objective X choice words
    one_index_for p other =
        nothing (λ V M difference word_of enter. ProvesFold M difference word_of enter X choice words × HaveOtherIndex M difference word_of enter X choice words)
        (λ V M difference word_of enter s two. one_index M difference word_of enter X s choice words two.0 two.1) objective
        (both (FoldFact X choice words) (λ V M difference word_of enter. HaveOtherIndex M difference word_of enter X choice words) objective p other)

-- no phases at all are admitted for an objective that has a monoid
pub none_admitted : (objective : Objective) (X : Problem) → IsTrue (is_algebraic objective) → AreAdmittedFor objective X []
none_admitted Balanced X is = absurd (cc)
none_admitted Lex X is = absurd (cc)
none_admitted objective X is = record { phases = []; written = refl; admitted = tt }

-- admitted phases that have no other index prove the choice
pub proves_for : (objective : Objective) (X : Problem) (choice : List (Option ℕ)) (words : List (PhaseOf Word)) → AreAdmittedFor objective X words → ¬ HaveOtherIndexFor objective X choice words → ProvesPhases objective X choice words
proves_for Bottleneck X choice words a one = proves _ _ _ _ X peaks_spelled choice words a one
proves_for BottleneckMax X choice words a one = proves _ _ _ _ X peaks_spelled choice words a one
proves_for TimeCost X choice words a one = proves _ _ _ _ X times_spelled choice words a one
proves_for Balanced X choice words a one = a
proves_for Lex X choice words a one = a
proves_for objective X choice words a one = proves _ _ _ _ X (sums_spelled (top_of objective)) choice words a one
