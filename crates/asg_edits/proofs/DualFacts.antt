-- What a session of sums by dual variables does, as an editor sees it.
use Rattle.asg_edits.proofs.Common.{◌≡◌, [], ◌++◌, IsTrue, refl, ap, ◌∙◌, arith, EditorOf, Edits, GoesTo, SettlesTo, seen_by_duals, edited, Problem, Edit, Objective, top_of, KeepsFact, KeepsPhases}
use Rattle.std.proofs.lemmas.List.{append_assoc, length-append}
use Rattle.asg_monoids.specs.NarrowObjectives.{is_narrow_objective}
use Rattle.asg_sum_edits.specs.Sessions.{SumsOf}
use Rattle.asg_edits.proofs.MonoidFacts.{sum_fact}
use Rattle.asg_monoids.specs.laws.NarrowObjectives.{is_sum-narrow}

-- where there are no phases, none are kept
keeps_none : (objective : Objective) (Y : Problem) → IsTrue (is_narrow_objective objective) → KeepsPhases objective Y [] []
keeps_none objective Y narrow =
    sum_fact objective (is_sum-narrow objective narrow) (top_of objective) refl (KeepsFact Y [] [])
    (record {
      phases = [];
      written = refl;
      count = 0;
      admitted = record { within = omega arith; admitted = tt; longest = λ m few admitted. few };
      kept_are = refl;
    })

pub duals_edited : (s t : SumsOf) (edit : Edit) → IsTrue (is_narrow_objective s.objective) → t.objective ≡ s.objective → t.instance ≡ edited s.instance edit → Edits (seen_by_duals s) edit (seen_by_duals t)
duals_edited s t edit narrow objective instance = record {
  objective = objective;
  instance = instance;
  kept = keeps_none s.objective t.instance narrow;
  few = λ raised none. absurd (omega (arith, none));
}

-- ---- settling

pub goes_on : (old mid new : EditorOf) → SettlesTo old mid → GoesTo mid new → GoesTo old new
goes_on old mid new settles goes = record {
  objective = goes.objective ∙ settles.objective;
  instance = goes.instance ∙ settles.instance;
  more = settles.more ++ goes.more;
  phases = goes.phases ∙ ap (λ phases. phases ++ goes.more) settles.phases ∙ append_assoc old.phases settles.more goes.more;
  few = omega (arith, settles.few, goes.few, length-append settles.more goes.more);
}
