-- What a session keeps where its phases are solved on.
use Rattle.asg_repair.proofs.Common.{◌≡◌, ℕ, ◌<◌, false, ◌++◌, length, Option, sym, ap, ◌∙◌, subst, false≢true, HasSolved, IsChain, IsLed, phases_in, IsPhaseChain, PhaseChain, Problem, square_side, Cost, Monoid, IsOrderedMonoid, IsForest, phases_to, AreAbsorbed, IsSized, Work}
use Rattle.asg_kept_phases.specs.laws.KeptLabels.{HasColumnsOf-kept}
use Rattle.asg_repair.proofs.PushLemmas.{IsLinked-forest, IsLinked-all}
use Rattle.asg_repair.proofs.SessionLemmas.{IsLed-more, pushed_side}

module _ {V : Type 0} (M : Monoid V) (difference : V → V → V) (X : Problem) (old new : Work V) (chain after : PhaseChain V) (last : Option ℕ)
    (solved : HasSolved M difference old.reduced new.reduced old.matching new.matching chain.region after.region chain.last last)
  where
    pub IsSized-solved : IsSized X old → new.bench.side ≡ old.bench.side → length new.columns.items ≡ square_side X → square_side X < length new.room.items → IsSized X new
    IsSized-solved sized bench columns room = record {
      square = HasColumnsOf-kept X old.reduced.now new.reduced.now solved.lead.labels sized.square;
      matching_side = solved.rows.side ∙ sized.matching_side;
      is_matching = solved.rows.columns;
      bench_side = bench ∙ sized.bench_side;
      columns_side = columns;
      steps_room = room;
    }

    pub AreAbsorbed-solved : AreAbsorbed M old.reduced old.matching → AreAbsorbed M new.reduced new.matching
    AreAbsorbed-solved absorbed = record {
      side = solved.rows.side ∙ absorbed.side ∙ sym solved.lead.labels.side;
      columns = solved.rows.columns;
      absorbed = solved.rows.absorbed;
    }

    pub side-solved : after.region.side ≡ chain.region.side
    side-solved = pushed_side solved.phases chain.region after.region chain.last last solved.lead.pushed

    module _ (is_last : after.last ≡ last) where
      pub IsPhaseChain-solved : IsForest chain.region → IsPhaseChain chain → after.is_told ≡ false → IsPhaseChain after
      IsPhaseChain-solved forest is untold =
          let linked = IsLinked-all solved.phases chain.region after.region chain.last last solved.lead.pushed (IsLinked-forest chain.region chain.last forest is.chain) in
          record {
            chain = subst (IsChain after.region) (sym is_last) linked.chain;
            told = λ told. absurd (false≢true (sym untold ∙ told));
          }

      pub phases-solved : phases_in after ≡ phases_in chain ++ solved.phases
      phases-solved = ap (phases_to after.region) is_last ∙ solved.list

      pub IsLed-solved : (enter : Cost → V) → IsOrderedMonoid M → IsLed M difference enter X (phases_in chain) old.reduced → IsLed M difference enter X (phases_in after) new.reduced
      IsLed-solved enter laws led =
          subst (λ list. IsLed M difference enter X list new.reduced) (sym phases-solved)
          (IsLed-more M laws difference enter X (phases_in chain) solved.phases old.reduced new.reduced chain.region after.region chain.last last led solved.lead)
