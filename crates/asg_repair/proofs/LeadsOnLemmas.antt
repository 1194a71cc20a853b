-- Squares that are led on by more phases.
use Rattle.asg_repair.proofs.Common.{◌≡◌, ℕ, ◌+◌, ◌<◌, ◌≤◌, true, false, ◌++◌, [], length, Option, sym, refl, ap, ◌∙◌, subst, arith, false≢true, HasSolved, IsLed, MaySolve, phases_in, IsPhaseChain, PhaseChain, Problem, square_side, Objective, Cost, Monoid, IsOrderedMonoid, IsForest, IsPerfect, IsAbsorbed, unmatched, Work, cell_at, AreTogether, ids_in, IsAnswerRoom, IsGiven, IsSession, parts_of, AnswerRoom, Open}
use Rattle.asg_repair.proofs.SessionLemmas.{AreAbsorbedAfter-led}
use Rattle.std.proofs.lemmas.List.{append-nil}
use Rattle.asg_repair.specs.LeadsOn.{IsReady, LeadsOn}
use Rattle.asg_repair.proofs.SolvedLemmas.{IsSized-solved, AreAbsorbed-solved, side-solved, IsPhaseChain-solved, phases-solved, IsLed-solved}
use Rattle.asg_repair.proofs.UnmatchedLemmas.{unmatched_none}

module _ {V : Type 0} (M : Monoid V) (difference : V → V → V) (enter : Cost → V) (X : Problem) where
  pub LeadsOn-none : (work : Work V) (phases : PhaseChain V) → IsReady M difference enter X work phases → LeadsOn M difference enter X work work phases phases
  LeadsOn-none work phases ready = record {
    ready = ready;
    more = [];
    phases = sym (append-nil (phases_in phases));
    few = omega arith;
  }

  pub IsReady-prepared : (work : Work V) (old new : PhaseChain V) → IsReady M difference enter X work old → IsPhaseChain new → phases_in new ≡ phases_in old → new.region.side ≡ old.region.side → old.region.spare ≤ new.region.spare → IsReady M difference enter X work new
  IsReady-prepared work old new ready chain same side more = record {
    sized = ready.sized;
    chain = chain;
    region_side = side ∙ ready.region_side;
    spare = omega (arith, more, ready.spare);
    led = subst (λ list. IsLed M difference enter X list work.reduced) (sym same) ready.led;
    absorbed = ready.absorbed;
  }

  pub LeadsOn-after : (before after : Work V) (old middle new : PhaseChain V) → phases_in middle ≡ phases_in old → LeadsOn M difference enter X before after middle new → LeadsOn M difference enter X before after old new
  LeadsOn-after before after old middle new same on = record {
    ready = on.ready;
    more = on.more;
    phases = on.phases ∙ ap (λ list. list ++ on.more) same;
    few = on.few;
  }

  module _ (laws : IsOrderedMonoid M) (old new : Work V) (chain after : PhaseChain V) (last : Option ℕ)
      (solved : HasSolved M difference old.reduced new.reduced old.matching new.matching chain.region after.region chain.last last) (is_last : after.last ≡ last)
    where
      pub LeadsOn-solved : (count : ℕ) → IsReady M difference enter X old chain → IsForest chain.region → after.is_told ≡ false → new.bench.side ≡ old.bench.side → length new.columns.items ≡ square_side X → square_side X < length new.room.items → IsPerfect (IsAbsorbed M new.reduced.index (cell_at new.reduced.now)) new.reduced.now.side new.matching → after.region.spare + count ≡ chain.region.spare → square_side X + count ≤ chain.region.spare → LeadsOn M difference enter X old new chain after
      LeadsOn-solved count ready forest untold bench columns room perfect left spare = record {
        ready = record {
          sized = IsSized-solved M difference X old new chain after last solved ready.sized bench columns room;
          chain = IsPhaseChain-solved M difference X old new chain after last solved is_last forest ready.chain untold;
          region_side = side-solved M difference X old new chain after last solved ∙ ready.region_side;
          spare = omega (arith, left, spare);
          led = IsLed-solved M difference X old new chain after last solved is_last enter laws ready.led;
          absorbed = AreAbsorbed-solved M difference X old new chain after last solved ready.absorbed;
        };
        more = solved.phases;
        phases = phases-solved M difference X old new chain after last solved is_last;
        few = omega (arith, solved.few, unmatched_none new.matching (λ r low. perfect.all r (omega (arith, low, perfect.rows))));
      }

-- a session whose square is led, and that hasn't answered
module _ {V : Type 0} (M : Monoid V) (difference : V → V → V) (enter : Cost → V) (X : Problem) (work : Work V) (chain : PhaseChain V) (ready : IsReady M difference enter X work chain) where
  AreTogether-ready : AreTogether M difference enter X work chain true false
  AreTogether-ready = record {
    admitted = ready.led.admitted;
    is_led = λ yes. ready.led;
    is_told = λ no. absurd (false≢true (sym no));
    is_whole = λ yes. refl;
    absorbed = λ whole. AreAbsorbedAfter-led M difference enter X (phases_in chain) work.reduced ready.led work.matching ready.absorbed.absorbed;
  }

  pub IsSession-ready : (objective : Objective) (reach : ℕ) (room : AnswerRoom) → MaySolve M enter objective reach X → IsAnswerRoom X room → room.given ≡ Open → IsSession M difference enter objective reach X (parts_of work chain true false room)
  IsSession-ready objective reach room may_solve answers is_open = record {
    may_solve = may_solve;
    sized = ready.sized;
    chain = ready.chain;
    region_side = ready.region_side;
    together = AreTogether-ready;
    spare = λ unanswered. ready.spare;
    answer_room = answers;
    given_is = subst (λ given. IsGiven M difference enter X (phases_in chain) work.matching given room.choice (ids_in room)) (sym is_open) tt;
  }
