-- A session whose answer was found.
use Rattle.asg_repair.proofs.Common.{◌≡◌, ℕ, true, false, ◌≢◌, sym, refl, subst, false≢true, IsLed, MaySolve, phases_in, IsPhaseChain, PhaseChain, Problem, square_side, Objective, Cost, Monoid, AreAbsorbed, AreAbsorbedAfter, AreTogether, ids_in, IsAnswerRoom, IsGiven, IsSession, parts_of, IsSized, AnswerRoom, Open, Work}
use Rattle.asg_repair.proofs.SessionLemmas.{AreAbsorbedAfter-led}

module _ {V : Type 0} (M : Monoid V) (difference : V → V → V) (enter : Cost → V) (X : Problem) (before after : Work V) (chain : PhaseChain V)
    (led : IsLed M difference enter X (phases_in chain) before.reduced) (absorbed : AreAbsorbed M before.reduced before.matching) (reduced : after.reduced ≡ before.reduced) (matching : after.matching ≡ before.matching)
  where
    pub AreTogether-found : AreTogether M difference enter X after chain true false
    AreTogether-found = record {
      admitted = led.admitted;
      is_led = λ yes. subst (IsLed M difference enter X (phases_in chain)) (sym reduced) led;
      is_told = λ no. absurd (false≢true (sym no));
      is_whole = λ yes. refl;
      absorbed = λ whole.
          subst (AreAbsorbedAfter M difference enter X (phases_in chain)) (sym matching)
          (AreAbsorbedAfter-led M difference enter X (phases_in chain) before.reduced led before.matching absorbed.absorbed);
    }

    pub IsSession-found : (objective : Objective) (reach : ℕ) (room : AnswerRoom) → MaySolve M enter objective reach X → IsSized X after → IsPhaseChain chain → chain.region.side ≡ square_side X → IsAnswerRoom X room → room.given ≢ Open → IsGiven M difference enter X (phases_in chain) after.matching room.given room.choice (ids_in room) → IsSession M difference enter objective reach X (parts_of after chain true false room)
    IsSession-found objective reach room may_solve sized is side answers some given = record {
      may_solve = may_solve;
      sized = sized;
      chain = is;
      region_side = side;
      together = AreTogether-found;
      spare = λ unanswered. absurd (some unanswered);
      answer_room = answers;
      given_is = given;
    }
