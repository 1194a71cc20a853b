-- A session as it is opened.
use Rattle.asg_repair.proofs.Common.{◌≡◌, ℕ, true, false, sym, refl, subst, false≢true, MaySolve, phases_in, Problem, Objective, Cost, Monoid, IsOpened, IsSession, parts_of, IsAnswerRoom, IsGiven, ids_in, AnswerRoom, Open, Opened}
use Rattle.asg_repair.proofs.SessionLemmas.{AreAbsorbedAfter-led}

-- what was opened, with room for answers of which none was given
pub IsSession-opened : {V : Type 0} (M : Monoid V) (difference : V → V → V) (enter : Cost → V) (objective : Objective) (reach : ℕ) (X : Problem) (opened : Opened V) (room : AnswerRoom) → MaySolve M enter objective reach X → IsOpened M difference enter X opened → IsAnswerRoom X room → room.given ≡ Open → IsSession M difference enter objective reach X (parts_of opened.work opened.phases true false room)
IsSession-opened M difference enter objective reach X opened room may is answers unanswered = record {
  may_solve = may;
  sized = is.sized;
  chain = is.chain;
  region_side = is.region_side;
  together = record {
    admitted = is.led.admitted;
    is_led = λ e. is.led;
    is_told = λ e. absurd (false≢true (sym e));
    is_whole = λ e. refl;
    absorbed = λ e. AreAbsorbedAfter-led M difference enter X (phases_in opened.phases) opened.work.reduced is.led opened.work.matching is.absorbed.absorbed;
  };
  spare = λ e. is.spare;
  answer_room = answers;
  given_is =
      subst (λ given. IsGiven M difference enter X (phases_in opened.phases) opened.work.matching given room.choice (ids_in room)) (sym unanswered) tt;
}
