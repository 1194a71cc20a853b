use Rattle.asg_sum_edits.proofs.Common.{◌≡◌, length, IfSome, OnSome, sym, subst, placed, IsBestSum}
use Rattle.asg_sum_edits.proofs.EditedFound.{best_sum_is}
use Rattle.asg_sum_edits.proofs.sessions.SumSession.known_sum.Goals as goal

pub returns-clause-sum : goal.returns-clause-sum
returns-clause-sum c =
    let inside = c.self.inside in
    let known = best_sum_is inside.objective inside.inst inside.stands inside.is_known inside.found c.self.invariant c.rows-rows.ensures.instance c.if-not-self.false c.if-not-self-2.false in
    subst (λ o. IfSome o (IsBestSum c.args.self.now.objective c.args.self.now.instance)) (sym c.told.ensures)
    (subst (λ seen. IsBestSum seen.objective seen.instance inside.found.sum) c.self.view_is known)

pub returns-clause-all : goal.returns-clause-all
returns-clause-all c =
    let one_to_one = c.self.invariant.one_to_one c.if-not-self.false in
    subst (λ o. OnSome o (placed c.args.self.now.instance ≡ length c.args.self.now.instance.rows)) (sym c.told.ensures)
    (subst (λ seen. placed seen.instance ≡ length seen.instance.rows) c.self.view_is one_to_one.all)
