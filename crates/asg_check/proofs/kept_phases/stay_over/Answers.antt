use Rattle.asg_check.proofs.Common.{◌≡◌, IfOk-weaker, Some, sym, ◌∙◌, subst}
use Rattle.asg_check.proofs.KeptEdits.{stay-admitted}
use Rattle.asg_check.specs.KnownPhases.{AllowAtPlaces}
use Rattle.asg_model.specs.HallSet.{column_place_of, row_place_of}
use Rattle.asg_verdicts.specs.PhaseReasons.{AreAdmitted}
use Rattle.asg_check.proofs.kept_phases.stay_over.Goals as goal

pub returns : goal.returns
returns g c =
    let kind = c.args.kind.now in
    let m = g.K.Kind.monoid kind in
    let M = g.K.M.Ordered.monoid_of m in
    let d = g.K.M.DMonoid.difference m in
    let w = g.K.M.Written.word_of m in
    let enter = g.K.Kind.entered kind in
    let words = c.args.phases.now in
    IfOk-weaker c.allow_at.result _ _
    (λ is allow yes X cell same admitted.
    let at_row = subst (λ Z. row_place_of Z c.args.row ≡ Some c.in-Some.r) same (sym c.row_place.ensures.place ∙ c.in-Some.is) in
    let at_column = subst (λ Z. column_place_of Z c.args.col ≡ Some c.in-Some-column_place.q) same (sym c.column_place.ensures.place ∙ c.in-Some-column_place.is) in
    subst (λ Z. AreAdmitted M d w enter Z words) (sym same)
    (stay-admitted M d w enter X c.args.row c.args.col cell c.in-Some.r c.in-Some-column_place.q at_row at_column words
    (subst (λ Z. AllowAtPlaces M d w enter Z words c.in-Some.r c.in-Some-column_place.q) same (allow yes)) admitted))
    c.allow_at.ensures
