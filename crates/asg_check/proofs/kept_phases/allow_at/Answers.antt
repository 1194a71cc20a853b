use Rattle.asg_check.proofs.Common.{◌≡◌, ◌+◌, false, get_or, IfOk-weaker, sym, ap, ◌∙◌, subst}
use Rattle.asg_check.proofs.KeptEdits.{allow-absent, allow-places}
use Rattle.asg_check.specs.KnownPhases.{AllowAtPlaces}
use Rattle.asg_model.specs.Counts.{capacity_at}
use Rattle.asg_model.specs.declared.parts.Column.{Column}
use Rattle.asg_order.specs.Monoid.{IsValue}
use Rattle.asg_square.specs.laws.Copies.{capacity_is}
use Rattle.asg_check.proofs.kept_phases.allow_at.Goals as goal

abbrev none : Column
none = record { id = 0; cap = 0; usable = false }

pub cells_allow-requires : goal.cells_allow-requires
cells_allow-requires g c = subst (λ n. IsValue (g.K.M.Ordered.monoid_of n) c.enter-x.result) (sym c.monoid.ensures) c.enter-x.ensures.is_value

pub returns : goal.returns
returns g c =
    let kind = c.args.kind.now in
    let X = c.args.inst.now in
    let words = c.args.phases.now in
    let q = c.args.column in
    let m = c.monoid.result.now in
    let enter = g.K.Kind.entered kind in
    let within = c.requires.column in
    let cap : (get_or c.columns-columns.result.now q none).cap ≡ capacity_at X q = ap (λ xs. (get_or xs q none).cap) c.columns-columns.ensures.columns ∙ sym (capacity_is X q none within) in
    IfOk-weaker c.cells_allow.result _ _
    (λ is each yes.
    subst (λ n. AllowAtPlaces (g.K.M.Ordered.monoid_of n) (g.K.M.DMonoid.difference n) (g.K.M.Written.word_of n) enter X words c.args.row q) c.monoid.ensures
    (allow-places (g.K.M.Ordered.monoid_of m) (g.K.M.DMonoid.difference m) (g.K.M.Written.word_of m) enter X words c.args.row q c.first_copy-from.result _ c.enter-x.result c.in-Some.cost
    (sym c.is_counted.ensures ∙ c.if-not-is_counted.false) (sym c.live.ensures.cost ∙ c.in-Some.is) c.enter-x.ensures.entered c.first_copy-from.ensures.first
    (ap (λ n. c.first_copy-from.result + n) cap) (each yes)))
    c.cells_allow.ensures

pub returns-in_default : goal.returns-in_default
returns-in_default g c = λ _.
    let kind = c.args.kind.now in
    let m = g.K.Kind.monoid kind in
    allow-absent (g.K.M.Ordered.monoid_of m) (g.K.M.DMonoid.difference m) (g.K.M.Written.word_of m) (g.K.Kind.entered kind) c.args.inst.now c.args.phases.now c.args.row c.args.column
    (sym c.is_counted.ensures ∙ c.if-not-is_counted.false) (sym c.live.ensures.cost ∙ c.in_default.is)
