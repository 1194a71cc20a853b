use Rattle.asg_kept_phases.proofs.Common.{sym, ◌∙◌, subst, false≢true, IsNamed, label_at, touched_named, named_touched, untouched_same, label_of_column, NamesPlaces-passed}
use Rattle.asg_kept_phases.proofs.edited_cells.EditedCellsChangedCellsValue.is_changed.Goals as goal

pub returns-clause-touched : goal.returns-clause-touched
returns-clause-touched g c h =
    let s = c.args.self.now in
    let X = s.inst.now in
    let names = NamesPlaces-passed (g.K.Kind.objective s.kind.now) X s.edit s.passes in
    let label = label_of_column X s.square.now c.args.k s.columns c.requires.column in
    touched_named X (label_at s.square.now) c.args.r c.args.k label s.edit names
    (subst (λ places. IsNamed places (label_at s.square.now) c.args.r c.args.k) s.places_are (c.is_named.ensures.0 h))

pub returns-clause-stays : goal.returns-clause-stays
returns-clause-stays g c h =
    let s = c.args.self.now in
    let X = s.inst.now in
    let names = NamesPlaces-passed (g.K.Kind.objective s.kind.now) X s.edit s.passes in
    let label = label_of_column X s.square.now c.args.k s.columns c.requires.column in
    untouched_same (g.K.M.Ordered.monoid_of (g.K.Kind.monoid s.kind.now)).unit (g.K.Kind.entered s.kind.now) X s.edit c.args.r c.args.k c.rows-rows.ensures.instance names
    (λ touched.
    false≢true
    (sym h
    ∙ c.is_named.ensures.1
    (subst (λ places. IsNamed places (label_at s.square.now) c.args.r c.args.k) (sym s.places_are)
    (named_touched X (label_at s.square.now) c.args.r c.args.k label s.edit names touched))))
