use Rattle.asg_repair.proofs.Common.{◌≡◌, ℕ, true, length, take, Some, None, sym, ap, ◌∙◌, subst, edited_side, Touches, IsLed, MaySolve, IsLedBut, phases_in, column_at, refusal_of, IsInstance, Problem, square_side, AreKept, IsSession, parts_of, IsSized, SessionOf, sure_columns, Open, square_cell}
use Rattle.asg_repair.proofs.EditSteps.{IsSized-edited, MaySolve-edited}
use Rattle.asg_repair.proofs.EditedSessions.{IsLedBut-kept, IsSession-edited, IsSession-prepared, kept_columns, kept_count, kept_phases}
use Rattle.asg_repair.proofs.sessions.Session.apply.Given.{Over}
use Rattle.asg_repair.proofs.sessions.Session.apply.Goals as goal

abbrev Seen : Over → Type 0
Seen g = SessionOf g.row.K.Denot g.row.K-M-Value.Denot

pub edit_instance-requires-clause-passes : goal.edit_instance-requires-clause-passes
edit_instance-requires-clause-passes g c =
    subst (λ (t : Seen g). refusal_of (g.K.Kind.objective t.kind) t.instance c.args.edit ≡ None) (sym c.self.view_is) c.requires

-- ---- memory was wanting

pub invariant_of-self : goal.invariant_of-self
invariant_of-self g c =
    let s = c.self.inside in
    let m = g.K.Kind.monoid s.kind in
    let M = g.K.M.Ordered.monoid_of m in
    let d = g.K.M.DMonoid.difference m in
    let e = g.K.Kind.entered s.kind in
    let o = g.K.Kind.objective s.kind in
    let far = g.K.Kind.reach s.kind in
    let phases = c.edit_instance.new.phases in
    subst (λ (Y : Problem). IsSession M d e o far Y (parts_of s.work phases s.is_led s.is_cut s.room)) (sym c.in_err-kept.ensures.unchanged)
    (IsSession-prepared M d e o far s.inst s.work s.phases s.is_led s.is_cut s.room c.self.invariant phases c.in_err-kept.ensures.prepared)

-- ---- the edit is followed

pub follow_edit-self-inside-requires-clause-may_solve : goal.follow_edit-self-inside-requires-clause-may_solve
follow_edit-self-inside-requires-clause-may_solve g c =
    let s = c.self.inside in
    let M = g.K.M.Ordered.monoid_of (g.K.Kind.monoid s.kind) in
    let e = g.K.Kind.entered s.kind in
    let o = g.K.Kind.objective s.kind in
    let far = g.K.Kind.reach s.kind in
    let now = c.in_ok-kept.ensures.edited in
    let passes = subst (λ (t : Seen g). refusal_of (g.K.Kind.objective t.kind) t.instance c.args.edit ≡ None) (sym c.self.view_is) c.requires in
    subst (λ (Y : Problem). MaySolve M e o far Y) (sym now)
    (MaySolve-edited M e o far s.inst c.args.edit c.self.invariant.may_solve passes (g.met.K.Kind.enters_value s.kind) (subst (λ (Y : Problem). IsInstance Y) now c.rows-rows.ensures.instance))

pub follow_edit-self-inside-requires-clause-sized : goal.follow_edit-self-inside-requires-clause-sized
follow_edit-self-inside-requires-clause-sized g c =
    let s = c.self.inside in
    subst (λ (Y : Problem). IsSized Y s.work) (sym c.in_ok-kept.ensures.edited)
    (IsSized-edited s.inst c.args.edit s.work c.self.invariant.sized)

pub follow_edit-self-inside-requires-clause-region_side : goal.follow_edit-self-inside-requires-clause-region_side
follow_edit-self-inside-requires-clause-region_side g c =
    let s = c.self.inside in
    c.in_ok-kept.ensures.prepared.side
    ∙ c.self.invariant.region_side
    ∙ sym (edited_side s.inst c.args.edit)
    ∙ ap (λ (Y : Problem). square_side Y) (sym c.in_ok-kept.ensures.edited)

pub follow_edit-self-inside-requires-clause-led : goal.follow_edit-self-inside-requires-clause-led
follow_edit-self-inside-requires-clause-led g c =
    let s = c.self.inside in
    let m = g.K.Kind.monoid s.kind in
    let M = g.K.M.Ordered.monoid_of m in
    let d = g.K.M.DMonoid.difference m in
    let e = g.K.Kind.entered s.kind in
    let passes = subst (λ (t : Seen g). refusal_of (g.K.Kind.objective t.kind) t.instance c.args.edit ≡ None) (sym c.self.view_is) c.requires in
    let places = c.places_of-places.result in
    let prepared = c.edit_instance.new.phases in
    let kept = c.in_ok-kept.kept in
    subst (λ (Y : Problem). c.stays_led-stays.result ≡ true → (q : ℕ) → places.column ≡ Some q → IsLedBut M d e Y (take kept (phases_in prepared)) places.row q s.work.reduced) (sym c.in_ok-kept.ensures.edited)
    (λ h q at.
    IsLedBut-kept M d e (g.K.Kind.objective s.kind) (g.K.Kind.reach s.kind) s.inst s.work s.phases s.is_led s.is_cut s.room c.self.invariant c.args.edit passes
    prepared c.in_ok-kept.ensures.prepared c.len-count.result kept c.len-count.ensures c.in_ok-kept.ensures.kept
    c.stays_led-stays.result c.stays_led-stays.ensures h places c.places_of-places.ensures q at)

module _ (g : Over) (c : goal.After-self-3-1 g) where
  passed : refusal_of (g.K.Kind.objective c.self.inside.kind) c.self.inside.inst c.args.edit ≡ None
  passed = subst (λ (t : Seen g). refusal_of (g.K.Kind.objective t.kind) t.instance c.args.edit ≡ None) (sym c.self.view_is) c.requires

pub invariant_of-self-2 : goal.invariant_of-self-2
invariant_of-self-2 g c =
    let s = c.self.inside in
    let m = g.K.Kind.monoid s.kind in
    let M = g.K.M.Ordered.monoid_of m in
    let d = g.K.M.DMonoid.difference m in
    let e = g.K.Kind.entered s.kind in
    let o = g.K.Kind.objective s.kind in
    let far = g.K.Kind.reach s.kind in
    let X = s.inst in
    let now = c.in_ok-kept.ensures.edited in
    let prepared = c.edit_instance.new.phases in
    let led = c.follow_edit-self-inside.result in
    let work = c.follow_edit-self-inside.new.work in
    let after = c.follow_edit-self-inside.new.phases in
    let followed = c.follow_edit-self-inside.ensures in
    subst (λ (Y : Problem). IsSession M d e o far Y (parts_of work after led c.is_cut_by-self-inside.result (record s.room { given = Open }))) (sym now)
    (IsSession-edited M d e o far X s.work s.phases s.is_led s.is_cut s.room c.self.invariant c.args.edit (passed g c)
    prepared c.in_ok-kept.ensures.prepared c.len-count.result c.in_ok-kept.kept c.len-count.ensures c.in_ok-kept.ensures.kept
    after followed.cut c.places_of-places.result c.places_of-places.ensures
    work (subst (λ (Y : Problem). IsSized Y work) now followed.sized) followed.cleared
    c.is_cut_by-self-inside.result c.is_cut_by-self-inside.ensures
    (g.met.K.Kind.enters_value s.kind)
    (subst (λ (Y : Problem). IsInstance Y) now c.rows-rows.ensures.instance)
    c.in_ok-kept.ensures.spare
    c.stays_led-stays.result led c.stays_led-stays.ensures followed.only
    (subst (λ (Y : Problem). led ≡ true → IsLed M d e Y (phases_in after) work.reduced) now followed.led))

pub returns-clause-kept : goal.returns-clause-kept
returns-clause-kept g c =
    let s = c.self.inside in
    let m = g.K.Kind.monoid s.kind in
    let M = g.K.M.Ordered.monoid_of m in
    let d = g.K.M.DMonoid.difference m in
    let e = g.K.Kind.entered s.kind in
    let before = phases_in s.phases in
    let after = phases_in c.follow_edit-self-inside.new.phases in
    subst
    (λ (t : Seen g).
    (n : ℕ) × (after ≡ take n t.phases)
    × AreKept (g.K.M.Ordered.monoid_of (g.K.Kind.monoid t.kind)) (g.K.M.DMonoid.difference (g.K.Kind.monoid t.kind)) (square_side c.edit_instance.new.inst) t.phases
    (square_cell c.edit_instance.new.inst (g.K.M.Ordered.monoid_of (g.K.Kind.monoid t.kind)).unit (g.K.Kind.entered t.kind)) n)
    c.self.view_is
    (subst (λ (Y : Problem). (n : ℕ) × (after ≡ take n before) × AreKept M d (square_side Y) before (square_cell Y M.unit e) n) (sym c.in_ok-kept.ensures.edited)
    (kept_phases M d e (g.K.Kind.objective s.kind) (g.K.Kind.reach s.kind) s.inst s.work s.phases s.is_led s.is_cut s.room c.self.invariant c.args.edit (passed g c)
    c.edit_instance.new.phases c.in_ok-kept.ensures.prepared c.len-count.result c.in_ok-kept.kept c.len-count.ensures c.in_ok-kept.ensures.kept
    c.follow_edit-self-inside.new.phases c.follow_edit-self-inside.ensures.cut))

pub returns-clause-columns : goal.returns-clause-columns
returns-clause-columns g c =
    let s = c.self.inside in
    let m = g.K.Kind.monoid s.kind in
    let work = c.follow_edit-self-inside.new.work in
    let after = c.follow_edit-self-inside.new.phases in
    let columns = sure_columns c.is_cut_by-self-inside.result work.matching in
    subst
    (λ (t : Seen g).
    phases_in after ≡ t.phases → (r : ℕ) → ((k : ℕ) → Touches t.instance c.args.edit r k → ⊥) → column_at columns r ≡ column_at t.columns r)
    c.self.view_is
    (kept_columns (g.K.M.Ordered.monoid_of m) (g.K.M.DMonoid.difference m) (g.K.Kind.entered s.kind) (g.K.Kind.objective s.kind) (g.K.Kind.reach s.kind)
    s.inst s.work s.phases s.is_led s.is_cut s.room c.self.invariant c.args.edit (passed g c)
    c.edit_instance.new.phases c.in_ok-kept.ensures.prepared c.len-count.result c.in_ok-kept.kept c.len-count.ensures c.in_ok-kept.ensures.kept
    after c.follow_edit-self-inside.ensures.cut c.places_of-places.result c.places_of-places.ensures
    work (subst (λ (Y : Problem). IsSized Y work) c.in_ok-kept.ensures.edited c.follow_edit-self-inside.ensures.sized) c.follow_edit-self-inside.ensures.cleared
    c.is_cut_by-self-inside.result c.is_cut_by-self-inside.ensures)

pub returns-clause-count : goal.returns-clause-count
returns-clause-count g c =
    let s = c.self.inside in
    let m = g.K.Kind.monoid s.kind in
    let work = c.follow_edit-self-inside.new.work in
    subst (λ (t : Seen g). length (sure_columns c.is_cut_by-self-inside.result work.matching) ≡ length t.columns) c.self.view_is
    (kept_count (g.K.M.Ordered.monoid_of m) (g.K.M.DMonoid.difference m) (g.K.Kind.entered s.kind) (g.K.Kind.objective s.kind) (g.K.Kind.reach s.kind)
    s.inst s.work s.phases s.is_led s.is_cut s.room c.self.invariant c.args.edit (passed g c)
    c.edit_instance.new.phases c.in_ok-kept.ensures.prepared c.len-count.result c.in_ok-kept.kept c.len-count.ensures c.in_ok-kept.ensures.kept
    c.follow_edit-self-inside.new.phases c.follow_edit-self-inside.ensures.cut c.places_of-places.result c.places_of-places.ensures
    work (subst (λ (Y : Problem). IsSized Y work) c.in_ok-kept.ensures.edited c.follow_edit-self-inside.ensures.sized) c.follow_edit-self-inside.ensures.cleared
    c.is_cut_by-self-inside.result c.is_cut_by-self-inside.ensures)
