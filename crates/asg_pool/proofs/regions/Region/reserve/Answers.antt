use Rattle.asg_pool.proofs.Common.{◌≡◌, ◌+◌, ◌-◌, max, ap, ◌∙◌, arith, on_err_weaker, on_ok_weaker, spare_of, forest_of, phase_at}
use Rattle.asg_pool.proofs.ReserveLemmas.{on_err, shown_alike, shown_wider, IsRegion-wider, IsRegion-roomier}
use Rattle.asg_pool.proofs.regions.Region.reserve.Goals as goal

pub returns-in_err-widen-clause-err : goal.returns-in_err-widen-clause-err
returns-in_err-widen-clause-err g c =
    let s = c.self.inside in
    let w = c.widen in
    on_err c.from_residual-in_err-widen.result
    (shown_alike s.side s.links s.steps w.new.steps s.enters w.new.enters s.leaves w.new.leaves w.ensures.steps.rows w.ensures.enters.rows w.ensures.leaves.rows ∙ c.self.view_is)

pub returns-clause-ok : goal.returns-clause-ok
returns-clause-ok g c =
    let s = c.self.inside in
    let w = c.widen in
    on_ok_weaker c.reserve.result
    (λ wider.
    let alike = shown_alike s.side c.reserve.new.self s.steps w.new.steps s.enters w.new.enters s.leaves w.new.leaves w.ensures.steps.rows w.ensures.enters.rows w.ensures.leaves.rows in
    let room : max s.links.room c.in_ok-room.room ≡ s.links.room + (c.args.records - spare_of s.links) = omega (arith, c.in_ok-room.ensures.sum, c.room.ensures.room, c.spare-spare.ensures) in
    alike
    ∙ shown_wider s.side s.links c.reserve.new.self (phase_at s.steps s.enters s.leaves) c.args.records c.args.self.now c.self.view_is c.self.invariant.used (omega (arith, c.spare-spare.ensures))
    (wider ∙ ap (λ n. record s.links { room = n }) room))
    c.reserve.ensures.ok

pub returns-clause-err : goal.returns-clause-err
returns-clause-err g c =
    let s = c.self.inside in
    let w = c.widen in
    on_err_weaker c.reserve.result
    (λ same.
    shown_alike s.side c.reserve.new.self s.steps w.new.steps s.enters w.new.enters s.leaves w.new.leaves w.ensures.steps.rows w.ensures.enters.rows w.ensures.leaves.rows
    ∙ ap (λ T. forest_of s.side T (phase_at s.steps s.enters s.leaves)) same
    ∙ c.self.view_is)
    c.reserve.ensures.err

pub invariant_of-self : goal.invariant_of-self
invariant_of-self g c =
    let s = c.self.inside in
    let w = c.widen in
    IsRegion-wider s.side s.links s.steps w.new.steps s.enters w.new.enters s.leaves w.new.leaves w.ensures.steps w.ensures.enters w.ensures.leaves c.self.invariant

pub invariant_of-self-2 : goal.invariant_of-self-2
invariant_of-self-2 g c =
    let s = c.self.inside in
    let w = c.widen in
    let enough = c.in_ok-widen.ensures.ok in
    IsRegion-roomier c.reserve.result s.side s.links c.reserve.new.self w.new.steps w.new.enters w.new.leaves c.in_ok-room.room c.reserve.ensures.ok c.reserve.ensures.err
    enough.0 enough.1 enough.2 c.in_ok-room.ensures.most
    (IsRegion-wider s.side s.links s.steps w.new.steps s.enters w.new.enters s.leaves w.new.leaves w.ensures.steps w.ensures.enters w.ensures.leaves c.self.invariant)
