use Rattle.asg_kept_phases.proofs.Common.{◌≡◌, [], ◌∷◌, reverse, length, IfSome, sym, ap, ◌∙◌, subst, arith, reverse-append, IsLive, phases_of, phases_to, parent_shorter}
use Rattle.asg_kept_phases.proofs.TrailLemmas.{IsOnTheWay, IsOnTheWay-next}
use Rattle.asg_kept_phases.proofs.phase_chains.tell_way.Goals as goal

pub push_reserved-requires : goal.push_reserved-requires
push_reserved-requires g c =
    let F = c.args.region.now in
    let t = c.in-Some.trail in
    let live = subst (λ o. IfSome o (IsLive F)) c.in-Some.is c.trails.invariant.0.live in
    let shorter = parent_shorter F c.parent-next.ensures.forest t live in
    let size : length (phases_to F c.trails.next) ≡ length (phases_of F t) = ap (λ o. length (phases_to F o)) c.in-Some.is in
    omega (arith, c.trails.invariant.1, shorter, size)

pub trails-smaller : goal.trails-smaller
trails-smaller g c =
    let F = c.args.region.now in
    let t = c.in-Some.trail in
    let live = subst (λ o. IfSome o (IsLive F)) c.in-Some.is c.trails.invariant.0.live in
    let shorter = parent_shorter F c.parent-next.ensures.forest t live in
    let size : length (phases_to F c.trails.next) ≡ length (phases_of F t) = ap (λ o. length (phases_to F o)) c.in-Some.is in
    let next = ap (λ o. length (phases_to F o)) c.parent-next.ensures.value in
    omega (arith, shorter, size, next)

pub trails-preserved : goal.trails-preserved
trails-preserved g c =
    let F = c.args.region.now in
    let P = phases_to F c.args.last in
    let t = c.in-Some.trail in
    let old = c.trails.way.items in
    let new = c.push_reserved.new.self.items in
    let so_far = subst (λ o. IsOnTheWay F P old o) c.in-Some.is c.trails.invariant.0 in
    let shorter = parent_shorter F c.parent-next.ensures.forest t so_far.live in
    let size : length (phases_to F c.trails.next) ≡ length (phases_of F t) = ap (λ o. length (phases_to F o)) c.in-Some.is in
    let next = ap (λ o. length (phases_to F o)) c.parent-next.ensures.value in
    let turned : reverse new ≡ t ∷ reverse old = ap reverse c.push_reserved.ensures.items ∙ reverse-append old (t ∷ []) in (
      subst (λ o. IsOnTheWay F P new o) (sym c.parent-next.ensures.value) (IsOnTheWay-next F c.parent-next.ensures.forest P old new t turned so_far),
      omega (arith, c.trails.invariant.1, shorter, size, next, c.push_reserved.ensures.len, c.push_reserved.ensures.capacity),
    )
