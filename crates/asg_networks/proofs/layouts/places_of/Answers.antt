use Rattle.asg_networks.proofs.Common.{◌≡◌, ◌+◌, length, replicate, ap, ◌∙◌, arith, length-set, common_steps, length-replicate}
use Rattle.asg_networks.proofs.PlaceLemmas.{nothing, no_places, one_more_place}
use Rattle.asg_networks.proofs.layouts.places_of.Goals as goal
use Rattle.asg_networks.proofs.layouts.places_of.Goals.{In_ok-places}

none_yet : (c : In_ok-places) → c.in_ok-places.places.items ≡ replicate (c.args.nodes + 1) nothing
none_yet c = c.in_ok-places.ensures.items_if_clones_equal (λ y same. grind (arith, common_steps))

pub loop-place-init : goal.loop-place-init
loop-place-init c =
    let none = none_yet (goal.at.loop-place-init c).In_ok-places in
    record {
      whole = ap length none ∙ length-replicate (c.args.nodes + 1) nothing;
      tells = no_places (c.args.nodes + 1) c.in_ok-places.places.items none;
    }

pub loop-place-preserved : goal.loop-place-preserved
loop-place-preserved c = record {
  whole = length-set c.loop-place.places.items _ _ ∙ c.loop-place.invariant.whole;
  tells = one_more_place c.loop-place.places.items c.args.ids.now c.loop-place.place c.requires.ids.differ c.loop-place-test.true (omega (arith, c.requires.ids.within c.loop-place.place 0 c.loop-place-test.true, c.loop-place.invariant.whole)) c.loop-place.invariant.tells;
}
