use Rattle.asg_networks.proofs.Common.{◌≡◌, ◌+◌, length, take, TellsPlaces}
use Rattle.asg_networks.proofs.layouts.places_of.Given as goal

abbrev pub invariant-loop-place : goal.invariant-loop-place
invariant-loop-place l = record {
  whole : length l.places.items ≡ l.nodes + 1;
  tells : TellsPlaces l.places.items (take l.place l.ids);
}
