use Rattle.asg_networks.proofs.Common.{◌≡◌, ◌≤◌, map, length, take, drop, lines, line_of, IsSound, IsNetworkOf}
use Rattle.asg_networks.proofs.asn.read_asn.Given as goal

-- so many lines are read, and what they say is kept
abbrev pub invariant-loop-first : goal.invariant-loop-first
invariant-loop-first l = record {
  within : l.number ≤ length (map line_of (lines l.text));
  left : map line_of (lines l.rest) ≡ drop l.number (map line_of (lines l.text));
  kept : IsNetworkOf (take l.number (map line_of (lines l.text))) l.network;
  sound : IsSound l.network;
}

abbrev pub decreases-loop-first : goal.decreases-loop-first
decreases-loop-first l = length (lines l.rest)
