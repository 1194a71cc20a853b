use Rattle.asg_networks.proofs.Common.{map, lines, line_of}
use Rattle.asg_networks.proofs.LineRanges.{lines_in_range}
use Rattle.asg_networks.proofs.SpelledNetworks.{asn_spells_instance}
use Rattle.asg_networks.proofs.laws.asn_law.Goals as goal

pub returns : goal.returns
returns c = λ text X is.
    asn_spells_instance c.whole_table_law.ensures (map line_of (lines text)) X (lines_in_range (lines text)) is
