-- What an input file spells is an instance.
use Rattle.asg_text.proofs.Common.{◌≡◌, ℕ, List, map, lines, IsInstance, Problem, Asn, Square, Rect, tokens, Spells}
use Rattle.asg_text.specs.declared.formats.Format.{Format}
use Rattle.asg_networks.specs.AsnArcs.{reading_of_asn}
use Rattle.asg_networks.specs.AsnLines.{line_of}
use Rattle.asg_text.specs.Texts.{reading_of}
use Rattle.asg_tokens.specs.laws.SpelledTables.{TablesAreInstances, square_spells_instance, rect_spells_instance}

-- what an asn file spells is an instance
abbrev pub NetworksAreInstances : Type 0
NetworksAreInstances = (text : List ℕ) (X : Problem) → reading_of_asn (map line_of (lines text)) ≡ Spells X → IsInstance X

pub spells_instance : TablesAreInstances → NetworksAreInstances → (format : Format) (bytes : List ℕ) (X : Problem) → reading_of format bytes ≡ Spells X → IsInstance X
unfolding reading_of
spells_instance law asn_law Square bytes X e = square_spells_instance law (tokens bytes) X e
spells_instance law asn_law Rect bytes X e = rect_spells_instance law (tokens bytes) X e
spells_instance law asn_law Asn bytes X e = asn_law bytes X e
