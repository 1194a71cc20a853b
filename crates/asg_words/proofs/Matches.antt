-- What clap's readers give is what stands in the rows of the matches.
use Rattle.clap.proofs.WalkLemmas.{first_value-rows, raw_values-rows}

pub ruleset first_values = first_value-rows

pub ruleset all_values = raw_values-rows
