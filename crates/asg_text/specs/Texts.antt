-- What input files spell.
use Rattle.std.specs.Prelude.{ℕ, List, map}
use Rattle.std.specs.Str.Lines.{lines}
use Rattle.asg_text.specs.declared.formats.Format.{Format}
use Rattle.asg_text.specs.declared.formats.Format.TheVariants.{Asn, Square, Rect}
use Rattle.asg_tokens.specs.Pieces.{tokens}
use Rattle.asg_tokens.specs.Readings.{Reading}
use Rattle.asg_tokens.specs.Tables.{reading_of_square, reading_of_rect}
use Rattle.asg_networks.specs.AsnLines.{line_of}
use Rattle.asg_networks.specs.AsnArcs.{reading_of_asn}

-- the reading of a file of this format: by its tokens, or by what each of its lines says
unfoldable pub reading_of : Format → List ℕ → Reading
reading_of Square text = reading_of_square (tokens text)
reading_of Rect text = reading_of_rect (tokens text)
reading_of Asn text = reading_of_asn (map line_of (lines text))
