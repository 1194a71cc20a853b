use Rattle.std.specs.Prelude.{ℤ, Bool, true, ◌&&◌, int_lt, int_le}
use Rattle.asg_model.specs.declared.bands.Band.{Band}
use Rattle.asg_model.specs.declared.bands.Band.TheVariants.{Whole, Under, Over, Between}

-- a cost lies in the band
abbrev pub in_band : Band → ℤ → Bool
in_band Whole a = true
in_band (Under bound) a = int_lt a bound
in_band (Over bound) a = int_lt bound a
in_band (Between least most) a = int_le least a && int_le a most
