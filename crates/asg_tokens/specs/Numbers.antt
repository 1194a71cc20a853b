-- The numbers of input files.
use Rattle.std.specs.Prelude.{ℕ, ℤ, pos, neg_ℤ, ◌&&◌, nat_lt, nat_le, if◌then◌else◌, List, length, drop, Option, Some, None, option_and_then, unsigned_abs}
use Rattle.std.specs.Option.{option_map}
use Rattle.std.specs.List.{list_all}
use Rattle.std.specs.Char.{is_ascii_digit}
use Rattle.asg_model.specs.Limits.{most_cost}
use Rattle.std.specs.Str.Parse.{digits_value, starts_with_minus}

-- the number of one or more decimal digits, however many they are; zeros may lead
unfoldable pub number_of : List ℕ → Option ℕ
number_of token =
    if nat_lt 0 (length token) && list_all is_ascii_digit token
    then Some (digits_value 10 token)
    else None

-- the integer of a minus sign or none, and then one or more decimal digits
unfoldable pub integer_of : List ℕ → Option ℤ
integer_of token =
    if starts_with_minus token
    then option_map (λ n. neg_ℤ (pos n)) (number_of (drop 1 token))
    else option_map pos (number_of token)

-- the size or the id of one or more decimal digits: a number of at most 4,294,967,295
unfoldable pub size_of : List ℕ → Option ℕ
size_of token =
    option_and_then (λ size. if nat_le size 4294967295 then Some size else None) (number_of token)

-- an integer, where it lies in the range of costs
abbrev pub integer_in_range : ℤ → Option ℤ
integer_in_range a = if nat_le (unsigned_abs a) most_cost then Some a else None
