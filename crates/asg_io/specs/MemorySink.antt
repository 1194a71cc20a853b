-- A sink in memory: what was written, and which of its puts fail.
use Rattle.std.specs.Prelude.{◌==◌, ◌+◌, ◌-◌, ◌^◌, ◌||◌, ◌&&◌, min, ℕ, Bool, List, [], ◌∷◌, length}
use Rattle.std.specs.Prelude.{find, Option, is_some, option_map, unwrap_or, nat_lt}

-- the bytes written, the room for all of them, the number of puts so far, which puts fail and what
-- they then take at most, and the count of faults
pub record HeldBytes : Type 0 where
  pub written : List ℕ
  pub room : ℕ
  pub puts : ℕ
  pub fails : List (ℕ × ℕ)
  pub faults : ℕ

-- the room that is left
abbrev pub room_left : HeldBytes → ℕ
room_left sink = sink.room - length sink.written

-- where the number of puts stands still: no put of the list has so great a number
abbrev pub most_puts : ℕ
most_puts = 2 ^ 64 - 1

-- the number of the next put, of a piece that isn't empty
abbrev pub put_number : HeldBytes → ℕ
put_number sink = min (sink.puts + 1) most_puts

-- the number of puts after one of the piece: puts of nothing have no number
abbrev pub puts_after : HeldBytes → List ℕ → ℕ
puts_after sink [] = sink.puts
puts_after sink (_ ∷ _) = put_number sink

-- what the next put takes at most, where it is one of those that fail: the first pair with its
-- number says so
abbrev pub cut_of_put : HeldBytes → Option ℕ
cut_of_put sink =
    option_map (λ (fail : ℕ × ℕ). fail.1) (find (λ fail. fail.0 == put_number sink) sink.fails)

-- the next put fails: its piece isn't empty, and its number is one of those that do or it is longer
-- than the room that is left
abbrev pub is_failing_put : HeldBytes → List ℕ → Bool
is_failing_put sink piece = nat_lt 0 (length piece)
    && (is_some (cut_of_put sink) || nat_lt (room_left sink) (length piece))

-- how many bytes the next put takes: all that the room has a place for, and no more than its pair
-- says
abbrev pub taken_by_put : HeldBytes → List ℕ → ℕ
taken_by_put sink piece =
    min (min (length piece) (room_left sink)) (unwrap_or (cut_of_put sink) (length piece))
