-- Stretches of costs that lie in the same windows.
use Rattle.std.specs.Prelude.{◌≡◌, ℕ, ◌-◌, ◌/◌, ◌%◌, ◌<◌, ◌≤◌, ℤ, pos, ◌≤ℤ◌, ◌<ℤ◌, ◌+ℤ◌, ◌-ℤ◌, List, length, slice_index_or}
use Rattle.asg_bit_rows.specs.WordBits.{HasBit}
use Rattle.asg_proof.specs.declared.windows.Window.{Window}
use Rattle.asg_hall_windows.specs.declared.spans.Span.{Span}
use Rattle.asg_hall_windows.specs.declared.stretches.Stretch.{Stretch}

-- the cost lies in the window
abbrev pub LiesInWindow : ℤ → Window → Type 0
LiesInWindow a window = (window.lo ≤ℤ a) × (a ≤ℤ window.hi)

-- the cost lies in the stretch
abbrev pub LiesInStretch : ℤ → Stretch → Type 0
LiesInStretch a stretch = (stretch.least ≤ℤ a) × (a ≤ℤ stretch.most)

-- the window holds as many costs as the spread from each cost of the stretch on
abbrev pub IsHeldBy : ℤ → Stretch → Window → Type 0
IsHeldBy spread stretch window =
    (window.lo ≤ℤ stretch.least) × (((stretch.most +ℤ spread) -ℤ pos 1) ≤ℤ window.hi)

-- the window at the place, if there is one, begins above all costs of the stretch
abbrev pub BeginsAfter : List Window → ℕ → Stretch → Type 0
BeginsAfter windows place stretch = (d : Window) → place < length windows →
    stretch.most <ℤ (slice_index_or windows place d).lo

-- the window before the place, if there is one, ends below all costs of the stretch
abbrev pub EndsBefore : List Window → ℕ → Stretch → Type 0
EndsBefore windows place stretch = (d : Window) → 0 < place →
    (slice_index_or windows (place - 1) d).hi <ℤ stretch.least

-- these are the words that hold the windows from one on and before another, and the bits of these
-- windows in the first and in the last word
pub record HasWords (span : Span) (from to : ℕ) : Type 0 where
  pub first : span.first ≡ from / 64
  pub last : span.last ≡ (to - 1) / 64
  pub low : (w : ℕ) → from ≤ w → w < to → w / 64 ≡ from / 64 → HasBit span.low (w % 64)
  pub high : (w : ℕ) → w < to → w / 64 ≡ (to - 1) / 64 → HasBit span.high (w % 64)

-- the costs of the stretch are held by the last of its windows, and lie in no other windows than
-- these
pub record IsStretch (windows : List Window) (spread : ℤ) (stretch : Stretch) : Type 0 where
  pub some : stretch.from < stretch.to
  pub within : stretch.to ≤ length windows
  pub held : (d : Window) → IsHeldBy spread stretch (slice_index_or windows (stretch.to - 1) d)
  pub alone : (w : ℕ) (d : Window) (a : ℤ) → w < length windows → LiesInStretch a stretch
      → LiesInWindow a (slice_index_or windows w d) → (stretch.from ≤ w) × (w < stretch.to)
  pub words : HasWords stretch.span stretch.from stretch.to

-- the stretch has a window, and so many words hold its windows, as its span says
pub record FitsIn (width : ℕ) (stretch : Stretch) : Type 0 where
  pub some : stretch.from < stretch.to
  pub within : (stretch.to - 1) / 64 < width
  pub words : HasWords stretch.span stretch.from stretch.to

-- there is a stretch at the place, and the cost lies in it
pub record IsIn (stretches : List Stretch) (place : ℕ) (a : ℤ) : Type 0 where
  pub within : place < length stretches
  pub inside : (d : Stretch) → LiesInStretch a (slice_index_or stretches place d)
