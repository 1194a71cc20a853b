-- Words of steps in short.
use Rattle.std.specs.Prelude.{◌≡◌, ℕ, ◌<◌, ◌%◌, ◌==◌, if◌then◌else◌, List, [], ◌∷◌, All, length, map, slice_index_or}
use Rattle.asg_order.specs.declared.words.Word.{Word}
use Rattle.asg_proof.specs.declared.step_words.ShortWord.{ShortWord}

-- the grade of a short word that tells the place of a long one, 2^32 - 1
abbrev pub far_grade : ℕ
far_grade = 4294967295

-- the word that a short one holds
abbrev pub whole_word : ShortWord → Word
whole_word short = record { grade = short.grade; amount = short.amount }

-- the word that a short one stands for: its own, or the long one at the place that it tells
abbrev pub told_word : List Word → ShortWord → Word
told_word long short =
    if short.grade == far_grade then slice_index_or long short.amount (whole_word short)
    else whole_word short

-- the words that short ones stand for
abbrev pub as_words : List ShortWord → List Word → List Word
as_words short long = map (told_word long) short

-- a short word that tells a place tells that of one of so many long ones
abbrev pub IsTold : ℕ → ShortWord → Type 0
IsTold count short = short.grade ≡ far_grade → short.amount < count

-- each does
abbrev pub AreTold : List ShortWord → List Word → Type 0
AreTold short long = All (IsTold (length long)) short

-- the short words of which a list has the numbers, of each the grade and then the amount
abbrev pub short_words : List ℕ → List ShortWord
short_words [] = []
short_words (_ ∷ []) = []
short_words (grade ∷ amount ∷ rest) = record { grade = grade; amount = amount } ∷ short_words rest

-- numbers of whole short words, of which each that tells a place tells that of a long one
pub record AreStepNumbers (numbers : List ℕ) (long : List Word) : Type 0 where
  pub even : length numbers % 2 ≡ 0
  pub told : AreTold (short_words numbers) long
