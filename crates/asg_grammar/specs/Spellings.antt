-- How values are spelled within a line, and what a reader of a spelling gives.
use Rattle.std.specs.Prelude.{◌≡◌, ◌≢◌, ℕ, ℤ, ◌<◌, ◌^◌, List, ◌∷◌, ◌++◌, Option, Some, None, Result, Ok, Err, length, All, slice_index, FitsSigned}
use Rattle.std.specs.Int.{w128}
use Rattle.std.specs.List.{flat_map}
use Rattle.std.specs.Fmt.{decimal, signed_decimal}
use Rattle.asg_grammar.specs.declared.faults.Fault.{Fault}
use Rattle.asg_grammar.specs.declared.faults.Fault.TheVariants.{Refused, NoMemory}
use Rattle.asg_grammar.specs.Lines.{IsCutAt}
use Rattle.asg_grammar.specs.NumberLists.{IsNumberList}

-- the bytes that spell a value, and which values are spelled
pub record Spelling (A : Type 0) : Type 1 where
  pub bytes : A → List ℕ
  pub Has : A → Type 0

-- the same behind other bytes
abbrev pub behind : {A : Type 0} → List ℕ → Spelling A → Spelling A
behind front spelling = record { bytes = λ a. front ++ spelling.bytes a; Has = spelling.Has }

-- ---- numbers

-- a number of 32 bits
abbrev pub number_spelling : Spelling ℕ
number_spelling = record { bytes = decimal; Has = λ n. n < 2 ^ 32 }

-- a number of 32 bits that isn't 0
abbrev pub positive_spelling : Spelling ℕ
positive_spelling = record { bytes = decimal; Has = λ n. (0 < n) × (n < 2 ^ 32) }

-- a number of 64 bits
abbrev pub long_spelling : Spelling ℕ
long_spelling = record { bytes = decimal; Has = λ n. n < 2 ^ 64 }

-- a number of 128 bits
abbrev pub wide_spelling : Spelling ℕ
wide_spelling = record { bytes = decimal; Has = λ n. n < 2 ^ 128 }

-- a signed number of 128 bits
abbrev pub signed_spelling : Spelling ℤ
signed_spelling = record { bytes = signed_decimal; Has = FitsSigned w128 }

-- two numbers with a space between them
abbrev pub pair_text : ℕ × ℕ → List ℕ
pair_text pair = decimal pair.0 ++ 32 ∷ decimal pair.1

-- two numbers of 32 bits
abbrev pub IsPair : ℕ × ℕ → Type 0
IsPair pair = (pair.0 < 2 ^ 32) × (pair.1 < 2 ^ 32)

abbrev pub pair_spelling : Spelling (ℕ × ℕ)
pair_spelling = record { bytes = pair_text; Has = IsPair }

-- two values with a byte between them
abbrev pub joined : {A B : Type 0} → ℕ → Spelling A → Spelling B → Spelling (A × B)
joined at front back = record {
  bytes = λ both. front.bytes both.0 ++ at ∷ back.bytes both.1;
  Has = λ both. front.Has both.0 × back.Has both.1;
}

-- two signed numbers of 128 bits with a colon between them
abbrev pub signed_pair_spelling : Spelling (ℤ × ℤ)
signed_pair_spelling = joined 58 signed_spelling signed_spelling

-- a number of 64 bits and one of 128 bits with a colon between them
abbrev pub graded_spelling : Spelling (ℕ × ℕ)
graded_spelling = joined 58 long_spelling wide_spelling

-- two numbers of 64 bits with a colon between them
abbrev pub long_pair_spelling : Spelling (ℕ × ℕ)
long_pair_spelling = joined 58 long_spelling long_spelling

-- there is a value, and each is spelled
pub record IsListOf {A : Type 0} (Has : A → Type 0) (values : List A) : Type 0 where
  pub some : 0 < length values
  pub each : All Has values

-- values, each after a space: at least one
abbrev pub listed : {A : Type 0} → Spelling A → Spelling (List A)
listed spelling = record {
  bytes = λ values. flat_map (λ a. 32 ∷ spelling.bytes a) values;
  Has = IsListOf spelling.Has;
}

-- numbers, each after a space
abbrev pub spaced : List ℕ → List ℕ
spaced numbers = flat_map (λ number. 32 ∷ decimal number) numbers

abbrev pub list_spelling : Spelling (List ℕ)
list_spelling = record { bytes = spaced; Has = IsNumberList }

-- ---- what readers give

-- the bytes spell the value read, or spell no value
abbrev pub Spells : {A : Type 0} → Spelling A → List ℕ → Option A → Type 0
Spells spelling bytes None = (a : _) → spelling.Has a → bytes ≡ spelling.bytes a → ⊥
Spells spelling bytes (Some a) = spelling.Has a × (bytes ≡ spelling.bytes a)

-- the same of a reader that takes memory
abbrev pub SpellsOrFails : {A : Type 0} → Spelling A → List ℕ → Result A Fault → Type 0
SpellsOrFails spelling bytes (Ok a) = spelling.Has a × (bytes ≡ spelling.bytes a)
SpellsOrFails spelling bytes (Err Refused) = (a : _) → spelling.Has a → bytes ≡ spelling.bytes a → ⊥
SpellsOrFails spelling bytes (Err NoMemory) = Unit {0}

-- there is a byte, and no zero before others
pub record IsPlain (word : List ℕ) : Type 0 where
  pub some : 0 < length word
  pub no_zero : 1 < length word → slice_index word 0 ≢ 48

-- the bytes are a space, the number and what follows, which is nothing or begins with a space
pub record ListsFirst (bytes : List ℕ) (number : ℕ) (rest : List ℕ) : Type 0 where
  pub fits : number < 2 ^ 32
  pub whole : bytes ≡ 32 ∷ (decimal number ++ rest)
  pub cut : IsCutAt 32 rest

-- the bytes are a space, the text of the value and what follows, which is nothing or begins with a
-- space
pub record ListsNext {A : Type 0} (spelling : Spelling A) (bytes : List ℕ) (value : A)
    (rest : List ℕ) : Type 0 where
  pub has : spelling.Has value
  pub whole : bytes ≡ 32 ∷ (spelling.bytes value ++ rest)
  pub cut : IsCutAt 32 rest
