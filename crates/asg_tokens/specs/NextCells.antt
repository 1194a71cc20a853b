-- What is read of a text up to its next cell: words of the reader of cells, on which `reading_of`
-- doesn't stand.
use Rattle.std.specs.Prelude.{◌≡◌, ℕ, ℤ, pos, ◌<◌, ◌≤◌, ◌==◌, true, false, List, [], ◌∷◌, ◌++◌, length, Option, Some, All, IfSome, unsigned_abs, option_and_then}
use Rattle.std.specs.Option.{option_map}
use Rattle.std.specs.List.{list_all}
use Rattle.std.specs.Char.{is_ascii_digit}
use Rattle.std.specs.Str.Parse.{digits_value}
use Rattle.asg_model.specs.Limits.{most_cost}
use Rattle.asg_model.specs.declared.parts.Cost.{Cost}
use Rattle.asg_tokens.specs.declared.refusals.TextRefusal.{TextRefusal}
use Rattle.asg_tokens.specs.Numbers.{integer_of}
use Rattle.asg_tokens.specs.Pieces.{tokens, is_space}
use Rattle.asg_tokens.specs.Faults.{Fault, fault_of}
use Rattle.asg_tokens.specs.Tables.{cell_of, token_faults}

-- a text begins with this integer, which is in range, and this is the text behind it
pub record IsShortInteger (text : List ℕ) (value : ℤ) (rest : List ℕ) : Type 0 where
  pub word : List ℕ
  pub cut : text ≡ word ++ rest
  pub no_space : All (λ byte. is_space byte ≡ false) word
  pub no_colon : All (λ byte. (byte == 58) ≡ false) word
  pub spells : integer_of word ≡ Some value
  pub in_range : unsigned_abs value ≤ most_cost

-- a text begins with decimal digits, which spell this amount, which is in range, and this is the
-- text behind them
pub record IsShortAmount (text : List ℕ) (amount : ℤ) (rest : List ℕ) : Type 0 where
  pub digits : List ℕ
  pub cut : text ≡ digits ++ rest
  pub some : 0 < length digits
  pub are_digits : list_all is_ascii_digit digits ≡ true
  pub is_amount : amount ≡ pos (digits_value 10 digits)
  pub in_range : digits_value 10 digits ≤ most_cost

-- a text begins with a separator, and this is the text behind it
pub record IsBehindSpace (text : List ℕ) (rest : List ℕ) : Type 0 where
  pub separator : ℕ
  pub cut : text ≡ separator ∷ rest
  pub separates : is_space separator ≡ true

-- the first token of a text is a cell without a fault at this place, of this cost, or absent, and
-- this is the text behind it
pub record IsCell (place : ℕ) (text : List ℕ) (cost : Option Cost) (rest : List ℕ) : Type 0 where
  pub token : List ℕ
  pub first : tokens text ≡ token ∷ tokens rest
  pub right : token_faults place token ≡ []
  pub is_cost : cost ≡ cell_of token

-- the first token of a text has this fault at this place
pub record HasFaultyCell (place : ℕ) (text : List ℕ) (fault : Fault) : Type 0 where
  pub token : List ℕ
  pub more : List (List ℕ)
  pub first : tokens text ≡ token ∷ more
  pub faulty : token_faults place token ≡ fault ∷ []

-- the first token of a text has the fault that is told
abbrev pub IsFaultyCell : ℕ → List ℕ → TextRefusal → Type 0
IsFaultyCell place text refusal = IfSome (fault_of refusal) (HasFaultyCell place text)

-- the cost of two parts, where both are there
abbrev pub cost_of_parts : Option ℤ → Option ℤ → Option Cost
cost_of_parts a b = option_and_then (λ a. option_map (λ b. record { a = a; b = b }) b) a
