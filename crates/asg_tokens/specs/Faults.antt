-- The faults of input files.
use Rattle.std.specs.Prelude.{ℕ, Bool, if◌then◌else◌, List, [], ◌∷◌, Option, Some, None}
use Rattle.asg_tokens.specs.declared.refusals.TextRefusal.{TextRefusal}
use Rattle.asg_tokens.specs.declared.refusals.TextRefusal.TheVariants as refusals

-- what is wrong with an input file; lines and tokens count from 1
pub data Fault : Type 0 where
  -- an asn file has no problem line
  NoProblemLine : Fault
  -- a second problem line
  SecondProblemLine : (line : ℕ) → Fault
  -- a line of no form, or one that stands before the problem line
  BadLine : (line : ℕ) → Fault
  -- a node line of another form, out of range, or of a node that an arc goes to
  BadNode : (line : ℕ) → Fault
  -- an arc line of another form, out of range, or not from a source to another node
  BadArc : (line : ℕ) → Fault
  -- a cost below -10^9 or above 10^9, at a line of an asn file, else at a token
  CostRange : (place : ℕ) → Fault
  -- an arc that differs in its cost from an earlier one
  ArcTwice : (line : ℕ) → Fault
  -- another number of arc lines than stated
  ArcCount : (stated found : ℕ) → Fault
  -- more rows or columns than an instance may have
  TooLarge : (rows columns : ℕ) → Fault
  -- no row
  NoRows : Fault
  -- another number of tokens than expected
  TokenCount : (expected found : ℕ) → Fault
  -- a token of no form
  BadToken : (place : ℕ) → Fault

-- the number of a fault, and the numbers that are told with it
abbrev pub refusal_numbers : Fault → List ℕ
refusal_numbers NoProblemLine = 1 ∷ []
refusal_numbers (SecondProblemLine line) = 2 ∷ line ∷ []
refusal_numbers (BadLine line) = 3 ∷ line ∷ []
refusal_numbers (BadNode line) = 4 ∷ line ∷ []
refusal_numbers (BadArc line) = 5 ∷ line ∷ []
refusal_numbers (CostRange place) = 6 ∷ place ∷ []
refusal_numbers (ArcTwice line) = 7 ∷ line ∷ []
refusal_numbers (ArcCount stated found) = 8 ∷ stated ∷ found ∷ []
refusal_numbers (TooLarge rows columns) = 9 ∷ rows ∷ columns ∷ []
refusal_numbers NoRows = 10 ∷ []
refusal_numbers (TokenCount expected found) = 11 ∷ expected ∷ found ∷ []
refusal_numbers (BadToken place) = 12 ∷ place ∷ []

-- the fault for which a text is refused; want of memory is none
abbrev pub fault_of : TextRefusal → Option Fault
fault_of refusals.NoProblemLine = Some NoProblemLine
fault_of (refusals.SecondProblemLine line) = Some (SecondProblemLine line)
fault_of (refusals.BadLine line) = Some (BadLine line)
fault_of (refusals.BadNode line) = Some (BadNode line)
fault_of (refusals.BadArc line) = Some (BadArc line)
fault_of (refusals.CostRange place) = Some (CostRange place)
fault_of (refusals.ArcTwice line) = Some (ArcTwice line)
fault_of (refusals.ArcCount stated found) = Some (ArcCount stated found)
fault_of (refusals.TooLarge rows columns) = Some (TooLarge rows columns)
fault_of refusals.NoRows = Some NoRows
fault_of (refusals.TokenCount expected found) = Some (TokenCount expected found)
fault_of (refusals.BadToken place) = Some (BadToken place)
fault_of refusals.NoMemory = None

-- a fault where a test holds
abbrev pub fault_where : Bool → Fault → List Fault
fault_where test fault = if test then fault ∷ [] else []
