-- What a shelf's meanings have to do with one another: its faults are counted, and the names asked
-- of it are listed.
use Rattle.std.specs.Prelude.{◌≡◌, ◌⊎◌, ◌<◌, ◌≤◌, ◌+◌, ◌-◌, ◌^◌, min, ℕ, Bool, IsTrue, IsFalse, ⊤}
use Rattle.std.specs.Prelude.{List, [], ◌∷◌, ◌++◌, Option, Some, None, Result, Ok, Err, Vec, length}
use Rattle.std.specs.declared.alloc.Global.{Global}
use Rattle.asg_io.specs.declared.shelf.FetchFault.{FetchFault}
use Rattle.asg_io.specs.declared.shelf.FetchFault.TheVariants.{NoMemory, Failed, TooLong}

-- where a count of faults stands still
abbrev pub most_faults : ℕ
most_faults = 2 ^ 64 - 1

-- the count of faults rose: it is greater than before, or it stands at its top
abbrev pub Rose : ℕ → ℕ → Type 0
Rose before now = (before < now) ⊎ (now ≡ most_faults)

-- the count after one more fault
abbrev pub risen : ℕ → ℕ
risen faults = min (faults + 1) most_faults

-- the names asked after a fetch: one more, unless memory was wanting
abbrev pub asked_after : {T : Type 0} → List (List ℕ) → List ℕ → Result T FetchFault → List (List ℕ)
asked_after names name (Ok _) = names ++ name ∷ []
asked_after names name (Err Failed) = names ++ name ∷ []
asked_after names name (Err TooLong) = names ++ name ∷ []
asked_after names name (Err NoMemory) = names

-- the count after a fetch: one more fault where it failed
abbrev pub faults_after : {T : Type 0} → ℕ → Result T FetchFault → ℕ
faults_after faults (Ok _) = faults
faults_after faults (Err Failed) = risen faults
faults_after faults (Err TooLong) = faults
faults_after faults (Err NoMemory) = faults

-- an answer `Failed` comes exactly where the fetch is to fail, unless memory was wanting
abbrev pub FailsWhere : {T : Type 0} → Bool → Result T FetchFault → Type 0
FailsWhere failing (Ok _) = IsFalse failing
FailsWhere failing (Err Failed) = IsTrue failing
FailsWhere failing (Err TooLong) = IsFalse failing
FailsWhere failing (Err NoMemory) = ⊤

-- the answer for the contents of a name, where they are held: the contents, or that they are longer
-- than the limit
abbrev pub AnswersFor : Option (List ℕ) → ℕ → Result (Vec ℕ Global) FetchFault → Type 0
AnswersFor (Some held) limit (Ok bytes) = (bytes.items ≡ held) × (length held ≤ limit)
AnswersFor (Some held) limit (Err TooLong) = limit < length held
AnswersFor None limit (Ok bytes) = ⊥
AnswersFor None limit (Err TooLong) = ⊥
AnswersFor _ limit (Err Failed) = ⊤
AnswersFor _ limit (Err NoMemory) = ⊤
