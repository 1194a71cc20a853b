-- What a reader of a part gives.
use Rattle.std.specs.Prelude.{◌≡◌, ℕ, List, ◌∷◌, ◌++◌, Option, Some, None, Result, Ok, Err, IfOk, OnErr}
use Rattle.std.specs.Fn.{Once, FnOnceReturnsAt}
use Rattle.std.specs.Borrow.{Bor}
use Rattle.asg_grammar.specs.declared.faults.Fault.{Fault}
use Rattle.asg_grammar.specs.declared.faults.Fault.TheVariants.{Refused}
use Rattle.asg_grammar.specs.declared.faults.Refusal.{Refusal}
use Rattle.asg_grammar.specs.Parts.{Part}

-- reading stops before `rest`: the lines read begin a text, hold no whole one, and no text goes on
-- with the next line
pub record Stops {A : Type 0} (part : Part A) (old rest : List (List ℕ)) : Type 0 where
  pub good : List (List ℕ)
  pub split : old ≡ good ++ rest
  pub begun : A
  pub valid : part.Has begun
  pub tail : List (List ℕ)
  pub begins : part.lines begun ≡ good ++ tail
  pub short : (a : A) → part.Has a → (after : List (List ℕ)) → part.lines a ++ after ≡ good → ⊥
  pub barred : (line : List ℕ) (more : List (List ℕ)) → rest ≡ line ∷ more → (a : A) → part.Has a
      → (after others : List (List ℕ)) → part.lines a ++ after ≡ good ++ line ∷ others → ⊥

-- from the lines `old` this value was read, and the lines `new` are left
pub record IsRead {A : Type 0} (part : Part A) (old new : List (List ℕ)) (a : A) : Type 0 where
  pub has : part.Has a
  pub split : old ≡ part.lines a ++ new

-- reading stops before the lines `rest`, unless memory runs out
pub record Halts {A : Type 0} (part : Part A) (old rest : List (List ℕ)) (fault : Fault)
    : Type 0 where
  pub refused : fault ≡ Refused → Stops part old rest

-- what a reader of a part gives: a value that it read, or before which line it stopped
abbrev pub Reads : {A : Type 0} → Part A → List (List ℕ) → List (List ℕ) → Result A Refusal → Type 0
Reads part old new (Ok a) = IsRead part old new a
Reads part old new (Err _) = Stops part old new

-- the same of a reader that takes memory
abbrev pub ReadsOrFails : {A : Type 0} → Part A → List (List ℕ) → List (List ℕ) → Result A Fault
    → Type 0
ReadsOrFails part old new (Ok a) = IsRead part old new a
ReadsOrFails part old new (Err fault) = Halts part old new fault

-- what is known of a function that is given the bytes of a text
abbrev pub Calls : Type 0 → Type 0 → Type 1
Calls F A = Once F (Bor (List ℕ) × Unit {0}) (Option A)

-- the next line has the front, the function gives this of what follows it, and the lines after it
-- are left
pub record TakesLine {F A : Type 0} (calls : Calls F A) (spelled : F)
    (front : List ℕ) (old new : List (List ℕ)) (a : A) : Type 0 where
  pub text : List ℕ
  pub given : FnOnceReturnsAt calls spelled text (Some a)
  pub next : old ≡ (front ++ text) ∷ new

-- all lines are left, and where the next one has the front, the function gives nothing of what
-- follows it
pub record LeavesLine {F A : Type 0} (calls : Calls F A) (spelled : F)
    (front : List ℕ) (old new : List (List ℕ)) : Type 0 where
  pub stays : new ≡ old
  pub given : (text : List ℕ) (more : List (List ℕ)) → old ≡ (front ++ text) ∷ more
      → FnOnceReturnsAt calls spelled text None

-- what the next line spells behind its front, as the function tells
pub record ReadsLine {F A : Type 0} (calls : Calls F A) (spelled : F)
    (front : List ℕ) (old new : List (List ℕ)) (result : Result A Refusal) : Type 0 where
  pub read : IfOk result (TakesLine calls spelled front old new)
  pub left : OnErr result (LeavesLine calls spelled front old new)
