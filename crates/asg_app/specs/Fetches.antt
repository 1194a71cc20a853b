-- What a shelf gives of the files of a request, which are fetched one after the other.
use Rattle.std.specs.Prelude.{◌≡◌, ◌≢◌, ◌<◌, ◌≤◌, ◌⊎◌, ℕ, List, [], ◌∷◌, ◌++◌, length, take}
use Rattle.std.specs.Prelude.{slice_get, Option, Some, IfSome, Err}
use Rattle.asg_model.specs.Limits.{longest_file}
use Rattle.asg_io.specs.Shelf.{Rose, asked_after}
use Rattle.asg_io.specs.declared.shelf.FetchFault.{FetchFault}
use Rattle.asg_io.specs.declared.shelf.FetchFault.TheVariants.{Failed, TooLong, NoMemory}
use Rattle.asg_answers.specs.declared.status.Status.{Status}
use Rattle.asg_answers.specs.declared.status.Status.TheVariants as statuses
use Rattle.asg_promises.specs.Sources.{MayHold}

-- the names asked now are those asked before, and then a prefix of these
pub record AsksOf (before now names : List (List ℕ)) : Type 0 where
  pub count : ℕ
  pub asked : now ≡ before ++ take count names

-- a fetch of a name gave these bytes: `before` and `after` are the states of the shelf
pub record Gives {F : Type 0} (told : F → List ℕ → Option (List ℕ)) (asked : F → List (List ℕ))
    (faults : F → ℕ) (name bytes : List ℕ) (before after : F) : Type 0 where
  pub contents : MayHold (told before) name bytes
  pub within : length bytes ≤ longest_file
  pub kept : told after ≡ told before
  pub asks : asked after ≡ asked before ++ name ∷ []
  pub never_falls : faults before ≤ faults after

-- the names were fetched in turn, and each fetch gave contents
abbrev pub AreGiven : {F : Type 0} → (F → List ℕ → Option (List ℕ)) → (F → List (List ℕ)) → (F → ℕ)
    → List (List ℕ) → List (List ℕ) → F → F → Type 0
AreGiven told asked faults [] [] before after = after ≡ before
AreGiven {F = F} told asked faults (name ∷ names) (bytes ∷ contents) before after =
    (next : F) × Gives told asked faults name bytes before next
    × AreGiven told asked faults names contents next after
AreGiven told asked faults _ _ before after = ⊥

-- a fetch of a name gave nothing, by this fault
pub record Fails {F : Type 0} (told : F → List ℕ → Option (List ℕ)) (asked : F → List (List ℕ))
    (faults : F → ℕ) (name : List ℕ) (fault : FetchFault) (before after : F) : Type 0 where
  pub kept : told after ≡ told before
  pub asks : asked after ≡ asked_after {T = Unit {0}} (asked before) name (Err fault)
  pub failed : fault ≡ Failed → Rose (faults before) (faults after)
  pub too_long : fault ≡ TooLong → IfSome (told before name) (λ held. longest_file < length held)

-- the names were fetched in turn up to the first that wasn't given, by this fault, which was the
-- last to be fetched; memory may be wanting also where no fetch failed
pub record StopsAt {F : Type 0} (told : F → List ℕ → Option (List ℕ)) (asked : F → List (List ℕ))
    (faults : F → ℕ) (names : List (List ℕ)) (fault : FetchFault) (before after : F) : Type 0 where
  pub count : ℕ
  pub contents : List (List ℕ)
  pub last : F
  pub given : AreGiven told asked faults (take count names) contents before last
  pub name : List ℕ
  pub next : (slice_get names count ≡ Some name) ⊎ (fault ≡ NoMemory)
  pub fails : Fails told asked faults name fault last after

-- how a run ends whose file wasn't given
abbrev pub status_of : FetchFault → Status
status_of Failed = statuses.ReadFault
status_of TooLong = statuses.TooLong
status_of NoMemory = statuses.NoMemory

-- each name is asked only after the ones before it were given: all of them were, or the fetch of
-- the last one that was asked decided how the run ended
pub data AsksInTurn {F : Type 0} (told : F → List ℕ → Option (List ℕ)) (asked : F → List (List ℕ))
    (faults : F → ℕ) (before after : F) (names : List (List ℕ)) (status : Status) : Type 0 where
  Given : (contents : List (List ℕ)) → AreGiven told asked faults names contents before after
      → status ≢ statuses.ReadFault → status ≢ statuses.TooLong
      → AsksInTurn told asked faults before after names status
  Stopped : (fault : FetchFault) → StopsAt told asked faults names fault before after
      → status ≡ status_of fault → AsksInTurn told asked faults before after names status
