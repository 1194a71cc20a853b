-- What a part of a run that only writes does to the sink.
use Rattle.std.specs.Prelude.{◌≡◌, ◌≢◌, ◌⊎◌, ℕ, Bool, IsTrue, List, Option}
use Rattle.asg_io.specs.Shelf.{Rose}
use Rattle.asg_io.specs.Sink.{Puts, PutsPrefix}
use Rattle.asg_answers.specs.declared.status.Status.{Status}
use Rattle.asg_answers.specs.declared.status.Status.TheVariants.{ReadFault, WriteFault, NoMemory}
use Rattle.asg_answers.specs.Statuses.{IsAnswer}

-- what a run wrote for which memory was wanting: nothing, or of a command that writes as it goes a
-- prefix of a text that is owed
abbrev pub WritesInPart : Bool → (Status → List ℕ → Type 0)
    → Option (List ℕ) → Option (List ℕ) → Type 0
WritesInPart is_streamed Owed before after =
    (after ≡ before)
    ⊎ (IsTrue is_streamed × (due : Status) × (text : List ℕ) × Owed due text
    × PutsPrefix before after text)

-- the text of a status that is owed was put, or after a fault of the sink a prefix of one that is
-- owed in part, as where memory is wanting of a command that writes as it goes
pub record Ends {K : Type 0} (written : K → Option (List ℕ)) (faults : K → ℕ) (before after : K)
    (is_streamed : Bool) (Owed InPart : Status → List ℕ → Type 0) (status : Status) : Type 0 where
  pub answered : IsAnswer status → (text : List ℕ) × Owed status text
      × Puts (written before) (written after) text
  pub write_fault : status ≡ WriteFault → (due : Status) × (text : List ℕ) × InPart due text
      × PutsPrefix (written before) (written after) text
  pub write_fault_cause : status ≡ WriteFault → Rose (faults before) (faults after)
  pub no_memory : status ≡ NoMemory
      → WritesInPart is_streamed InPart (written before) (written after)
  pub no_read_fault : status ≢ ReadFault
