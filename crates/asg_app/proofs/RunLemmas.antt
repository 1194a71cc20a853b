-- How a run ends.
use Rattle.asg_app.proofs.Common.{◌≡◌, ℕ, ◌<◌, ◌⊎◌, List, [], ◌∷◌, length, take, IfSome, IsTrue, slice_get, Some, None, Option, refl, subst, inl, inr, arith, IsAnswer, Status, Done, Usage, Instance, Script, Document, No, ReadFault, WriteFault, NoMemory, TooLong, WritesInPart, StopsAt, status_of, Rose, FetchFault, longest_file, DueForAsked, DueForPart, Long, files_of, is_streamed, MayHoldAll, Request, Work, Make}
use Rattle.asg_app.proofs.Fetching.{AreLong, given_held, given_kept, long_all, stopped_rose}
use Rattle.asg_io.specs.declared.shelf.FetchFault.TheVariants as faults
use Rattle.asg_answers.specs.declared.status.Status.TheVariants as statuses

-- of no names no contents are too long
none_held : (told : List ℕ → Option (List ℕ)) (contents : List (List ℕ)) (place : ℕ) → MayHoldAll told [] contents → place < length contents → ⊥
none_held told [] place may there = omega arith
none_held told (bytes ∷ contents) place may there = may

-- a status that is due where no fault comes
pub answer_without_fault : (result status : Status) → (IsAnswer result → result ≡ status) → (result ≡ WriteFault → ⊥) → (result ≡ ReadFault → ⊥) → (result ≡ status) ⊎ (result ≡ NoMemory)
answer_without_fault Done status answer write read = inl (answer tt)
answer_without_fault statuses.Nothing status answer write read = inl (answer tt)
answer_without_fault Usage status answer write read = inl (answer tt)
answer_without_fault Instance status answer write read = inl (answer tt)
answer_without_fault Script status answer write read = inl (answer tt)
answer_without_fault Document status answer write read = inl (answer tt)
answer_without_fault No status answer write read = inl (answer tt)
answer_without_fault ReadFault status answer write read = absurd (read refl)
answer_without_fault WriteFault status answer write read = absurd (write refl)
answer_without_fault NoMemory status answer write read = inr refl
answer_without_fault TooLong status answer write read = inl (answer tt)

-- where a file is too long, that is due
pub due_too_long : {F : Type 0} (told : F → List ℕ → Option (List ℕ)) (asked : F → List (List ℕ)) (counts : F → ℕ) (asking : Option Request) (before after : F)
    → StopsAt told asked counts (files_of asking) faults.TooLong before after
    → (contents : List (List ℕ)) × MayHoldAll (told before) (files_of asking) contents × DueForAsked asking contents TooLong []
due_too_long told asked counts asking before after stop = by_request asking (long_all (told before) (files_of asking) stop.contents stop.count stop.name may (next stop.next) long)
  where
    kept : told stop.last ≡ told before
    kept = given_kept told asked counts (take stop.count (files_of asking)) stop.contents before stop.last stop.given

    may : MayHoldAll (told before) (take stop.count (files_of asking)) stop.contents
    may = given_held told asked counts (take stop.count (files_of asking)) stop.contents before stop.last stop.given

    next : (slice_get (files_of asking) stop.count ≡ Some stop.name) ⊎ (faults.TooLong ≡ faults.NoMemory) → slice_get (files_of asking) stop.count ≡ Some stop.name
    next (inl is) = is
    next (inr e) = cc

    long : IfSome (told before stop.name) (λ held. longest_file < length held)
    long = subst (λ tells. IfSome (tells stop.name) (λ held. longest_file < length held)) kept (stop.fails.too_long refl)

    by_request : (asking : Option Request) → AreLong (told before) (files_of asking)
        → (contents : List (List ℕ)) × MayHoldAll (told before) (files_of asking) contents × DueForAsked asking contents TooLong []
    by_request None are = absurd (none_held (told before) are.contents are.place are.may are.there)
    by_request (Some (Make seed side)) are = absurd (none_held (told before) are.contents are.place are.may are.there)
    by_request (Some (Work job)) are = (are.contents, are.may, Long are.place are.there are.long refl refl)

-- what is due of a run that was stopped
pub stopped_answer : {F : Type 0} (told : F → List ℕ → Option (List ℕ)) (asked : F → List (List ℕ)) (counts : F → ℕ) (asking : Option Request) (before after : F) (fault : FetchFault)
    → StopsAt told asked counts (files_of asking) fault before after → IsAnswer (status_of fault)
    → (contents : List (List ℕ)) × MayHoldAll (told before) (files_of asking) contents × DueForAsked asking contents (status_of fault) []
stopped_answer told asked counts asking before after faults.Failed stop answer = absurd answer
stopped_answer told asked counts asking before after faults.TooLong stop answer = due_too_long told asked counts asking before after stop
stopped_answer told asked counts asking before after faults.NoMemory stop answer = absurd answer

-- a fault of the shelf was counted
pub stopped_fault : {F : Type 0} (told : F → List ℕ → Option (List ℕ)) (asked : F → List (List ℕ)) (counts : F → ℕ) (names : List (List ℕ)) (before after : F) (fault : FetchFault)
    → StopsAt told asked counts names fault before after → status_of fault ≡ ReadFault → Rose (counts before) (counts after)
stopped_fault told asked counts names before after faults.Failed stop e = stopped_rose told asked counts names before after stop
stopped_fault told asked counts names before after faults.TooLong stop e = cc
stopped_fault told asked counts names before after faults.NoMemory stop e = cc

-- nor does it end with a fault of the sink
pub status_of_no_write : (fault : FetchFault) → status_of fault ≡ WriteFault → ⊥
status_of_no_write faults.Failed e = cc
status_of_no_write faults.TooLong e = cc
status_of_no_write faults.NoMemory e = cc

-- what a command that writes as it goes wrote, said of the words
pub written_in_part : (told : List ℕ → Option (List ℕ)) (asked asking : Option Request) (contents : List (List ℕ)) (before after : Option (List ℕ)) → asked ≡ asking → MayHoldAll told (files_of asked) contents
    → WritesInPart (is_streamed asked) (DueForPart asked contents) before after
    → WritesInPart (is_streamed asking) (λ status text. (held : List (List ℕ)) × MayHoldAll told (files_of asking) held × DueForPart asking held status text) before after
written_in_part told asked asking contents before after same may (inl nothing) = inl nothing
written_in_part told asked asking contents before after same may (inr (streamed, due, text, owed, puts)) =
    inr (
      subst (λ j. IsTrue (is_streamed j)) same streamed,
      due,
      text,
      (contents, subst (λ j. MayHoldAll told (files_of j) contents) same may, subst (λ j. DueForPart j contents due text) same owed),
      puts,
    )
