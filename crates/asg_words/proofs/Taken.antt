-- The words as the command takes or refuses them.
use Rattle.asg_words.proofs.Common.{◌≡◌, true, false, List, [], ◌∷◌, IfOk, Some, None, Ok, Err, Option, Result, IsErrOf, refl, arith, nat_tests, Answers, request_found, Usage, NoMemory, found_in, fault_of, is_simple_and_free, IsAmong, Kinds, matches_of, is_simple, Row, Text, is_empty}
use Rattle.clap.specs.declared.error.kind.ErrorKind.{ErrorKind}
use Rattle.clap.proofs.OnLiterals.{clap_on_literals}
use Rattle.asg_words.specs.declared.requests.WordsRefusal.{WordsRefusal}
use Rattle.asg_words.specs.CommandLine.{command_line}
use Rattle.asg_words.specs.Requests.{request_of}

pub is_simple_line : is_simple command_line ≡ true
unfolding command_line clap_on_literals
is_simple_line = refl

pub is_free_line : is_simple_and_free command_line ≡ true
unfolding command_line clap_on_literals
is_free_line = refl

-- words that the command takes make the request of what it finds
pub request_of-taken : (words : List Text) (rows : List Row) → fault_of command_line words ≡ [] → rows ≡ matches_of command_line words
    → request_of words ≡ request_found (found_in rows)
unfolding request_of
request_of-taken words rows none same = rw (none, same) refl

is_empty-cons : (k : ErrorKind) (ks : Kinds) → is_empty (k ∷ ks) ≡ false
is_empty-cons k ks = grind (arith, nat_tests)

-- words that the command refuses make none
pub request_of-refused : (words : List Text) (kind : ErrorKind) → IsAmong kind (fault_of command_line words) → request_of words ≡ None
unfolding request_of
request_of-refused words kind among = go (fault_of command_line words) refl among
  where
    go : (kinds : Kinds) → fault_of command_line words ≡ kinds → IsAmong kind kinds → request_of words ≡ None
    go [] same among = absurd among
    go (k ∷ ks) same among = rw (same, is_empty-cons k ks) refl

-- what is due is answered, and `Usage` where nothing is
pub answer_is_due : {T : Type 0} (due : Option T) (answer : Result T WordsRefusal) → Answers due answer → IfOk answer (λ x. due ≡ Some x)
answer_is_due due (Ok x) is = is
answer_is_due due (Err Usage) is = tt
answer_is_due due (Err NoMemory) is = tt

pub usage_is_due : {T : Type 0} (due : Option T) (answer : Result T WordsRefusal) → Answers due answer → IsErrOf answer Usage → due ≡ None
usage_is_due due (Ok x) is bad = cc
usage_is_due due (Err Usage) is same = is
usage_is_due due (Err NoMemory) is bad = cc
