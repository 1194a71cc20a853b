-- Files that are fetched in turn.
use Rattle.asg_app.proofs.Common.{◌≡◌, ℕ, zero, suc, ◌+◌, ◌<◌, ◌≤◌, ◌≢◌, ◌⊎◌, List, [], ◌∷◌, ◌++◌, length, get_or, take, replicate, IfSome, IfErr, slice_get, Some, None, Err, Option, Result, sym, refl, ap, ◌∙◌, subst, inl, inr, append_assoc, append-nil, arith, take_all, All-cons, All-nil, none-some, slice_get-get_or, slice_get_past, AreGiven, AsksOf, Fails, Gives, StopsAt, Rose, asked_after, FetchFault, longest_file, AreShort, MayHoldAll, content_at}
use Rattle.std.proofs.Math.ListN.{length-replicate}
use Rattle.asg_io.specs.declared.shelf.FetchFault.TheVariants.{Failed, TooLong, NoMemory}
use Rattle.asg_doc.specs.laws.Flows.{Rose-later}

-- one more name is taken
taken : (names : List (List ℕ)) (count : ℕ) (name : List ℕ) → slice_get names count ≡ Some name → take (count + 1) names ≡ take count names ++ name ∷ []
taken [] count name is = absurd (none-some name (sym (slice_get_past [] count (omega arith)) ∙ is))
taken (first ∷ names) zero name is = let same : first ≡ name = cc in ap (λ n. n ∷ []) same
taken (first ∷ names) (suc count) name is =
    let next : suc count + 1 ≡ suc (count + 1) = omega arith in
    ap (λ k. take k (first ∷ names)) next ∙ ap (λ rest. first ∷ rest) (taken names count name is)

module _ {F : Type 0} (told : F → List ℕ → Option (List ℕ)) (asked : F → List (List ℕ)) (faults : F → ℕ) where
  -- one more file is given
  pub given_more : (names contents : List (List ℕ)) (name bytes : List ℕ) (before middle after : F) → AreGiven told asked faults names contents before middle
      → Gives told asked faults name bytes middle after → AreGiven told asked faults (names ++ name ∷ []) (contents ++ bytes ∷ []) before after
  given_more [] [] name bytes before middle after start gives = (after, subst (λ state. Gives told asked faults name bytes state after) start gives, refl)
  given_more [] (first ∷ contents) name bytes before middle after start gives = absurd start
  given_more (first ∷ names) [] name bytes before middle after start gives = absurd start
  given_more (first ∷ names) (given ∷ contents) name bytes before middle after (next, one, rest) gives =
      (next, one, given_more names contents name bytes next middle after rest gives)

  -- the shelf keeps what it tells
  pub given_kept : (names contents : List (List ℕ)) (before after : F) → AreGiven told asked faults names contents before after → told after ≡ told before
  given_kept [] [] before after start = ap told start
  given_kept [] (first ∷ contents) before after start = absurd start
  given_kept (first ∷ names) [] before after start = absurd start
  given_kept (first ∷ names) (given ∷ contents) before after (next, one, rest) = given_kept names contents next after rest ∙ one.kept

  -- the contents may be held
  pub given_held : (names contents : List (List ℕ)) (before after : F) → AreGiven told asked faults names contents before after → MayHoldAll (told before) names contents
  given_held [] [] before after start = tt
  given_held [] (first ∷ contents) before after start = absurd start
  given_held (first ∷ names) [] before after start = absurd start
  given_held (first ∷ names) (given ∷ contents) before after (next, one, rest) =
      (one.contents, subst (λ tells. MayHoldAll tells names contents) one.kept (given_held names contents next after rest))

  -- and are short
  pub given_short : (names contents : List (List ℕ)) (before after : F) → AreGiven told asked faults names contents before after → AreShort contents
  given_short [] [] before after start = All-nil (λ bytes. length bytes ≤ longest_file)
  given_short [] (first ∷ contents) before after start = absurd start
  given_short (first ∷ names) [] before after start = absurd start
  given_short (first ∷ names) (given ∷ contents) before after (next, one, rest) =
      All-cons (λ bytes. length bytes ≤ longest_file) given contents one.within (given_short names contents next after rest)

  -- the names were asked
  pub given_asked : (names contents : List (List ℕ)) (before after : F) → AreGiven told asked faults names contents before after → asked after ≡ asked before ++ names
  given_asked [] [] before after start = ap asked start ∙ sym (append-nil (asked before))
  given_asked [] (first ∷ contents) before after start = absurd start
  given_asked (first ∷ names) [] before after start = absurd start
  given_asked (first ∷ names) (given ∷ contents) before after (next, one, rest) =
      given_asked names contents next after rest ∙ ap (λ list. list ++ names) one.asks ∙ append_assoc (asked before) (first ∷ []) names

  -- the count of faults never falls
  pub given_faults : (names contents : List (List ℕ)) (before after : F) → AreGiven told asked faults names contents before after → faults before ≤ faults after
  given_faults [] [] before after start = omega (arith, ap faults start)
  given_faults [] (first ∷ contents) before after start = absurd start
  given_faults (first ∷ names) [] before after start = absurd start
  given_faults (first ∷ names) (given ∷ contents) before after (next, one, rest) = omega (arith, one.never_falls, given_faults names contents next after rest)

  one_more : (names : List (List ℕ)) (fault : FetchFault) (before after : F) (stop : StopsAt told asked faults names fault before after)
      → asked after ≡ asked stop.last ++ stop.name ∷ [] → fault ≢ NoMemory → AsksOf (asked before) (asked after) names
  one_more names fault before after stop is other = record {
    count = stop.count + 1;
    asked = is
        ∙ ap (λ list. list ++ stop.name ∷ []) (given_asked (take stop.count names) stop.contents before stop.last stop.given)
        ∙ append_assoc (asked before) (take stop.count names) (stop.name ∷ [])
        ∙ ap (λ list. asked before ++ list) (sym (taken names stop.count stop.name (next_of stop.next other)));
  }
    where
      next_of : (slice_get names stop.count ≡ Some stop.name) ⊎ (fault ≡ NoMemory) → fault ≢ NoMemory → slice_get names stop.count ≡ Some stop.name
      next_of (inl next) apart = next
      next_of (inr e) apart = absurd (apart e)

  -- where a fetch stopped the run, the names asked are the first ones
  pub stopped_asked : (names : List (List ℕ)) (fault : FetchFault) (before after : F) → StopsAt told asked faults names fault before after → AsksOf (asked before) (asked after) names
  stopped_asked names Failed before after stop = one_more names Failed before after stop stop.fails.asks (λ e. cc)
  stopped_asked names TooLong before after stop = one_more names TooLong before after stop stop.fails.asks (λ e. cc)
  stopped_asked names NoMemory before after stop = record {
    count = stop.count;
    asked = stop.fails.asks ∙ given_asked (take stop.count names) stop.contents before stop.last stop.given;
  }

  -- the fetch of the name at a place gave nothing
  pub stop_at : (names contents : List (List ℕ)) (place : ℕ) (before last after : F) (fault : FetchFault) → AreGiven told asked faults (take place names) contents before last → place < length names
      → Fails told asked faults (get_or names place []) fault last after → StopsAt told asked faults names fault before after
  stop_at names contents place before last after fault given there fails = record {
    count = place;
    contents = contents;
    last = last;
    given = given;
    name = get_or names place [];
    next = inl (slice_get-get_or names place [] there);
    fails = fails;
  }

  -- memory was wanting after some files were given
  pub stop_short : (names contents : List (List ℕ)) (count : ℕ) (before after : F) → AreGiven told asked faults (take count names) contents before after
      → StopsAt told asked faults names NoMemory before after
  stop_short names contents count before after given = record {
    count = count;
    contents = contents;
    last = after;
    given = given;
    name = [];
    next = inr refl;
    fails = record { kept = refl; asks = refl; failed = λ e. cc; too_long = λ e. cc };
  }

  -- where the fetch failed, a fault was counted
  pub stopped_rose : (names : List (List ℕ)) (before after : F) → StopsAt told asked faults names Failed before after → Rose (faults before) (faults after)
  stopped_rose names before after stop =
      Rose-later (faults before) (faults stop.last) (faults after) (given_faults (take stop.count names) stop.contents before stop.last stop.given) (stop.fails.failed refl)

-- a fault leaves the names asked, whatever was to be given
pub asked_same : (T U : Type 0) (names : List (List ℕ)) (name : List ℕ) (fault : FetchFault) → asked_after {T = T} names name (Err fault) ≡ asked_after {T = U} names name (Err fault)
asked_same T U names name Failed = refl
asked_same T U names name TooLong = refl
asked_same T U names name NoMemory = refl

-- all the names are a prefix of the names
pub all_asked : (before now names : List (List ℕ)) → now ≡ before ++ names → AsksOf before now names
all_asked before now names is = record { count = length names; asked = is ∙ ap (λ list. before ++ list) (sym (take_all (length names) names (omega arith))) }

-- a list longer than a number
longer : (n : ℕ) → (bytes : List ℕ) × (n < length bytes)
longer n = (replicate (suc n) 0, omega (arith, length-replicate {A = ℕ} (suc n) 0))

-- a file may have contents, and where they are told to be too long, contents that are
held_bytes : (found : Option (List ℕ)) → (bytes : List ℕ) × IfSome found (λ held. bytes ≡ held)
held_bytes None = ([], tt)
held_bytes (Some held) = (held, refl)

long_bytes : (found : Option (List ℕ)) → IfSome found (λ held. longest_file < length held) → (bytes : List ℕ) × IfSome found (λ held. bytes ≡ held) × (longest_file < length bytes)
long_bytes None long = let found = longer longest_file in (found.0, tt, found.1)
long_bytes (Some held) long = (held, refl, long)

-- so may files
held_all : (told : List ℕ → Option (List ℕ)) (names : List (List ℕ)) → (contents : List (List ℕ)) × MayHoldAll told names contents
held_all told [] = ([], tt)
held_all told (name ∷ names) = let first = held_bytes (told name) in let rest = held_all told names in (first.0 ∷ rest.0, (first.1, rest.1))

-- contents of files, the one at a place too long
pub record AreLong (told : List ℕ → Option (List ℕ)) (names : List (List ℕ)) : Type 0 where
  pub contents : List (List ℕ)
  pub may : MayHoldAll told names contents
  pub place : ℕ
  pub there : place < length contents
  pub long : longest_file < length (content_at contents place)

pub long_all : (told : List ℕ → Option (List ℕ)) (names contents : List (List ℕ)) (count : ℕ) (name : List ℕ) → MayHoldAll told (take count names) contents → slice_get names count ≡ Some name
    → IfSome (told name) (λ held. longest_file < length held) → AreLong told names
long_all told [] contents count name may next long = absurd (none-some name (sym (slice_get_past [] count (omega arith)) ∙ next))
long_all told (first ∷ names) contents zero name may next long =
    let same : first ≡ name = cc in
    let found = long_bytes (told first) (subst (λ n. IfSome (told n) (λ held. longest_file < length held)) (sym same) long) in
    let rest = held_all told names in
    record { contents = found.0 ∷ rest.0; may = (found.1, rest.1); place = 0; there = omega arith; long = found.2 }
long_all told (first ∷ names) [] (suc count) name may next long = absurd may
long_all told (first ∷ names) (bytes ∷ contents) (suc count) name may next long =
    let rest = long_all told names contents count name may.1 next long in
    record { contents = bytes ∷ rest.contents; may = (may.0, rest.may); place = suc rest.place; there = (let h = rest.there in omega arith); long = rest.long }

-- what holds of an error
pub if_err : {T E : Type 0} (result : Result T E) (fault : E) (P : E → Type 0) → result ≡ Err fault → P fault → IfErr result P
if_err result fault P is holds = subst (λ r. IfErr r P) (sym is) holds
