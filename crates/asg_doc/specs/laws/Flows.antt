-- How texts flow on, one after the other, through a page and a sink.
use Rattle.std.proofs.Common.{◌≡◌, ◌≤◌, ℕ, ◌+◌, ◌*◌, length, true, false, List, [], ◌++◌, Option, refl, arith, sym, ap, ◌∙◌, subst, append_assoc, inl, inr, length-append}
use Rattle.std.proofs.lemmas.Bool.{both_ways, cases_Bool}
use Rattle.std.proofs.lemmas.List.{append-nil}
use Rattle.asg_io.specs.Shelf.{Rose}
use Rattle.asg_io.specs.Sink.{Puts, PutsPrefix}
use Rattle.asg_io.specs.Laws.{Puts-nil, Puts-append, PutsPrefix-append, PutsPrefix-more}
use Rattle.asg_grammar.specs.Lines.{ended}
use Rattle.asg_grammar.specs.laws.LineCuts.{ended-append}
use Rattle.asg_doc.specs.Flow.{Flows, Wrote, Emptied}
use Rattle.asg_doc.specs.PageState.{PageState, page_size, blank, holding}

-- a count that rose after a part of a run rose over the run
pub Rose-later : (first before last : ℕ) → first ≤ before → Rose before last → Rose first last
Rose-later first before last start rose = Prim.grind arith

-- whole pages, and whole pages after them
pages_more : (xs ys : List ℕ) (m n : ℕ) → length xs ≡ m * page_size → length ys ≡ n * page_size → length (xs ++ ys) ≡ (m + n) * page_size
pages_more xs ys m n first second = omega (arith, length-append xs ys)

-- one text flows, and then another
pub Flows-append : {before between after : Option (List ℕ)} {old middle new first second : List ℕ}
    → Flows before between old middle first → Flows between after middle new second → Flows before after old new (first ++ second)
Flows-append {old = old} {middle = middle} {new = new} {first = first} {second = second} f g = record {
  put = f.put ++ g.put;
  puts = Puts-append f.puts g.puts;
  whole = append_assoc f.put g.put new
      ∙ ap (λ bytes. f.put ++ bytes) g.whole
      ∙ sym (append_assoc f.put middle second)
      ∙ ap (λ bytes. bytes ++ second) f.whole
      ∙ append_assoc old first second;
  pages = f.pages + g.pages;
  full = pages_more (f.put) (g.put) f.pages g.pages f.full g.full;
}

-- one text flows, and of another a prefix is put
pub Flows-then_prefix : {before between after : Option (List ℕ)} {old middle first : List ℕ} (second : List ℕ)
    → Flows before between old middle first → PutsPrefix between after (middle ++ second) → PutsPrefix before after (old ++ (first ++ second))
Flows-then_prefix {before = before} {after = after} {old = old} {middle = middle} {first = first} second f prefix =
    subst (PutsPrefix before after)
    (sym (append_assoc f.put middle second) ∙ ap (λ bytes. bytes ++ second) f.whole ∙ append_assoc old first second)
    (PutsPrefix-append f.puts prefix)

-- a prefix of one text is a prefix of it with another
pub PutsPrefix-longer : (before after : Option (List ℕ)) (old first second : List ℕ)
    → PutsPrefix before after (old ++ first) → PutsPrefix before after (old ++ (first ++ second))
PutsPrefix-longer before after old first second prefix =
    subst (PutsPrefix before after) (append_assoc old first second) (PutsPrefix-more second prefix)

-- nothing was done, and nothing appended
pub Wrote-nothing : {S : Type 0} (written : S → Option (List ℕ)) (faults : S → ℕ) (sink : S) (page : PageState) → Wrote written faults sink sink page page []
Wrote-nothing written faults sink page = record {
  flows = λ _ _. record { put = []; puts = Puts-nil (written sink); whole = sym (append-nil page.held); pages = 0; full = refl };
  prefix = λ was now. absurd (both_ways page.broken was now);
  cause = λ was now. absurd (both_ways page.broken was now);
  never_falls = omega arith;
  refused = λ broken. (broken, refl, refl);
}

-- a text was appended to a page that had room for it
pub Wrote-held : {S : Type 0} (written : S → Option (List ℕ)) (faults : S → ℕ) (sink : S) (page : PageState) (text : List ℕ) → Wrote written faults sink sink page (holding page text) text
Wrote-held written faults sink page text = record {
  flows = λ _ _. record { put = []; puts = Puts-nil (written sink); whole = refl; pages = 0; full = refl };
  prefix = λ was now. absurd (both_ways page.broken was now);
  cause = λ was now. absurd (both_ways page.broken was now);
  never_falls = omega arith;
  refused = λ broken. (broken, refl, refl);
}

-- one text was appended, and then another
pub Wrote-append : {S : Type 0} {written : S → Option (List ℕ)} {faults : S → ℕ} {before between after : S} {old middle new : PageState} {first second : List ℕ}
    → Wrote written faults before between old middle first → Wrote written faults between after middle new second
    → Wrote written faults before after old new (first ++ second)
Wrote-append {written = written} {before = before} {old = old} {middle = middle} {new = new} {first = first} {second = second} f g = record {
  flows = λ was now.
      elim (cases_Bool middle.broken) [
        | inl broken ↦ absurd (both_ways new.broken now (g.refused broken).0)
        | inr standing ↦ Flows-append (f.flows was standing) (g.flows standing now)
      ];
  prefix = λ was now.
      elim (cases_Bool middle.broken) [
        | inl broken ↦ subst (λ bytes. PutsPrefix (written before) bytes (old.held ++ (first ++ second))) (sym (g.refused broken).1) (PutsPrefix-longer (written before) _ old.held first second (f.prefix was broken))
        | inr standing ↦ Flows-then_prefix second (f.flows was standing) (g.prefix standing now)
      ];
  cause = λ was now.
      elim (cases_Bool middle.broken) [
        | inl broken ↦ subst (Rose _) (sym (g.refused broken).2) (f.cause was broken)
        | inr standing ↦ Rose-later _ _ _ f.never_falls (g.cause standing now)
      ];
  never_falls = let a = f.never_falls in let b = g.never_falls in omega arith;
  refused = λ broken.
      let f' = f.refused broken in
      let g' = g.refused f'.0 in
      (g'.0, g'.1 ∙ f'.1, g'.2 ∙ f'.2);
}

-- a text was appended to a blank page, which was then emptied: the text was put whole
pub Wrote-whole : {S : Type 0} {written : S → Option (List ℕ)} {faults : S → ℕ} {before between after : S} {old middle new : PageState} {text : List ℕ}
    → old ≡ blank → Wrote written faults before between old middle text → Emptied written faults between after middle new
    → new.broken ≡ false → Puts (written before) (written after) text
Wrote-whole {written = written} {before = before} {after = after} {middle = middle} {new = new} {text = text} start f g standing =
    elim (cases_Bool middle.broken) [
      | inl broken ↦ absurd (both_ways new.broken standing (g.refused broken).0)
      | inr was ↦
          let flow = f.flows (ap (λ page. page.broken) start) was in
          subst (Puts (written before) (written after)) (flow.whole ∙ ap (λ page. page.held ++ text) start) (Puts-append flow.puts (g.puts was standing))
    ]

-- a text was appended to a blank page, which broke, then or as it was emptied: a prefix of the text
-- was put
pub Wrote-broken : {S : Type 0} {written : S → Option (List ℕ)} {faults : S → ℕ} {before between after : S} {old middle new : PageState} {text : List ℕ}
    → old ≡ blank → Wrote written faults before between old middle text → Emptied written faults between after middle new
    → new.broken ≡ true → PutsPrefix (written before) (written after) text × Rose (faults before) (faults after)
Wrote-broken {written = written} {faults = faults} {before = before} {after = after} {old = old} {middle = middle} {text = text} start f g broken =
    let was = ap (λ page. page.broken) start in
    let of_text = ap (λ page. page.held ++ text) start in
    elim (cases_Bool middle.broken) [
      | inl earlier ↦ (
        subst (PutsPrefix (written before) (written after)) of_text (subst (λ bytes. PutsPrefix (written before) bytes (old.held ++ text)) (sym (g.refused earlier).1) (f.prefix was earlier)),
        subst (Rose (faults before)) (sym (g.refused earlier).2) (f.cause was earlier),
      )
      | inr standing ↦
          let flow = f.flows was standing in (
            subst (PutsPrefix (written before) (written after)) (flow.whole ∙ of_text) (PutsPrefix-append flow.puts (g.prefix standing broken)),
            Rose-later _ _ _ f.never_falls (g.cause standing broken),
          )
    ]

-- an equal text was appended
pub Wrote-as : {S : Type 0} {written : S → Option (List ℕ)} {faults : S → ℕ} {before after : S} {old new : PageState} {text same : List ℕ}
    → text ≡ same → Wrote written faults before after old new text → Wrote written faults before after old new same
Wrote-as {written = written} {faults = faults} {before = before} {after = after} {old = old} {new = new} e wrote =
    subst (Wrote written faults before after old new) e wrote

-- a text was appended, and nothing after it
pub Wrote-last : {S : Type 0} {written : S → Option (List ℕ)} {faults : S → ℕ} {before after : S} {old new : PageState} {text : List ℕ}
    → Wrote written faults before after old new text → Wrote written faults before after old new (text ++ [])
Wrote-last {text = text} wrote = Wrote-as (sym (append-nil text)) wrote

-- an equal text was appended to a page that had room for it
pub Wrote-pushed : {S : Type 0} {written : S → Option (List ℕ)} {faults : S → ℕ} {sink : S} {old new : PageState} {text same : List ℕ}
    → new ≡ holding old text → text ≡ same → Wrote written faults sink sink old new same
Wrote-pushed {written = written} {faults = faults} {sink = sink} {old = old} {text = text} held e =
    Wrote-as e (subst (λ page. Wrote written faults sink sink old page text) (sym held) (Wrote-held written faults sink old text))

-- lines were appended, and then others
pub Wrote-lines : {S : Type 0} {written : S → Option (List ℕ)} {faults : S → ℕ} {before between after : S} {old middle new : PageState} (first second : List (List ℕ))
    → Wrote written faults before between old middle (ended first) → Wrote written faults between after middle new (ended second)
    → Wrote written faults before after old new (ended (first ++ second))
Wrote-lines first second f g = Wrote-as (sym (ended-append first second)) (Wrote-append f g)

-- ---- a page is filled and put

-- the piece and what is left after it are what the page held and what was left before
regrouped : (bytes rest front back piece : List ℕ) → rest ≡ front ++ back → piece ≡ bytes ++ front → bytes ++ rest ≡ piece ++ back
regrouped bytes rest front back piece split filled =
    ap (λ xs. bytes ++ xs) split ∙ sym (append_assoc bytes front back) ∙ ap (λ xs. xs ++ back) (sym filled)

-- the page was filled and put
pub Flows-put : {before between after : Option (List ℕ)} {old text : List ℕ} (bytes rest front back piece emptied : List ℕ)
    → Flows before between old (bytes ++ rest) text → rest ≡ front ++ back → piece ≡ bytes ++ front → length piece ≡ page_size → emptied ≡ []
    → Puts between after piece → Flows before after old (emptied ++ back) text
Flows-put bytes rest front back piece emptied flow split filled size none puts = record {
  put = flow.put ++ piece;
  puts = Puts-append flow.puts puts;
  whole = ap (λ xs. flow.put ++ piece ++ (xs ++ back)) none
      ∙ append_assoc flow.put piece back
      ∙ ap (λ xs. flow.put ++ xs) (sym (regrouped bytes rest front back piece split filled))
      ∙ flow.whole;
  pages = flow.pages + 1;
  full = omega (arith, flow.full, length-append flow.put piece);
}

-- the page was filled, and its put failed
pub Flows-prefix : {before between after : Option (List ℕ)} {old text : List ℕ} (bytes rest front back piece : List ℕ)
    → Flows before between old (bytes ++ rest) text → rest ≡ front ++ back → piece ≡ bytes ++ front → PutsPrefix between after piece
    → PutsPrefix before after (old ++ text)
Flows-prefix {before = before} {after = after} bytes rest front back piece flow split filled prefix =
    subst (PutsPrefix before after) (ap (λ xs. flow.put ++ xs) (sym (regrouped bytes rest front back piece split filled)) ∙ flow.whole)
    (PutsPrefix-append flow.puts (PutsPrefix-more back prefix))
