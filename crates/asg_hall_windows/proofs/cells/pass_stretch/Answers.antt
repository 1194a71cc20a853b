use Rattle.asg_hall_windows.proofs.Common.{◌≡◌, ◌+◌, ◌-◌, ◌*◌, ◌/◌, ◌<◌, ◌≤◌, length, sym, subst, ⊎_elim, arith, cases_lt}
use Rattle.asg_hall_windows.proofs.MarkLemmas.{keeps_both, marked_on, word_marked}
use Rattle.asg_hall_windows.proofs.cells.pass_stretch.Goals as goal

pub pass_word-requires : goal.pass_word-requires
pass_word-requires c =
    let words = c.requires.stretch.words in
    record {
      row_within = omega (arith, words.first, c.requires.stretch.some, c.requires.stretch.within, c.requires.row_within);
      column_within = omega (arith, words.first, c.requires.stretch.some, c.requires.stretch.within, c.requires.column_within, c.requires.width);
    }

pub pass_words-requires : goal.pass_words-requires
pass_words-requires c =
    let words = c.requires.stretch.words in
    let kept = c.pass_word.ensures.kept in
    record {
      row_within = omega (arith, words.last, c.requires.stretch.within, c.requires.row_within);
      column_within =
          subst (λ width. c.args.column * width + c.args.stretch.now.span.last ≤ length c.pass_word.new.reached.words.items) (sym kept.width)
          (omega (arith, words.last, c.requires.stretch.within, c.requires.column_within, c.requires.width, kept.count));
    }

pub pass_word-requires-2 : goal.pass_word-requires-2
pass_word-requires-2 c =
    let words = c.requires.stretch.words in
    let kept = keeps_both c.args.reached.now c.pass_word.new.reached c.pass_words.new.reached c.pass_word.ensures.kept c.pass_words.ensures.kept in
    record {
      row_within = omega (arith, words.last, c.requires.stretch.within, c.requires.row_within);
      column_within =
          subst (λ width. c.args.column * width + c.args.stretch.now.span.last < length c.pass_words.new.reached.words.items) (sym kept.width)
          (omega (arith, words.last, c.requires.stretch.within, c.requires.column_within, c.requires.width, kept.count));
    }

pub returns-then-first-last-clause-marked : goal.returns-then-first-last-clause-marked
returns-then-first-last-clause-marked c w from below has =
    let span = c.args.stretch.now.span in
    let words = c.requires.stretch.words in
    let word : w / 64 ≡ span.first = omega (arith, from, below, words.first, words.last, c.if-first-last.true) in
    word_marked c.args.named.now c.args.reached.now c.pass_word.new.reached c.args.row c.args.column span.first span.low w word
    (words.low w from below (omega (arith, word, words.first))) c.pass_word.ensures.kept c.pass_word.ensures.marked has

pub returns : goal.returns
returns c =
    let named = c.args.named.now in
    let before = c.args.reached.now in
    let one = c.pass_word.new.reached in
    let two = c.pass_words.new.reached in
    let after = c.pass_word-2.new.reached in
    let span = c.args.stretch.now.span in
    let words = c.requires.stretch.words in
    let later = keeps_both one two after c.pass_words.ensures.kept c.pass_word-2.ensures.kept in
    record {
      kept = keeps_both before one after c.pass_word.ensures.kept later;
      marked = λ w from below has.
          ⊎_elim
          (λ (behind : span.first < w / 64).
          ⊎_elim
          (λ (between : w / 64 < span.last). marked_on two after c.args.column w c.pass_word-2.ensures.kept (c.pass_words.ensures.marked w (omega (arith, behind)) between has))
          (λ (end : span.last ≤ w / 64).
          let word : w / 64 ≡ span.last = omega (arith, end, below, words.last) in
          word_marked named two after c.args.row c.args.column span.last span.high w word
          (words.high w below (omega (arith, word, words.last))) c.pass_word-2.ensures.kept c.pass_word-2.ensures.marked has)
          (cases_lt (w / 64) span.last))
          (λ (start : w / 64 ≤ span.first).
          let word : w / 64 ≡ span.first = omega (arith, start, from, words.first) in
          marked_on one after c.args.column w later
          (word_marked named before one c.args.row c.args.column span.first span.low w word
          (words.low w from below (omega (arith, word, words.first)))
          c.pass_word.ensures.kept c.pass_word.ensures.marked has))
          (cases_lt span.first (w / 64));
    }
