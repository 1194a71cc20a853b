use Rattle.asg_levels.proofs.Common.{◌≡◌, ℕ, ◌+◌, ◌*◌, ◌<◌, List, length, slice_index, refl, sym, ap, ◌∙◌, subst, arith, false≢true, has_bit, word_count, words_each, square_after_units, AreFree, AreMarkWords, CountsRight, CountsStep, HasSide-bits, counts_more, units_more, staying_at}
use Rattle.asg_levels.proofs.FreeSteps.{unit_admitted}
use Rattle.asg_levels.proofs.ListLemmas.{bits_square, free_by}
use Rattle.asg_levels.proofs.MarkWordLemmas.{some_words}
use Rattle.asg_levels.proofs.unit_lists.take_unit.Goals as goal

pub returns-clause-taken : goal.returns-clause-taken
returns-clause-taken c is before count so =
    let zeros = c.args.zeros.now in
    let ones = c.args.ones.now in
    let side = zeros.rows in
    let phase = c.args.phase.now in
    let ins = c.args.ins.now.items in
    let outs = c.args.outs.now.items in
    let yes = c.if-not-is_unit.false in
    let step = c.is_unit.ensures.step yes in
    let long : c.len-side.result ≡ length ins = omega arith in
    let right : CountsRight side phase.enters phase.leaves = subst (λ n. CountsRight n phase.enters phase.leaves) (long ∙ c.requires.ins) (c.is_unit.ensures.counts yes) in
    let stays : (k : ℕ) → k < length c.enters.result.now → has_bit c.mark_staying.new.stay 0 k ≡ staying_at phase.leaves 0 k =
    λ k h. c.mark_staying.ensures.bits k (omega (arith, h, ap length c.enters.ensures.enters, ap length c.leaves.ensures.leaves, right.rows, right.columns)) ∙ ap (λ xs. staying_at xs 0 k) c.leaves.ensures.leaves in
    let free : AreFree zeros ones ins outs phase.enters phase.leaves side side =
    free_by zeros ones _ ins _ outs _ phase.enters phase.leaves side c.as_slice-3.ensures.value c.as_slice-4.ensures.value c.enters.ensures.enters
    (ap length c.enters.ensures.enters ∙ right.rows) (c.are_free-are_apart.ensures c.if-not-are_apart.false phase.leaves stays) in
    let counts : CountsStep side phase.enters phase.leaves ins outs c.count_zeros.new.counts.items c.count_zeros-2.new.counts.items =
    counts_more side phase.enters phase.leaves ins outs c.count_zeros.new.counts.items c.count_zeros-2.new.counts.items
    c.enters-2.result.now c.leaves-2.result.now c.enters-2.ensures.enters c.leaves-2.ensures.leaves right.rows right.columns
    c.count_zeros.ensures.each c.count_zeros-2.ensures.each c.count_zeros-2.ensures.rest in
    let one = unit_admitted side (length before) zeros ones ins outs (square_after_units zeros ones before) so.duals phase.enters phase.leaves right free in
    units_more side zeros ones ins outs c.count_zeros.new.counts.items c.count_zeros-2.new.counts.items before phase
    (HasSide-bits side zeros ones (bits_square side zeros c.row-zeros.ensures.table refl c.requires.columns) (bits_square side ones c.row-ones.ensures.table c.requires.one_rows c.requires.one_columns))
    (omega (arith, count, c.requires.few_steps)) so step one counts

pub row-zeros-requires : goal.row-zeros-requires
row-zeros-requires c = c.requires.some

pub row-ones-requires : goal.row-ones-requires
row-ones-requires c = omega (arith, c.requires.some, c.requires.one_rows)

pub is_unit-requires : goal.is_unit-requires
is_unit-requires c = omega (arith, c.len-side.ensures, c.requires.ins, c.requires.few)

pub mark_words-requires-clause-some : goal.mark_words-requires-clause-some
mark_words-requires-clause-some c = some_words c.args.zeros.now.rows _ c.requires.some (ap length c.as_slice.ensures.value ∙ c.requires.outs)

pub mark_words-requires-clause-few : goal.mark_words-requires-clause-few
mark_words-requires-clause-few c = omega (arith, ap length c.as_slice.ensures.value, c.requires.outs, c.requires.few)

pub mark_words-requires-clause-few_marks : goal.mark_words-requires-clause-few_marks
mark_words-requires-clause-few_marks c = omega (arith, c.requires.few_steps)

pub mark_staying-requires-clause-rows : goal.mark_staying-requires-clause-rows
mark_staying-requires-clause-rows c = c.requires.stay_rows

pub mark_staying-requires-clause-columns : goal.mark_staying-requires-clause-columns
mark_staying-requires-clause-columns c =
    let right = c.is_unit.ensures.counts c.if-not-is_unit.false in
    omega (arith, ap length c.leaves.ensures.leaves, right.columns, c.len-side.ensures, c.requires.ins, c.requires.stay_columns)

pub mark_staying-requires-clause-few : goal.mark_staying-requires-clause-few
mark_staying-requires-clause-few c =
    let right = c.is_unit.ensures.counts c.if-not-is_unit.false in
    omega (arith, ap length c.leaves.ensures.leaves, right.columns, c.len-side.ensures, c.requires.ins, c.requires.few)

pub are_free-are_apart-requires-clause-rows : goal.are_free-are_apart-requires-clause-rows
are_free-are_apart-requires-clause-rows c =
    let right = c.is_unit.ensures.counts c.if-not-is_unit.false in
    omega (arith, ap length c.enters.ensures.enters, right.rows, c.len-side.ensures, c.requires.ins)

pub are_free-are_apart-requires-clause-columns : goal.are_free-are_apart-requires-clause-columns
are_free-are_apart-requires-clause-columns c =
    let right = c.is_unit.ensures.counts c.if-not-is_unit.false in
    omega (arith, ap length c.enters.ensures.enters, right.rows, c.len-side.ensures, c.requires.ins, c.requires.columns)

pub are_free-are_apart-requires-clause-one_rows : goal.are_free-are_apart-requires-clause-one_rows
are_free-are_apart-requires-clause-one_rows c =
    let right = c.is_unit.ensures.counts c.if-not-is_unit.false in
    omega (arith, ap length c.enters.ensures.enters, right.rows, c.len-side.ensures, c.requires.ins, c.requires.one_rows)

pub are_free-are_apart-requires-clause-one_columns : goal.are_free-are_apart-requires-clause-one_columns
are_free-are_apart-requires-clause-one_columns c =
    let right = c.is_unit.ensures.counts c.if-not-is_unit.false in
    omega (arith, ap length c.enters.ensures.enters, right.rows, c.len-side.ensures, c.requires.ins, c.requires.one_columns)

pub are_free-are_apart-requires-clause-stay_rows : goal.are_free-are_apart-requires-clause-stay_rows
are_free-are_apart-requires-clause-stay_rows c = c.mark_staying.ensures.rows

pub are_free-are_apart-requires-clause-stay_columns : goal.are_free-are_apart-requires-clause-stay_columns
are_free-are_apart-requires-clause-stay_columns c =
    let right = c.is_unit.ensures.counts c.if-not-is_unit.false in
    omega (arith, ap length c.enters.ensures.enters, right.rows, c.len-side.ensures, c.requires.ins, ap length c.leaves.ensures.leaves, right.columns, c.mark_staying.ensures.columns)

pub are_free-are_apart-requires-clause-few : goal.are_free-are_apart-requires-clause-few
are_free-are_apart-requires-clause-few c =
    let right = c.is_unit.ensures.counts c.if-not-is_unit.false in
    omega (arith, ap length c.enters.ensures.enters, right.rows, c.len-side.ensures, c.requires.ins, c.requires.few)

pub are_free-are_apart-requires-clause-some : goal.are_free-are_apart-requires-clause-some
are_free-are_apart-requires-clause-some c =
    let right = c.is_unit.ensures.counts c.if-not-is_unit.false in
    omega (arith, ap length c.enters.ensures.enters, right.rows, c.len-side.ensures, c.requires.ins, c.requires.some)

pub are_free-are_apart-requires-clause-ins : goal.are_free-are_apart-requires-clause-ins
are_free-are_apart-requires-clause-ins c =
    let right = c.is_unit.ensures.counts c.if-not-is_unit.false in
    omega (arith, ap length c.enters.ensures.enters, right.rows, c.len-side.ensures, c.requires.ins, ap length c.as_slice-3.ensures.value)

pub are_free-are_apart-requires-clause-outs : goal.are_free-are_apart-requires-clause-outs
are_free-are_apart-requires-clause-outs c =
    let right = c.is_unit.ensures.counts c.if-not-is_unit.false in
    let long : c.args.zeros.now.rows ≡ length c.enters.result.now = omega (arith, ap length c.enters.ensures.enters, right.rows, c.len-side.ensures, c.requires.ins) in
    ap length c.as_slice-4.ensures.value ∙ c.requires.outs ∙ ap (λ n. 64 * word_count n) long

pub are_free-are_apart-requires-clause-few_ins : goal.are_free-are_apart-requires-clause-few_ins
are_free-are_apart-requires-clause-few_ins c = λ r h.
    let at = ap (λ (xs : List ℕ). slice_index xs r) c.as_slice-3.ensures.value in
    let few = c.requires.few_ins r (omega (arith, h, ap length c.as_slice-3.ensures.value, c.requires.ins)) in
    omega (arith, at, few)

pub are_free-are_apart-requires-clause-few_steps : goal.are_free-are_apart-requires-clause-few_steps
are_free-are_apart-requires-clause-few_steps c = omega (arith, c.requires.few_steps)

pub are_free-are_apart-requires-clause-words : goal.are_free-are_apart-requires-clause-words
are_free-are_apart-requires-clause-words c =
    subst (λ (ws : List ℕ). AreMarkWords c.as_slice-4.result.now ws) (sym c.as_slice-2.ensures.value)
    (subst (λ (os : List ℕ). AreMarkWords os c.in_ok-words.words.items) (c.as_slice.ensures.value ∙ sym c.as_slice-4.ensures.value) c.in_ok-words.ensures.words)

pub are_free-are_apart-requires-clause-reach : goal.are_free-are_apart-requires-clause-reach
are_free-are_apart-requires-clause-reach c =
    ap length c.as_slice-2.ensures.value ∙ c.in_ok-words.ensures.count
    ∙ ap (λ (os : List ℕ). (c.args.most + 2) * words_each os) (c.as_slice.ensures.value ∙ sym c.as_slice-4.ensures.value)

pub count_zeros-requires-clause-within : goal.count_zeros-requires-clause-within
count_zeros-requires-clause-within c =
    let right = c.is_unit.ensures.counts c.if-not-is_unit.false in
    omega (arith, ap length c.enters-2.ensures.enters, right.rows, c.len-side.ensures)

pub count_zeros-requires-clause-few : goal.count_zeros-requires-clause-few
count_zeros-requires-clause-few c =
    let right = c.is_unit.ensures.counts c.if-not-is_unit.false in
    λ k h.
    let few = c.requires.few_ins k (omega (arith, h, ap length c.enters-2.ensures.enters, right.rows, c.len-side.ensures, c.requires.ins)) in
    omega (arith, few, c.requires.few_steps)

pub count_zeros-requires-2-clause-within : goal.count_zeros-requires-2-clause-within
count_zeros-requires-2-clause-within c =
    let right = c.is_unit.ensures.counts c.if-not-is_unit.false in
    omega (arith, ap length c.leaves-2.ensures.leaves, right.columns, c.len-side.ensures, c.requires.ins, c.requires.outs)

pub count_zeros-requires-2-clause-few : goal.count_zeros-requires-2-clause-few
count_zeros-requires-2-clause-few c = λ k _. let few = c.requires.few_outs k in omega (arith, few, c.requires.few_steps)

pub returns-then-not-is_unit-clause-taken : goal.returns-then-not-is_unit-clause-taken
returns-then-not-is_unit-clause-taken c = λ h. absurd (false≢true h)

pub returns-then-not-are_apart-clause-taken : goal.returns-then-not-are_apart-clause-taken
returns-then-not-are_apart-clause-taken c = λ h. absurd (false≢true h)

pub returns-then-not-are_apart-clause-stay_rows : goal.returns-then-not-are_apart-clause-stay_rows
returns-then-not-are_apart-clause-stay_rows c = c.mark_staying.ensures.rows

pub returns-then-not-are_apart-clause-stay_columns : goal.returns-then-not-are_apart-clause-stay_columns
returns-then-not-are_apart-clause-stay_columns c =
    let right = c.is_unit.ensures.counts c.if-not-is_unit.false in
    omega (arith, ap length c.leaves.ensures.leaves, right.columns, c.len-side.ensures, c.requires.ins, c.mark_staying.ensures.columns)

pub returns-clause-ins : goal.returns-clause-ins
returns-clause-ins c = c.count_zeros.ensures.count ∙ c.requires.ins

pub returns-clause-outs : goal.returns-clause-outs
returns-clause-outs c = c.count_zeros-2.ensures.count ∙ c.requires.outs

pub returns-clause-stay_rows : goal.returns-clause-stay_rows
returns-clause-stay_rows c = c.mark_staying.ensures.rows

pub returns-clause-stay_columns : goal.returns-clause-stay_columns
returns-clause-stay_columns c =
    let right = c.is_unit.ensures.counts c.if-not-is_unit.false in
    omega (arith, ap length c.leaves.ensures.leaves, right.columns, c.len-side.ensures, c.requires.ins, c.mark_staying.ensures.columns)
