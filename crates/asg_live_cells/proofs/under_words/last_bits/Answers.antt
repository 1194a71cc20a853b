use Rattle.asg_live_cells.proofs.Common.{◌≡◌, ◌+◌, ◌-◌, length, get_or, drop, nat_lt, ap, ◌∙◌, arith, get_or-drop, get_or-take}
use Rattle.asg_live_cells.proofs.UnderLemmas.{shifted_bits}
use Rattle.asg_live_cells.proofs.under_words.last_bits.Goals as goal

pub returns : goal.returns
returns c k low =
    let values = c.args.values.now in
    let first = length values - 64 in
    let s = 64 - c.args.count in
    let same : first + (s + k) ≡ length values - c.args.count + k = omega (arith, c.requires.few, c.requires.long, low) in
    shifted_bits c.full_bits.result s k
    ∙ c.full_bits.ensures (s + k) (omega (arith, c.requires.few, low))
    ∙ ap (λ x. nat_lt x c.args.limit) (get_or-take (length values - first) (drop first values) (s + k) 0 (omega (arith, c.requires.few, c.requires.long, low)) ∙ get_or-drop first values (s + k) 0 ∙ ap (λ i. get_or values i 0) same)
