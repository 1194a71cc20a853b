use Rattle.std.proofs.lemmas.Bool.{OnTrue_from}
use Rattle.asg_model.specs.declared.parts.Row.{Row}
use Rattle.asg_hall_windows.proofs.Common.{All, List, length, sym, ap, ◌∙◌, ◌*◌, subst, to_z-of_z, w128, Column, IsStretch, ProvesSpread, Stretch}
use Rattle.asg_hall_windows.proofs.SpreadLemmas.{fits_in, spread_proved}
use Rattle.asg_hall_windows.proofs.spreads.proves_spread.Goals as goal

pub pass_cells-requires : goal.pass_cells-requires
pass_cells-requires c =
    let X = c.args.inst.now in
    let windows = c.args.windows.now in
    let spread = c.args.spread in
    let are = subst (λ s. All (IsStretch windows s) c.in_ok-stretches.stretches.items) (to_z-of_z w128 spread c.ranges.spread) c.in_ok-stretches.ensures in
    let stretches = subst (λ (list : List Stretch). All (IsStretch windows spread) list) (sym c.in_ok-table.ensures) are in
    let kept = c.name_all.ensures.kept in
    let width = kept.width ∙ c.in_ok-named.ensures.width in
    record {
      stretches = fits_in windows spread c.name_all.new.named.width c.in_ok-table.table.stretches.items width stretches;
      width = c.in_ok-reached.ensures.width ∙ sym width;
      rows = kept.count ∙ c.in_ok-named.ensures.count ∙ ap (λ (rows : List Row). length rows * c.in_ok-named.named.width) c.rows.ensures.rows ∙ ap (λ w. length X.rows * w) (sym kept.width);
      columns = c.in_ok-reached.ensures.count ∙ ap (λ (columns : List Column). length columns * c.in_ok-reached.reached.width) c.columns.ensures.columns;
    }

pub returns : goal.returns
returns c =
    let X = c.args.inst.now in
    let windows = c.args.windows.now in
    let spread = c.args.spread in
    let are = subst (λ s. All (IsStretch windows s) c.in_ok-stretches.stretches.items) (to_z-of_z w128 spread c.ranges.spread) c.in_ok-stretches.ensures in
    let stretches = subst (λ (list : List Stretch). All (IsStretch windows spread) list) (sym c.in_ok-table.ensures) are in
    OnTrue_from c.are_short.result (ProvesSpread X spread windows)
    (λ short. spread_proved X spread windows c.in_ok-table.table.stretches.items c.name_all.new.named c.pass_cells.new.reached stretches (c.name_all.ensures.named c.if-not-name_all.false) (c.pass_cells.ensures.passed c.if-not-pass_cells.false) (c.are_short.ensures short))
