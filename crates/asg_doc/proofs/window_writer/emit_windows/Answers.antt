use Rattle.asg_doc.proofs.Common.{[], ◌∷◌, ◌++◌, sym, ap, subst, HasWindowText, window_line, Wrote-append, Wrote-as, Wrote-nothing}
use Rattle.asg_doc.proofs.ListTexts.{windows_more}
use Rattle.asg_doc.proofs.window_writer.emit_windows.Goals as goal

pub windows-init : goal.windows-init
windows-init g c = Wrote-nothing _ _ _ _

pub windows-preserved : goal.windows-preserved
windows-preserved g c =
    Wrote-as (windows_more c.args.windows.now c.windows.window-index c.window-item.result c.windows-test.true)
    (Wrote-append c.windows.invariant (Wrote-as (ap (λ window. window_line window ++ 10 ∷ []) c.window-item.is) c.emit_window.ensures))

pub emit_window-requires : goal.emit_window-requires
emit_window-requires g c =
    subst HasWindowText (sym c.window-item.is) (c.requires c.windows.window-index c.window-item.result c.windows-test.true)
