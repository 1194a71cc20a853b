use Rattle.asg_app.proofs.Common.{take, Some, AreGiven, files_of, Work}
use Rattle.asg_app.proofs.files.fetch_all.Given as goal

-- the files before the place were given
abbrev pub invariant-loop-place : goal.invariant-loop-place
invariant-loop-place g l = AreGiven g.F.Shelf.told g.F.Shelf.asked g.F.Shelf.faults (take l.place (files_of (Some (Work l.job)))) l.sources l.fn.shelf l.shelf
