use Rattle.asg_commands.proofs.Common.{◌≤◌, length, subst, All-map, longest_file, AreShort}
use Rattle.asg_commands.proofs.sources.Sources.at.Goals as goal

pub returns-in-Some-clause-short : goal.returns-in-Some-clause-short
returns-in-Some-clause-short c =
    subst AreShort c.self.view_is (All-map (λ bytes. length bytes ≤ longest_file) (λ file. file.items) c.self.inside.files.items c.self.invariant)

pub returns-in-None-clause-short : goal.returns-in-None-clause-short
returns-in-None-clause-short c =
    subst AreShort c.self.view_is (All-map (λ bytes. length bytes ≤ longest_file) (λ file. file.items) c.self.inside.files.items c.self.invariant)
