-- The file that was found is the first with the name, also as the shelf is seen.
use Rattle.std.proofs.Common.{ap, sym}
use Rattle.asg_io.proofs.Files.{found_contents}
use Rattle.asg_io.proofs.memory_shelf.MemoryShelf.held.Goals as goal

pub returns : goal.returns
returns c =
    found_contents c.args.self.now.files c.self.inside.files.items c.deref.result.now c.args.name.now c.in_ok-file.file.now c.as_slice.result.now
    (sym (ap (λ seen. seen.files) c.self.view_is)) c.deref.ensures.value (c.in_ok-file.ensures {u = tt}) c.as_slice.ensures.value
