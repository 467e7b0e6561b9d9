-- `put_header` meets its contract. Assumes nothing.
use Rattle.files.proofs.Saving.{header_put}
use Rattle.files.proofs.writer.put_header.Goals as goal

pub returns : goal.returns
returns c =
    let old = c.args.buffer.now in
    header_put _ _ old _ _ _ _ c.put.ensures c.put-2.ensures c.put-3.ensures c.put-4.ensures
