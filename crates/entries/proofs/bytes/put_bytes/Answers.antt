use Rattle.entries.proofs.Outputs.{put_there}
use Rattle.entries.proofs.bytes.put_bytes.Goals as goal

pub returns : goal.returns
returns c = put_there c.args.at c.in-Some.end c.args.out.now c.args.bytes.now c.copy_from_slice.new.self c.copy_from_slice.ensures.after c.in-Some.ensures.1 c.if-end-out.false
