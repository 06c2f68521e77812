use Rattle.clio_folder.proofs.Writes.{one_write_more, no_write_more}
use Rattle.clio_folder.proofs.logged.write_whole.Goals.{in-Ok, in-Err}
use Rattle.clio_folder.proofs.logged.write_whole.Goals as goal

pub writes-preserved : goal.writes-preserved
writes-preserved g c = elim c.match-write.branch [
  | in-Ok w ↦ one_write_more c.args.to.now.log.written.said c.writes.to.log.written.said c.write.new.self.log.written.said c.args.bytes.now c.writes.done
      w.in-Ok.taken c.match-write.done w.done-is c.writes.invariant w.in-Ok.ensures.bound w.in-Ok.ensures.bytes
  | in-Err w ↦ no_write_more c.args.to.now.log.written.said c.writes.to.log.written.said c.write.new.self.log.written.said c.args.bytes.now c.writes.done
      c.match-write.done w.done-is c.writes.invariant w.in-Err.ensures.bytes
]
