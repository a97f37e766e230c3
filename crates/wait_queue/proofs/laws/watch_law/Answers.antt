-- A full watched neighborhood holds a request back, and a grant of another job leaves the watch.
use Rattle.std.proofs.Common.{Some}
use Rattle.wait_queue.proofs.Entering.{full-held, saturated-held}
use Rattle.wait_queue.proofs.Others.{watch-still}
use Rattle.wait_queue.proofs.laws.watch_law.Goals as goal

pub returns : goal.returns
returns c parts request admitted fit =
    let cell = c.args.cell.now in
    record {
      holds = λ r watch full. (full-held cell parts admitted c.requires request fit r watch full).1.1;
      named = λ at held units is.
          let by = saturated-held cell parts admitted c.requires request fit at held units is in (by.0, by.1.0);
      left = λ asked r asked_fit granted other watch.
          watch-still cell parts request asked (Some r) c.requires admitted asked_fit granted other watch;
    }
