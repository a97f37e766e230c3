-- The first difference is at the first index where the bytes differ, or the text ends.
use Rattle.std.proofs.Common.{◌+◌, ◌∙◌}
use Rattle.shift_recovery.proofs.Differences.{ended, differs}
use Rattle.shift_recovery.proofs.texts.difference.Goals as goal
use Rattle.shift_recovery.proofs.texts.difference.Goals.{then-index-text-via-then-index-text}
use Rattle.shift_recovery.proofs.texts.difference.Goals.{then-index-text-via-else-index-text+then-byte-text}

pub returns-then-index-text-clause-some : goal.returns-then-index-text-clause-some
returns-then-index-text-clause-some c more =
    let at = c.args.from + c.loop-index.index in
    c.loop-index.invariant.same more ∙ elim c.then-index-text.branch [
      | then-index-text-via-then-index-text w ↦ ended at c.loop-index.index c.args.bytes.now c.args.text.now more
          c.loop-index-test.true w.if-index-text.true
      | then-index-text-via-else-index-text+then-byte-text w ↦ differs at c.loop-index.index c.args.bytes.now c.args.text.now
          more c.loop-index-test.true w.if-index-text.false w.if-byte-text.true
    ]
