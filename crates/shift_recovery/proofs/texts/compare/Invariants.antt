-- Up to here the texts are the same, so the first difference is that of the rest.
use Rattle.std.specs.Prelude.{IfSome}
use Rattle.std.proofs.Common.{◌≡◌, ◌+◌, ◌-◌, ◌≤◌, length, take, drop}
use Rattle.journal_format.specs.declared.head.TheConstants.{TEXT_AT}
use Rattle.journal_format.specs.Readings.{first_difference}
use Rattle.journal_format.specs.Reads.{OnlyReads}
use Rattle.shift_recovery.specs.Windows.{BeginsAt, AreOfFile}
use Rattle.shift_recovery.proofs.texts.compare.Given as goal

abbrev pub invariant-text : goal.invariant-text
invariant-text g l = record {
  reads : OnlyReads g.D.Disk.reads_as g.D.Disk.may_leave g.D.Disk.moment g.D.Disk.left_since l.fn.disk l.disk;
  count : g.D.Disk.faults l.disk ≡ g.D.Disk.faults l.fn.disk;
  compared : l.done ≤ l.size;
  within_text : l.done ≤ length l.text;
  window : BeginsAt (TEXT_AT + l.done) l.len l.at l.used l.kept.items;
  shows : AreOfFile (g.D.Disk.reads_as l.fn.disk) (TEXT_AT + l.done) l.len l.at l.used l.kept.items;
  same : IfSome (g.D.Disk.reads_as l.fn.disk) (λ file. first_difference 0 (take l.size (drop TEXT_AT file)) l.text
      ≡ first_difference l.done (take (l.size - l.done) (drop (TEXT_AT + l.done) file)) (drop l.done l.text));
}

abbrev pub decreases-text : goal.decreases-text
decreases-text g l = l.len - l.at
