-- So far grants were taken, and what is found from the gate on comes after them.
use Rattle.std.specs.Prelude.{IfSome}
use Rattle.std.proofs.Common.{◌≡◌, ◌+◌, ◌-◌, ◌*◌, ◌≤◌, List, length, drop}
use Rattle.cell_base.specs.declared.shifts.Grant.{Grant}
use Rattle.entry_codec.specs.declared.encoder.TheConstants.{ENTRY_SIZE}
use Rattle.journal_format.specs.Readings.{with_grants, grants_from}
use Rattle.journal_format.specs.Reads.{OnlyReads}
use Rattle.shift_recovery.specs.Windows.{BeginsAt, AreOfFile}
use Rattle.shift_recovery.proofs.walks.walk.Given as goal

abbrev pub invariant-gates : goal.invariant-gates
invariant-gates g l = record {
  reads : OnlyReads g.D.Disk.reads_as g.D.Disk.may_leave g.D.Disk.moment g.D.Disk.left_since l.fn.disk l.disk;
  faults : g.D.Disk.faults l.disk ≡ g.D.Disk.faults l.fn.disk;
  window : BeginsAt l.gate l.len l.at l.used l.kept.items;
  shows : AreOfFile (g.D.Disk.reads_as l.fn.disk) l.gate l.len l.at l.used l.kept.items;
  grants : List Grant;
  taken : g.T.GrantVisitor.visited l.fn.visitor l.first grants l.visitor;
  counted : l.count ≡ length grants;
  gate_is : l.gate ≡ l.first + ENTRY_SIZE * length grants;
  within : length grants ≤ l.room;
  walked : IfSome (g.D.Disk.reads_as l.fn.disk) (λ file. grants_from l.room l.room l.first (drop l.first file)
      ≡ with_grants grants (grants_from l.room (l.room - length grants) l.gate (drop l.gate file)));
}

abbrev pub decreases-gates : goal.decreases-gates
decreases-gates g l = (l.len - l.at) + (l.len - l.gate)
