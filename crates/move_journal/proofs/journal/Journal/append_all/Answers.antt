-- The disk rests at an open journal, which is the one that the file stands for; the records of the new grants go after its gate.
use Rattle.std.proofs.Common.{inr, ◌+◌, ◌*◌, ℕ, List, drop, sym, ◌∙◌, ap, subst, arith}
use Rattle.entry_codec.specs.declared.encoder.TheConstants.{ENTRY_SIZE}
use Rattle.outside_io.specs.Disk.{LeavesOnly}
use Rattle.outside_io.specs.Moments.{widened}
use Rattle.outside_io.specs.Telling.{where_told, told, turned_back}
use Rattle.journal_format.specs.Journals.{IsBeforeOrAfterAll}
use Rattle.move_journal.specs.Kept.{JournalState, IsOpen}
use Rattle.move_journal.proofs.Turning.{rests_show, leaves_show}
use Rattle.move_journal.proofs.Appends.{open_within, open_more, open_holds, read_after, stands_either}
use Rattle.move_journal.proofs.journal.Journal.append_all.Goals as goal

pub write_entries-requires-clause-within : goal.write_entries-requires-clause-within
write_entries-requires-clause-within g c = λ file is.
    open_within c.self.inside.gate c.self.inside.len file (told _ _ file is (c.self.invariant.rests c.if-self.false)).0

pub invariant_of-self : goal.invariant_of-self
invariant_of-self g c = record {
  rests = λ _. where_told _ _ (λ new is.
      let more = c.args.group.now.grants in
      let old = turned_back _ _ _ new is c.in-Ok.ensures.tells in
      let rests = told _ _ old.0 old.1 (c.self.invariant.rests c.if-self.false) in
      let holds = open_holds _ _ old.0 rests.0 rests.0.text rests.0.grants more _ (inr rests.0.journal) c.bytes.ensures.bytes
      c.requires.some c.bytes.ensures.are_read in
      let after = told _ _ new is (c.in-Ok.ensures.stored old.0 rests.0.text rests.0.grants more old.1 rests.1 holds) in (
        subst (λ (n : ℕ). IsOpen (c.self.inside.gate + ENTRY_SIZE * n) (c.self.inside.len + n) new)
            (sym c.len-count.ensures)
            (open_more _ _ old.0 rests.0 new more after.0),
        after.1,
      ));
  in_range = omega (arith, c.self.invariant.in_range);
}

pub returns-in-Ok-clause-stored : goal.returns-in-Ok-clause-stored
returns-in-Ok-clause-stored g c file text grants is stands =
    let more = c.args.group.now.grants in
    let was = ap (λ (j : JournalState _). g.D.Disk.reads_as j.disk) c.self.view_is ∙ is in
    let rests = told _ _ file was (c.self.invariant.rests c.if-self.false) in
    let holds = open_holds _ _ file rests.0 text grants more _ stands c.bytes.ensures.bytes c.requires.some c.bytes.ensures.are_read in
    rests_show _ _ _ _ (λ f journal. inr journal) (c.in-Ok.ensures.stored file text grants more was rests.1 holds)

pub returns-in-Ok-clause-bytes : goal.returns-in-Ok-clause-bytes
returns-in-Ok-clause-bytes g c file text grants is stands =
    let more = c.args.group.now.grants in
    let was = ap (λ (j : JournalState _). g.D.Disk.reads_as j.disk) c.self.view_is ∙ is in
    let rests = told _ _ file was (c.self.invariant.rests c.if-self.false) in
    let holds = open_holds _ _ file rests.0 text grants more _ stands c.bytes.ensures.bytes c.requires.some c.bytes.ensures.are_read in
    read_after _ _ file _ _ _ _ was c.in-Ok.ensures.bytes holds.gate_is (ap (λ (l : List ℕ). drop 1 l) c.bytes.ensures.bytes)

pub returns-in-Ok-clause-kept : goal.returns-in-Ok-clause-kept
returns-in-Ok-clause-kept g c file text grants is stands running =
    let more = c.args.group.now.grants in
    let was = ap (λ (j : JournalState _). g.D.Disk.reads_as j.disk) c.self.view_is ∙ is in
    let rests = told _ _ file was (c.self.invariant.rests c.if-self.false) in
    let holds = open_holds _ _ file rests.0 text grants more _ stands c.bytes.ensures.bytes c.requires.some c.bytes.ensures.are_read in
    rests_show _ _ _ _ (λ f journal. inr (inr journal)) (c.in-Ok.ensures.stored file text grants more was rests.1 holds)

pub returns-in-Ok-clause-any_moment : goal.returns-in-Ok-clause-any_moment
returns-in-Ok-clause-any_moment g c file text grants is stands running =
    let more = c.args.group.now.grants in
    let was = ap (λ (j : JournalState _). g.D.Disk.reads_as j.disk) c.self.view_is ∙ is in
    let rests = told _ _ file was (c.self.invariant.rests c.if-self.false) in
    let holds = open_holds _ _ file rests.0 text grants more _ stands c.bytes.ensures.bytes c.requires.some c.bytes.ensures.are_read in
    let P = IsBeforeOrAfterAll text grants more in
    let moments = widened g.D.Disk.moment g.D.Disk.left_since _ _ _ P
    (c.in-Ok.ensures.any_moment file text grants more was rests.1 holds) (stands_either text grants more) in
    subst (λ (j : JournalState _). LeavesOnly g.D.Disk.moment g.D.Disk.left_since j.disk c.write_entries.new.disk P) c.self.view_is moments

pub returns-in-Err-clause-kept : goal.returns-in-Err-clause-kept
returns-in-Err-clause-kept g c file text grants is stands running =
    let more = c.args.group.now.grants in
    let was = ap (λ (j : JournalState _). g.D.Disk.reads_as j.disk) c.self.view_is ∙ is in
    let rests = told _ _ file was (c.self.invariant.rests c.if-self.false) in
    let holds = open_holds _ _ file rests.0 text grants more _ stands c.bytes.ensures.bytes c.requires.some c.bytes.ensures.are_read in
    leaves_show _ _ _ (g.met.D.Disk.reads_now c.write_entries.new.disk)
    (λ f left. stands_either text grants more f (c.in-Err.ensures.left file text grants more was rests.1 holds f left))

pub returns-in-Err-clause-any_moment : goal.returns-in-Err-clause-any_moment
returns-in-Err-clause-any_moment g c file text grants is stands running =
    let more = c.args.group.now.grants in
    let was = ap (λ (j : JournalState _). g.D.Disk.reads_as j.disk) c.self.view_is ∙ is in
    let rests = told _ _ file was (c.self.invariant.rests c.if-self.false) in
    let holds = open_holds _ _ file rests.0 text grants more _ stands c.bytes.ensures.bytes c.requires.some c.bytes.ensures.are_read in
    let P = IsBeforeOrAfterAll text grants more in
    let moments = widened g.D.Disk.moment g.D.Disk.left_since _ _ _ P
    (c.in-Err.ensures.any_moment file text grants more was rests.1 holds) (stands_either text grants more) in
    subst (λ (j : JournalState _). LeavesOnly g.D.Disk.moment g.D.Disk.left_since j.disk c.write_entries.new.disk P) c.self.view_is moments
