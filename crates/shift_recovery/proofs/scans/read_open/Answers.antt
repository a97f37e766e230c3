-- The text is compared after the head, and then come the gates.
use Rattle.std.specs.Prelude.{Ok, Err, Some}
use Rattle.std.proofs.Common.{◌≡◌, ◌+◌, ◌∙◌, ℕ, length, take, drop, ap, sym, subst, arith}
use Rattle.journal_format.specs.declared.head.TheConstants.{TEXT_AT}
use Rattle.journal_format.specs.declared.head.Head.TheVariants.{Open}
use Rattle.journal_format.specs.declared.fault.JournalFault.TheVariants.{OtherCell}
use Rattle.journal_format.specs.Journals.{IsJournal, gate_of}
use Rattle.journal_format.specs.Readings.{head_of, read_as}
use Rattle.journal_format.proofs.HeadReading.{open_fits, reads_by_head, other_text, same_text_then, no_difference, gate_after}
use Rattle.journal_format.proofs.OpenHeads.{journal_found, open_small}
use Rattle.journal_format.proofs.Ends.{walk_back}
use Rattle.outside_io.specs.Telling.{where_told, told}
use Rattle.shift_recovery.specs.declared.texts.Compared.{Compared}
use Rattle.shift_recovery.specs.declared.walks.Walked.{Walked}
use Rattle.shift_recovery.specs.Windows.{IsTextEnd}
use Rattle.shift_recovery.specs.Walked.{IsWalkFrom}
use Rattle.shift_recovery.proofs.FirstPieces.{file_of_piece, head_of_file}
use Rattle.shift_recovery.proofs.scans.read_open.Goals as goal

pub compare-requires-clause-within : goal.compare-requires-clause-within
compare-requires-clause-within g c =
    omega (arith, open_fits c.args.start.len c.args.start.bytes.items c.args.size c.requires.head, c.from-size.ensures)

pub compare-requires-clause-read : goal.compare-requires-clause-read
compare-requires-clause-read g c =
    let fits = open_fits c.args.start.len c.args.start.bytes.items c.args.size c.requires.head in
    (omega (arith, c.requires.start.size), omega (arith, c.requires.start.size, fits))

pub compare-requires-clause-bytes : goal.compare-requires-clause-bytes
compare-requires-clause-bytes g c file is = file_of_piece _ _ _ file c.requires.start is

pub returns-in-Differs-clause-exact : goal.returns-in-Differs-clause-exact
returns-in-Differs-clause-exact g c =
    let text = c.args.cell_text.now in let room = c.args.room in let size = c.from-size.result in
    where_told _ (λ file. read_as file text room ≡ Err (OtherCell c.in-Differs.at)) (λ file is.
    let head = head_of_file _ _ _ file c.requires.start is (Open c.args.size) c.requires.head ∙ ap (λ (k : ℕ). Open k) (sym c.from-size.ensures) in
    let compared = subst (λ (x : Compared). IsTextEnd g.D.Disk.reads_as c.args.disk.now c.args.start.len size text x) c.in-Differs.is
    c.in_ok-at.ensures.compared in
    reads_by_head file text room (Open size) head ∙ other_text file text room size c.in-Differs.at (told _ _ file is compared))

pub returns-in-Faulty-clause-exact : goal.returns-in-Faulty-clause-exact
returns-in-Faulty-clause-exact g c =
    let text = c.args.cell_text.now in let room = c.args.room in let size = c.from-size.result in
    where_told _ (λ file. read_as file text room ≡ Err c.in-Faulty.why) (λ file is.
    let head = head_of_file _ _ _ file c.requires.start is (Open c.args.size) c.requires.head ∙ ap (λ (k : ℕ). Open k) (sym c.from-size.ensures) in
    let compared = subst (λ (x : Compared). IsTextEnd g.D.Disk.reads_as c.args.disk.now c.args.start.len size text x) c.in-Same.is
    c.in_ok-at.ensures.compared in
    let walked = subst (λ (x : Walked). IsWalkFrom (g.D.Disk.reads_as c.compare.new.disk) (TEXT_AT + size) room
    g.T.GrantVisitor.visited c.args.visitor.now c.walk.new.visitor x) c.in-Faulty.is c.in_ok-why-in-Same.ensures.walked in
    reads_by_head file text room (Open size) head
    ∙ same_text_then file text room size (Err c.in-Faulty.why) (told _ _ file is compared.0)
    (told _ _ file (c.in_ok-at.ensures.reads.same ∙ is) walked))

pub returns-in-Closed-clause-exact : goal.returns-in-Closed-clause-exact
returns-in-Closed-clause-exact g c =
    let text = c.args.cell_text.now in let room = c.args.room in let size = c.from-size.result in
    let bytes = c.args.start.bytes.items in
    let walked = subst (λ (x : Walked). IsWalkFrom (g.D.Disk.reads_as c.compare.new.disk) (TEXT_AT + size) room
    g.T.GrantVisitor.visited c.args.visitor.now c.walk.new.visitor x) c.in-Closed.is c.in_ok-why-in-Same.ensures.walked in
    let grants = walked.grants in
    record {
      first = TEXT_AT + size;
      grants = grants;
      taken = walked.taken;
      few = omega (arith, walked.few, walked.counted);
      counted = walked.counted;
      small = omega (
        arith,
        walked.gate_is,
        open_small c.args.start.len bytes c.args.size c.requires.bytes c.requires.head,
        c.from-size.ensures,
      );
      read = where_told _ (λ file. (read_as file text room ≡ Ok (Some grants)) × (TEXT_AT + size ≡ TEXT_AT + length text)
          × (c.in-Closed.gate ≡ gate_of text grants) × IsJournal file text grants) (λ file is.
          let kept_head : head_of c.args.start.len bytes ≡ Open size = c.requires.head ∙ ap (λ (k : ℕ). Open k) (sym c.from-size.ensures) in
          let head = head_of_file _ _ _ file c.requires.start is (Open size) kept_head in
          let compared = subst (λ (x : Compared). IsTextEnd g.D.Disk.reads_as c.args.disk.now c.args.start.len size text x) c.in-Same.is
          c.in_ok-at.ensures.compared in
          let none = told _ _ file is compared.0 in
          let fits = open_fits (length file) file size head in
          let walked_file = told _ _ file (c.in_ok-at.ensures.reads.same ∙ is) walked.found in
          let gate_is = gate_after file text size c.in-Closed.gate grants fits none walked.gate_is in
          let shows = file_of_piece _ _ _ file c.requires.start is in (
            reads_by_head file text room (Open size) head ∙ same_text_then file text room size (Ok grants) none walked_file,
            omega (arith, gate_is, walked.gate_is),
            gate_is,
            journal_found file bytes (drop (length bytes) file) text c.args.start.len size grants shows.1
                (omega (arith, c.requires.start.size, fits, shows.0)) c.requires.bytes kept_head fits
                (no_difference 0 (take size (drop TEXT_AT file)) text none)
                (walk_back room room (TEXT_AT + size) (drop (TEXT_AT + size) file) grants walked_file),
          ));
    }
