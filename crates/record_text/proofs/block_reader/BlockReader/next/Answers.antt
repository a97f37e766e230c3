-- That one line more keeps it, and what each line leaves.
use Rattle.std.proofs.Common.{◌≡◌, false, ◌+◌, ◌≤◌, ◌⊎◌, ◌∷◌, ◌++◌, [], length, Some, None, ap, sym, subst, inl, inr, arith, ◌∙◌}
use Rattle.cell_base.specs.declared.cells.Cell.{Cell}
use Rattle.cell_base.specs.Fits.{CellFits}
use Rattle.step_text.specs.Words.{words}
use Rattle.record_text.specs.declared.stages.Stage.TheVariants.{Between}
use Rattle.record_text.specs.Progress.{LacksStep, is_between, on_line}
use Rattle.record_text.specs.Remains.{Remains, IsReadTo}
use Rattle.record_text.proofs.Portions.{IsReadOn, none_read, one_read, some_bytes, true_false, block_read, refused_line, refused_end}
use Rattle.record_text.proofs.block_reader.BlockReader.next.Goals.{else-is_empty-via-then-is_empty+else-self-gt1}
use Rattle.record_text.proofs.block_reader.BlockReader.next.Goals.{else-is_empty-via-else-is_empty}
use Rattle.record_text.proofs.block_reader.BlockReader.next.Goals as goal

pub loop-more-init : goal.loop-more-init
loop-more-init c =
    let here = c.self.inside in
    let begins : (1 ≤ length here.rest.now) ⊎ (here.number ≤ 1) = elim c.else-is_empty.branch [
      | else-is_empty-via-then-is_empty+else-self-gt1 w ↦ inr (omega (arith, w.if-self-gt1.false))
      | else-is_empty-via-else-is_empty w ↦ inl (some_bytes (length here.rest.now) (sym c.is_empty.ensures ∙ w.if-is_empty.false))
    ] in
    record {
      cell = ap (λ (left : Remains). left.cell) c.self.view_is;
      from = ap (λ (left : Remains). left.number) c.self.view_is;
      bytes = ap (λ (left : Remains). left.bytes) c.self.view_is;
      fits = subst (λ (left : Remains). CellFits left.cell) c.self.view_is c.self.invariant.0;
      within = subst (λ (left : Remains). left.number + length left.bytes ≤ 160000001) c.self.view_is c.self.invariant.1;
      stage = tt;
      counted = c.self.invariant.1;
      unended = λ between. begins;
      shorter = omega (arith, ap (λ (left : Remains). length left.bytes) c.self.view_is);
      read =
          subst (λ (left : Remains). IsReadOn left.cell left.number left.bytes here.number ([], Between) here.rest.now) c.self.view_is
          (none_read here.cell.now here.number here.rest.now);
    }

pub invariant_of-self : goal.invariant_of-self
invariant_of-self c =
    let so_far = c.loop-more.invariant in
    (subst CellFits (sym so_far.cell) so_far.fits, omega (arith, so_far.from, ap length so_far.bytes, so_far.within))

pub returns-in_default-clause-refused : goal.returns-in_default-clause-refused
returns-in_default-clause-refused c = λ bytes given is.
    let loop = c.loop-more in
    refused_end c.args.self.now bytes given is loop.invariant.fits loop.number loop.stage loop.rest.now loop.invariant.read
    c.cut_line.result.0.now (rw c.in_default.is at c.cut_line.ensures.pieces) loop.invariant.unended

pub returns-in_default-clause-cell : goal.returns-in_default-clause-cell
returns-in_default-clause-cell c = c.loop-more.invariant.cell

pub invariant_of-self-in_err-next : goal.invariant_of-self-in_err-next
invariant_of-self-in_err-next c =
    let so_far = c.loop-more.invariant in
    (subst CellFits (sym so_far.cell) so_far.fits, omega (arith, so_far.from, ap length so_far.bytes, so_far.within))

pub returns-in_err-next-clause-cell : goal.returns-in_err-next-clause-cell
returns-in_err-next-clause-cell c = c.loop-more.invariant.cell

pub invariant_of-self-in-Some-Whole : goal.invariant_of-self-in-Some-Whole
invariant_of-self-in-Some-Whole c =
    let so_far = c.loop-more.invariant in
    let shorter = rw c.in-Some.is at c.cut_line.ensures.shorter in
    (subst CellFits (sym so_far.cell) so_far.fits, omega (arith, so_far.counted, shorter))

pub returns-in-Some-Whole-clause-block : goal.returns-in-Some-Whole-clause-block
returns-in-Some-Whole-clause-block c = λ bytes given is.
    let loop = c.loop-more in
    let left = c.args.self.now in
    let block = c.in-Some-Whole.block in
    let line = c.cut_line.result.0.now in
    let on : Some (block ∷ [], Between) ≡ on_line left.cell loop.number [] loop.stage (words line) =
    subst (λ (cell : Cell). Some (block ∷ [], Between) ≡ on_line cell loop.number [] loop.stage (words line)) loop.invariant.cell
    (rw (c.in-Some-Whole.is, c.in-Some-Whole.field-0-is) at c.in_ok-next.ensures.next) in
    subst (λ (cell : Cell). IsReadTo (record { cell = cell; number = loop.number + 1; bytes = c.in-Some.more.now }) bytes
    (given ++ block ∷ [])) (sym loop.invariant.cell)
    (block_read left bytes given is (loop.number + 1) block c.in-Some.more.now
    (one_read left.cell left.number left.bytes loop.number loop.stage loop.rest.now line c.in-Some.more.now (block ∷ [], Between)
    (rw c.in-Some.is at c.cut_line.ensures.pieces) on loop.invariant.read))

pub returns-in-Some-Whole-clause-cell : goal.returns-in-Some-Whole-clause-cell
returns-in-Some-Whole-clause-cell c = c.loop-more.invariant.cell

pub invariant_of-self-in-None : goal.invariant_of-self-in-None
invariant_of-self-in-None c =
    let so_far = c.loop-more.invariant in
    (subst CellFits (sym so_far.cell) so_far.fits, omega (arith, so_far.from, ap length so_far.bytes, so_far.within))

pub returns-in-None-clause-refused : goal.returns-in-None-clause-refused
returns-in-None-clause-refused c = λ bytes given is.
    let loop = c.loop-more in
    let left = c.args.self.now in
    let line = c.cut_line.result.0.now in
    refused_line left bytes given is loop.invariant.fits loop.number loop.stage loop.rest.now loop.invariant.read line c.in-Some.more.now
    (rw c.in-Some.is at c.cut_line.ensures.pieces)
    (subst (λ (cell : Cell). None ≡ on_line cell loop.number [] loop.stage (words line)) loop.invariant.cell
    (rw c.in-None.is at c.in_ok-next.ensures.next))

pub returns-in-None-clause-cell : goal.returns-in-None-clause-cell
returns-in-None-clause-cell c = c.loop-more.invariant.cell

pub loop-more-preserved : goal.loop-more-preserved
loop-more-preserved c =
    let loop = c.loop-more in
    let so_far = loop.invariant in
    let left = c.args.self.now in
    let stage = c.in-Some-Within.next in
    let line = c.cut_line.result.0.now in
    let shorter = rw c.in-Some.is at c.cut_line.ensures.shorter in
    let within : LacksStep stage × (is_between stage ≡ false) =
    rw (c.in-Some-Within.is, c.in-Some-Within.field-0-is) at c.in_ok-next.ensures.within in
    record {
      cell = so_far.cell;
      from = so_far.from;
      bytes = so_far.bytes;
      fits = so_far.fits;
      within = so_far.within;
      stage = within.0;
      counted = omega (arith, so_far.counted, shorter);
      unended = λ between. absurd (true_false (sym between ∙ within.1));
      shorter = omega (arith, so_far.shorter, shorter);
      read =
          one_read left.cell left.number left.bytes loop.number loop.stage loop.rest.now line c.in-Some.more.now ([], stage)
          (rw c.in-Some.is at c.cut_line.ensures.pieces)
          (subst (λ (cell : Cell). Some ([], stage) ≡ on_line cell loop.number [] loop.stage (words line)) so_far.cell
          (rw (c.in-Some-Within.is, c.in-Some-Within.field-0-is) at c.in_ok-next.ensures.next)) so_far.read;
    }
