-- Lines that are judged as they are read.
use Rattle.std.proofs.Common.{◌≡◌, ℕ, ◌+◌, List, append-nil, refl, sym, ap, ◌∙◌, subst, arith}
use Rattle.cell_base.specs.declared.cells.Cell.{Cell}
use Rattle.record_text.specs.declared.record_lines.RecordLine.{RecordLine}
use Rattle.record_text.specs.declared.stages.Stage.{Stage}
use Rattle.record_text.specs.declared.stages.Stage.TheVariants.{Between}
use Rattle.record_text.specs.BadLines.{IsRecordOf}
use Rattle.record_text.specs.Blocks.{AreWellFormed}
use Rattle.record_text.specs.Progress.{Reading}
use Rattle.record_text.specs.Remains.{LinesLeft, AreRead}
use Rattle.record_text.specs.Turns.{LineFits, Suits, turn_of, unread, with_line}
use Rattle.shift_checker.specs.declared.verdict.Verdict.{Verdict}
use Rattle.shift_checker.specs.declared.verdict.Verdict.TheVariants.{Yes, No}
use Rattle.shift_checker.specs.Carrying.{unbegun, carried_lines}
use Rattle.shift_checker.specs.Judging.{IsVerdictOn, verdict_from}
use Rattle.shift_checker.specs.Lines.{IsWalked, Walked, judged, unmoved}
use Rattle.shift_checker.proofs.Staying.{stays}
use Rattle.shift_checker.proofs.Carrying.{judge_by_walk}

-- a walk that has found no line that fails stands after the lines that were read
pub record IsAfter (cell : Cell) (n : ℕ) (so_far : Reading) (walk : Walked) : Type 0 where
  pub of : walk.cell ≡ cell
  pub walked : IsWalked n so_far walk

-- lines have been read of the bytes, and this is the verdict on them
pub record AreJudged (cell : Cell) (bytes : List ℕ) (left : LinesLeft) (walk : Walked) (verdict : Verdict) : Type 0 where
  pub so_far : Reading
  pub of : left.cell ≡ cell
  pub read : AreRead left bytes so_far
  pub judged : verdict ≡ verdict_from 1 (judged cell so_far)
  pub here : verdict ≡ Yes → IsAfter cell left.number so_far walk

-- before the first line
pub begun : (cell : Cell) → IsWalked 1 unread (unmoved cell)
begun cell = record { right = refl; number = refl; here = refl; few = omega arith; fits = tt }

pub none_judged : (cell : Cell) (bytes : List ℕ) (left : LinesLeft) (walk : Walked) → left.cell ≡ cell → AreRead left bytes unread
    → left.number ≡ 1 → walk ≡ unmoved cell → AreJudged cell bytes left walk Yes
none_judged cell bytes left walk of read first is = record {
  so_far = unread;
  of = of;
  read = read;
  judged = refl;
  here = λ yes. record {
    of = ap (λ (walk : Walked). walk.cell) is;
    walked =
        subst (λ n. IsWalked n unread walk) (sym first)
        (subst (IsWalked 1 unread) (sym is) (begun cell));
  };
}

-- nothing more is there to be read
pub all_judged : (cell : Cell) (bytes : List ℕ) (left : LinesLeft) (walk : Walked) (verdict : Verdict)
    → (so_far : AreJudged cell bytes left walk verdict)
    → so_far.so_far.1 ≡ Between → IsRecordOf left.cell bytes so_far.so_far.0 → AreWellFormed left.cell so_far.so_far.0
    → IsVerdictOn cell bytes verdict
all_judged cell bytes left walk verdict so_far ended written formed =
    let blocks = so_far.so_far.0 in record {
      blocks = blocks;
      written = subst (λ (cell : Cell). IsRecordOf cell bytes blocks) so_far.of written;
      judged =
          so_far.judged
          ∙ ap (λ (stage : Stage). verdict_from 1 (judged cell (blocks, stage))) ended
          ∙ ap (verdict_from 1) (append-nil (carried_lines cell unbegun blocks))
          ∙ sym (judge_by_walk cell blocks (subst (λ (cell : Cell). AreWellFormed cell blocks) so_far.of formed).each);
    }

-- one line more was read
module _ (cell : Cell) (bytes : List ℕ) (left new : LinesLeft) (walk : Walked) (verdict : Verdict)
    (so_far : AreJudged cell bytes left walk verdict) (of : new.cell ≡ left.cell) (line : RecordLine) (fits : LineFits left.cell line)
    (suits : Suits left.turn line) (number : new.number ≡ left.number + 1)
    (read : AreRead new bytes (with_line left.number so_far.so_far.0 so_far.so_far.1 line)) where
  abbrev next : Reading
  next = with_line left.number so_far.so_far.0 so_far.so_far.1 line

  may_come : Suits (turn_of so_far.so_far.1) line
  may_come = subst (λ turn. Suits turn line) so_far.read.turn suits

  -- where a line failed already the verdict stays
  module _ (then : Walked) (other : Verdict) where
    pub stays_wrong : (verdict ≡ Yes → ⊥) → other ≡ verdict → AreJudged cell bytes new then other
    stays_wrong wrong is = by verdict refl
      where
        by : (v : Verdict) → verdict ≡ v → AreJudged cell bytes new then other
        by Yes clean = absurd (wrong clean)
        by (No line_number why) failed = record {
          so_far = next;
          of = of ∙ so_far.of;
          read = read;
          judged =
              is ∙ failed
              ∙ sym (stays cell left.number so_far.so_far.0 line_number why so_far.so_far.1 line may_come (sym so_far.judged ∙ failed));
          here = λ yes. absurd (wrong (sym is ∙ yes));
        }
