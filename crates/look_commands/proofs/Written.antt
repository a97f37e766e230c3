-- The record of grants has a text of its own, and the check finds right whatever that text is read as.
use Rattle.std.proofs.Common.{◌≡◌, ◌∙◌, ℕ, ◌^◌, ◌<◌, ◌≤◌, Bool, cond, List, []}
use Rattle.std.proofs.Common.{◌∷◌, length, All, Ok, refl, sym, ap, subst, arith, append-nil}
use Rattle.std.proofs.lemmas.List.Elements.{All-nil, All-cons, All-head, All-tail, All-weaker}
use Rattle.std.proofs.lemmas.List.Sums.{sum_by-le}
use Rattle.cell_base.specs.declared.cells.Cell.{Cell}
use Rattle.cell_base.specs.declared.requests.Part.{Part}
use Rattle.cell_base.specs.declared.shifts.Grant.{Grant}
use Rattle.cell_base.specs.Fits.{CellFits, RequestFits}
use Rattle.cell_base.specs.Histories.{after, after_requests, replay, requests_of}
use Rattle.cell_base.specs.Outcomes.{state_after}
use Rattle.cell_base.specs.Plans.{plan_of, work_of}
use Rattle.cell_base.specs.Policy.{IsAdmitted}
use Rattle.cell_base.specs.Stages.{IsStage, stage_of}
use Rattle.journal_format.specs.Replayed.{AreDue}
use Rattle.policy_laws.proofs.Plans.{length-plan_of}
use Rattle.policy_laws.proofs.Units.{units_law}
use Rattle.admission_core.proofs.Tallying.{work_of-le}
use Rattle.record_text.specs.Blocks.{AreBlocks, BlockFits, HaltsRightly, TailIsWritten}
use Rattle.record_text.specs.Ranges.{EntryIsWritten}
use Rattle.record_text.specs.Records.{tail_of, text_of_block}
use Rattle.record_text.specs.declared.blocks.Block.{Block}
use Rattle.record_text.specs.declared.blocks.Tail.{Tail}
use Rattle.record_text.specs.declared.blocks.Tail.TheVariants.{Halted, Planned}
use Rattle.record_text.proofs.Exact.{same_text}
use Rattle.cell_texts.specs.RecordReads.{record_reads}
use Rattle.journal_texts.proofs.Replays.{replay_admitted}
use Rattle.shift_checker.specs.Judging.{judge}
use Rattle.shift_checker.specs.declared.verdict.Verdict.TheVariants.{Yes}
use Rattle.look_commands.specs.Grants.{GrantInRange, block_of_grants, entry_of, history_of}
use Rattle.look_commands.proofs.Ranges.{PartInRange, after_in_range, plan_written}
use Rattle.look_commands.proofs.Right.{after_is, grants_right, none_halts}

module _ (cell : Cell) (fits : CellFits cell) where
  -- the entries have lines
  entries_written : (grants : List Grant) → All (λ (grant : Grant). RequestFits cell grant.request) grants → All GrantInRange grants
      → All (EntryIsWritten cell) (history_of grants)
  entries_written [] fit range = All-nil (EntryIsWritten cell)
  entries_written (grant ∷ grants) fit range =
      let Fits : Grant → Type 0 = λ g. RequestFits cell g.request in
      let here : GrantInRange grant = All-head GrantInRange grant grants range in
      All-cons (EntryIsWritten cell) (entry_of grant) (history_of grants)
      (record {
        fits = record { request = All-head Fits grant grants fit; told = tt };
        session = here.session;
        job = here.job;
        told = tt;
      })
      (entries_written grants (All-tail Fits grant grants fit) (All-tail GrantInRange grant grants range))

  -- the parts that they leave have jobs in range
  left_in_range : (parts : List Part) (grants : List Grant) → All PartInRange parts → All GrantInRange grants
      → All PartInRange (after_requests cell parts (requests_of grants))
  left_in_range parts [] all range = all
  left_in_range parts (grant ∷ grants) all range =
      left_in_range (state_after cell parts grant.request) grants
      (after_in_range cell parts grant.request all (All-head GrantInRange grant grants range).job)
      (All-tail GrantInRange grant grants range)

  steps_few : (parts : List Part) → IsAdmitted cell parts → length (plan_of cell parts) < 2 ^ 64
  steps_few parts admitted =
      omega (
        arith,
        length-plan_of cell fits parts admitted,
        sum_by-le (work_of cell) 129 parts
            (All-weaker (λ part. IsStage cell (stage_of part)) (λ part. work_of cell part ≤ 129)
            (work_of-le cell fits parts) parts admitted.state.standing),
        units_law cell fits parts admitted,
        fits.units,
      )

  module _ (grants : List Grant) (due : AreDue cell grants) (range : All GrantInRange grants) where
    abbrev left : List Part
    left = replay cell grants

    abbrev tail : Tail
    tail = Planned (length (after cell [] (history_of grants))) (plan_of cell left)

    admitted : IsAdmitted cell left
    admitted = replay_admitted cell fits grants due

    tail_is : tail ≡ tail_of cell [] (history_of grants) (plan_of cell left)
    tail_is = ap (λ (halts : Bool). cond halts Halted tail) (sym (none_halts grants))

    few_left : length (after cell [] (history_of grants)) < 2 ^ 32
    few_left =
        omega (arith, ap (λ (parts : List Part). length parts) (after_is cell grants), units_law cell fits left admitted, fits.units)

    -- the block has a text
    block_fits : BlockFits cell (block_of_grants cell grants)
    block_fits = record {
      shift = omega arith;
      after = omega arith;
      entries = entries_written grants due.fit range;
      halts = subst (HaltsRightly (history_of grants)) tail_is (none_halts grants);
      tail = subst (TailIsWritten cell) tail_is
          (few_left, steps_few left admitted, plan_written cell fits left admitted (left_in_range [] grants (All-nil PartInRange) range));
    }

    pub record_written : AreBlocks cell (block_of_grants cell grants ∷ [])
    record_written = record {
      some = omega arith;
      fit = All-cons (BlockFits cell) (block_of_grants cell grants) [] block_fits (All-nil (BlockFits cell));
      numbered = (refl, tt);
    }

    -- what its text is read as is right
    pub found_right : (text : List ℕ) (blocks : List Block) → text ≡ text_of_block cell (block_of_grants cell grants)
        → record_reads cell text (Ok blocks) → judge cell blocks ≡ Yes
    found_right text blocks is reads =
        let same : block_of_grants cell grants ∷ [] ≡ blocks = same_text cell fits (block_of_grants cell grants ∷ []) blocks record_written
        reads.1.written
        (append-nil (text_of_block cell (block_of_grants cell grants)) ∙ sym is ∙ reads.1.text) in
        subst (λ (found : List Block). judge cell found ≡ Yes) same (grants_right cell fits grants due)
