-- A full neighborhood is that of a resource, with the count and the capacity of the cell.
use Rattle.std.proofs.Common.{◌≡◌, ◌<◌, length, Some, ap, ap₂, sym, ◌∙◌, arith}
use Rattle.cell_base.specs.declared.cells.Cell.{Cell}
use Rattle.cell_base.specs.declared.requests.Refusal.TheVariants.{Saturated}
use Rattle.cell_base.specs.declared.requests.Reply.TheVariants.{Refused}
use Rattle.cell_base.specs.Stages.{capacity_of}
use Rattle.neighborhood_counts.specs.Counts.{first_full}
use Rattle.admission_core.specs.Replies.{reply_at}
use Rattle.admission_core.proofs.Moving.{some_resource, full_within}
use Rattle.admission_core.proofs.replies.reply_at.Goals as goal

pub count-requires : goal.count-requires
count-requires c =
    full_within c.args.tally.now.counts c.args.mask c.in-Some.at.0
    (some_resource (first_full c.args.tally.now.counts c.args.mask) c.in-Some.at (sym c.in-Some.is ∙ c.first_full.ensures))

pub capacity_of-requires : goal.capacity_of-requires
capacity_of-requires c =
    omega (
      arith,
      full_within c.args.tally.now.counts c.args.mask c.in-Some.at.0
          (some_resource (first_full c.args.tally.now.counts c.args.mask) c.in-Some.at (sym c.in-Some.is ∙ c.first_full.ensures)),
      c.requires.sound.tallied.counts.complete,
      ap (λ (cell : Cell). length cell.resources) c.cell.ensures.value,
    )

pub returns-in-Some : goal.returns-in-Some
returns-in-Some c =
    let cell = c.args.table.now in
    let parts = c.args.tally.now.parts.parts in
    let r = c.in-Some.at.0 in
    let full : first_full c.args.tally.now.counts c.args.mask ≡ Some r =
    some_resource (first_full c.args.tally.now.counts c.args.mask) c.in-Some.at (sym c.in-Some.is ∙ c.first_full.ensures) in
    let within : r < length cell.resources =
    omega (arith, full_within c.args.tally.now.counts c.args.mask r full, c.requires.sound.tallied.counts.complete) in
    ap₂ (λ held units. Refused (Saturated c.in-Some.at held units)) (c.count.ensures.count ∙ c.requires.sound.tallied.counts.each r within)
    (c.capacity_of.ensures ∙ ap (λ cell. capacity_of cell r) c.cell.ensures.value)
    ∙ ap (reply_at cell parts) (sym full)
