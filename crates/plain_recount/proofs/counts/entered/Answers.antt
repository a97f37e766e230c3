-- The bits of the mask of the part's stage that the present part's has not.
use Rattle.std.proofs.Common.{ℕ, ap, ap₂, sym, ◌∙◌, Option}
use Rattle.cell_base.specs.declared.requests.Part.{Part}
use Rattle.cell_base.specs.Masks.{has_bit, bits_only_of}
use Rattle.plain_recount.specs.Entering.{enters}
use Rattle.plain_recount.proofs.Entering.{enters-new, enters-instead, enters-within}
use Rattle.plain_recount.proofs.counts.entered.Goals as goal
use Rattle.plain_recount.proofs.counts.entered.Goals.{in-Some, in-None}

pub returns-clause-bits : goal.returns-clause-bits
returns-clause-bits c r =
    let cell = c.args.table.now in
    let fits = c.mask.ensures.fits in
    elim c.match-present.branch [
      | in-Some w ↦
          ap₂ (λ (a b : ℕ). has_bit (bits_only_of a b) r) c.mask.ensures.mask (w.counted-is ∙ w.mask-counted.ensures.mask)
          ∙ enters-instead cell fits c.args.part r w.in-Some.present
          ∙ ap (λ (present : Option Part). enters cell present c.args.part r) (sym w.in-Some.is)
      | in-None w ↦
          ap₂ (λ (a b : ℕ). has_bit (bits_only_of a b) r) c.mask.ensures.mask w.counted-is
          ∙ enters-new cell fits c.args.part r
          ∙ ap (λ (present : Option Part). enters cell present c.args.part r) (sym w.in-None.is)
    ]

pub returns-clause-within : goal.returns-clause-within
returns-clause-within c r e =
    enters-within c.args.table.now c.mask.ensures.fits c.args.part r c.args.present (sym (returns-clause-bits c r) ∙ e)
