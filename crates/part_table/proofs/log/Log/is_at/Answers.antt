-- What stands at the place was read, and what stays there and is of the job is the only entry that does.
use Rattle.std.proofs.Common.{◌≡◌, ℕ, Some, slice_get, ap, subst, sym, arith, ◌∙◌}
use Rattle.std.proofs.lemmas.Bool.{true≢false, eqb-true, eq-eqb}
use Rattle.std.proofs.lemmas.Option.{same_Some, slice_get_within}
use Rattle.cell_base.specs.declared.requests.JobId.{JobId}
use Rattle.part_table.specs.declared.standing.Entry.{Entry}
use Rattle.part_table.specs.Slots.{place_at}
use Rattle.part_table.specs.Logs.{entry_job, IsPlaceOf}
use Rattle.part_table.proofs.Jobs.{place_staying}
use Rattle.part_table.proofs.log.Log.is_at.Goals as goal

pub returns-then-entry-clause-here : goal.returns-then-entry-clause-here
returns-then-entry-clause-here c is =
    let entries = c.self.inside.chain.entries in
    rw (← c.self.view_is)
    (subst (λ (n : ℕ). let job : JobId = record { 0 = n } in IsPlaceOf entries job c.args.at) (eqb-true _ _ is)
    (place_staying entries (place_at c.self.inside.slots) c.self.invariant.placed c.args.at c.get-entry.result c.get-entry.ensures
    c.if-entry.true))

pub returns-then-entry-clause-away : goal.returns-then-entry-clause-away
returns-then-entry-clause-away c is entry e stays same =
    let here : slice_get c.self.inside.chain.entries c.args.at ≡ Some entry = rw (← c.self.view_is) at e in
    let read = same_Some c.get-entry.result entry (sym c.get-entry.ensures ∙ here) in
    true≢false (sym (eq-eqb (entry_job c.get-entry.result) c.args.job.0 (ap entry_job read ∙ same)) ∙ is)

pub returns-else-entry-clause-away : goal.returns-else-entry-clause-away
returns-else-entry-clause-away c is entry e stays same =
    let here : slice_get c.self.inside.chain.entries c.args.at ≡ Some entry = rw (← c.self.view_is) at e in
    let read = same_Some c.get-entry.result entry (sym c.get-entry.ensures ∙ here) in
    true≢false (sym stays ∙ sym (ap (λ (x : Entry). x.stays) read) ∙ is)

pub returns-else-at-len-clause-away : goal.returns-else-at-len-clause-away
returns-else-at-len-clause-away c is entry e stays same =
    let here : slice_get c.self.inside.chain.entries c.args.at ≡ Some entry = rw (← c.self.view_is) at e in
    let inside = slice_get_within c.self.inside.chain.entries c.args.at entry here in
    absurd (omega (arith, inside, c.if-at-len.false, c.len.ensures))
