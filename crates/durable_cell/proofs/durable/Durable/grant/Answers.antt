-- A grant that is written is one entry more, and so is one whose writing failed.
use Rattle.std.specs.Prelude.{Some}
use Rattle.std.specs.Option.{option_to_list}
use Rattle.std.proofs.Common.{[], ◌∷◌, ◌++◌, length, refl, sym, ◌∙◌, ap, subst, arith}
use Rattle.std.proofs.lemmas.List.{append-nil, length_push}
use Rattle.cell_base.specs.declared.requests.Reply.TheVariants.{Granted}
use Rattle.cell_base.specs.declared.requests.Told.TheVariants.{Answered, Halted}
use Rattle.cell_base.specs.declared.shifts.Entry.{Entry}
use Rattle.cell_base.specs.Outcomes.{state_after}
use Rattle.admission_core.specs.CoreState.{CoreState}
use Rattle.outside_io.specs.Causes.{Rose}
use Rattle.durable_cell.specs.Acknowledged.{MovesSafely}
use Rattle.durable_cell.specs.Asked.{entry, with_entry}
use Rattle.durable_cell.specs.DurableState.{DurableState, seen}
use Rattle.durable_cell.specs.Kept.{Keeps}
use Rattle.durable_cell.proofs.Acknowledging.{written}
use Rattle.durable_cell.proofs.Grown.{keeps_history, keeps_parts, seen_more, goes_before, device_alone}
use Rattle.durable_cell.proofs.Moving.{Appends, disk_has_more, disk_is_unsure}
use Rattle.durable_cell.proofs.durable.Durable.grant.Goals as goal

pub invariant_of-self : goal.invariant_of-self
invariant_of-self g c =
    let i = c.self.inside in let v = c.self.invariant in let grant = c.args.grant in
    let old = seen i.entry i.found i.core i.text i.journal (g.G.Recall.grants i.opening) i.history.items i.added.items i.unsure i.limit in
    let e : Entry = entry grant.session grant.request (Answered Granted) in
    let goes = goes_before old c.args.self.now grant.request v.0 c.self.view_is c.requires.goes_on c.requires.granted in
    let running = v.2.runs goes.none in
    let appends : Appends g.D.Disk.reads_as g.D.Disk.may_leave g.D.Disk.moment g.D.Disk.left_since g.D.Disk.faults i.journal.disk
    c.append.new.self.disk i.text grant = record {
      tells = c.in-Ok.ensures.tells;
      kept = λ file grants is stands. c.in-Ok.ensures.kept file i.text grants is stands running;
      any_moment = λ file grants is stands. c.in-Ok.ensures.any_moment file i.text grants is stands running;
    } in
    let core_is = c.apply.ensures
    ∙ ap (λ (k : CoreState). after k) v.2.state in
    let more = seen_more i.entry i.found old.entry old.found i.core c.apply.new.self i.text i.journal c.append.new.self
    (g.G.Recall.grants i.opening)
    i.history.items c.push-in-Ok.new.self.items i.added.items c.push.new.self.items i.unsure i.unsure i.limit grant.shift e
    v.2.first v.2.second
    (ap (λ (k : CoreState). k.cell) c.apply.ensures)
    (c.push-in-Ok.ensures.items ∙ ap (λ (x : Entry). i.history.items ++ x ∷ []) c.entry.ensures) c.push.ensures.items goes.none in
    subst (λ (d : DurableState _). Keeps g.D.Disk.reads_as g.D.Disk.may_leave g.D.Disk.moment g.D.Disk.left_since g.D.Disk.faults d
    i.entry i.found c.apply.new.self c.append.new.self c.push-in-Ok.new.self.spare c.push.new.self.spare) (sym more) (
      keeps_history old c.append.new.self.disk grant.shift e v.0 goes.none goes.room goes.right,
      disk_has_more g.D.Disk.reads_as g.D.Disk.may_leave g.D.Disk.moment g.D.Disk.left_since g.D.Disk.faults old
          c.append.new.self.disk (old.history ++ e ∷ []) grant goes.none v.1 appends c.in-Ok.ensures.no_fault
          (λ file grants is stands. c.in-Ok.ensures.stored file i.text grants is stands),
      keeps_parts old grant.shift e i.entry i.found i.core c.apply.new.self i.journal c.append.new.self i.history.spare i.added.spare
          c.push-in-Ok.new.self.spare c.push.new.self.spare v.2 core_is (λ _. c.in-Ok.ensures.runs) (omega (arith, c.in-Ok.ensures.grown))
          c.in-Ok.ensures.grown c.push-in-Ok.ensures.spare (omega (arith, c.push.ensures.spare)),
    )
  where
    after : CoreState → CoreState
    after k = record k { parts = state_after k.cell k.parts c.args.grant.request }

pub invariant_of-self-in-Err : goal.invariant_of-self-in-Err
invariant_of-self-in-Err g c =
    let i = c.self.inside in let v = c.self.invariant in let grant = c.args.grant in
    let old = seen i.entry i.found i.core i.text i.journal (g.G.Recall.grants i.opening) i.history.items i.added.items i.unsure i.limit in
    let e : Entry = entry grant.session grant.request Halted in
    let goes = goes_before old c.args.self.now grant.request v.0 c.self.view_is c.requires.goes_on c.requires.granted in
    let running = v.2.runs goes.none in
    let appends : Appends g.D.Disk.reads_as g.D.Disk.may_leave g.D.Disk.moment g.D.Disk.left_since g.D.Disk.faults i.journal.disk
    c.append.new.self.disk i.text grant = record {
      tells = c.in-Err.ensures.tells;
      kept = λ file grants is stands. c.in-Err.ensures.kept file i.text grants is stands running;
      any_moment = λ file grants is stands. c.in-Err.ensures.any_moment file i.text grants is stands running;
    } in
    let device = device_alone c.in-Err.field-0 i.journal.is_halted c.in-Err.ensures.halted_only running in
    let more = seen_more i.entry i.found old.entry old.found i.core i.core i.text i.journal c.append.new.self
    (g.G.Recall.grants i.opening)
    i.history.items c.push-in-Err.new.self.items i.added.items i.added.items i.unsure (Some grant) i.limit grant.shift e v.2.first
    v.2.second refl (c.push-in-Err.ensures.items ∙ ap (λ (x : Entry). i.history.items ++ x ∷ []) c.entry-in-Err.ensures) (sym
    (append-nil i.added.items)) refl in
    subst (λ (d : DurableState _). Keeps g.D.Disk.reads_as g.D.Disk.may_leave g.D.Disk.moment g.D.Disk.left_since g.D.Disk.faults d
    i.entry i.found i.core c.append.new.self c.push-in-Err.new.self.spare i.added.spare) (sym more) (
      keeps_history old c.append.new.self.disk grant.shift e v.0 goes.none goes.room (goes.right, refl),
      disk_is_unsure g.D.Disk.reads_as g.D.Disk.may_leave g.D.Disk.moment g.D.Disk.left_since g.D.Disk.faults old
          c.append.new.self.disk (old.history ++ e ∷ []) grant goes.none v.1 appends (c.in-Err.ensures.device device),
      keeps_parts old grant.shift e i.entry i.found i.core i.core i.journal c.append.new.self i.history.spare i.added.spare
          c.push-in-Err.new.self.spare i.added.spare v.2 v.2.state (λ no. absurd (cc)) (omega (arith, c.in-Err.ensures.same_len device))
          (omega (arith, c.in-Err.ensures.same_len device)) c.push-in-Err.ensures.spare (omega arith),
    )

pub returns-in-Ok-clause-legal : goal.returns-in-Ok-clause-legal
returns-in-Ok-clause-legal g c = (invariant_of-self g c).0.legal

pub returns-in-Err-clause-legal : goal.returns-in-Err-clause-legal
returns-in-Err-clause-legal g c = (invariant_of-self-in-Err g c).0.legal

pub returns-in-Ok-clause-answer : goal.returns-in-Ok-clause-answer
returns-in-Ok-clause-answer g c =
    let i = c.self.inside in let v = c.self.invariant in let grant = c.args.grant in
    let old = seen i.entry i.found i.core i.text i.journal (g.G.Recall.grants i.opening) i.history.items i.added.items i.unsure i.limit in
    let e : Entry = entry grant.session grant.request (Answered Granted) in
    let goes = goes_before old c.args.self.now grant.request v.0 c.self.view_is c.requires.goes_on c.requires.granted in
    let more = seen_more i.entry i.found old.entry old.found i.core c.apply.new.self i.text i.journal c.append.new.self
    (g.G.Recall.grants i.opening)
    i.history.items c.push-in-Ok.new.self.items i.added.items c.push.new.self.items i.unsure i.unsure i.limit grant.shift e
    v.2.first v.2.second
    (ap (λ (k : CoreState). k.cell) c.apply.ensures)
    (c.push-in-Ok.ensures.items ∙ ap (λ (x : Entry). i.history.items ++ x ∷ []) c.entry.ensures) c.push.ensures.items goes.none in
    let same = more ∙ ap (λ (d : DurableState _). with_entry d c.append.new.self.disk grant.shift e) c.self.view_is in
    (same, sym c.requires.granted, c.requires.goes_on)

pub returns-in-Ok-clause-disk : goal.returns-in-Ok-clause-disk
returns-in-Ok-clause-disk g c =
    let i = c.self.inside in let v = c.self.invariant in let grant = c.args.grant in
    let old = seen i.entry i.found i.core i.text i.journal (g.G.Recall.grants i.opening) i.history.items i.added.items i.unsure i.limit in
    let new = seen i.entry i.found c.apply.new.self i.text c.append.new.self (g.G.Recall.grants i.opening) c.push-in-Ok.new.self.items
    c.push.new.self.items i.unsure i.limit in
    let goes = goes_before old c.args.self.now grant.request v.0 c.self.view_is c.requires.goes_on c.requires.granted in
    let running = v.2.runs goes.none in
    subst (λ (d : DurableState _). MovesSafely g.D.Disk.reads_as g.D.Disk.may_leave g.D.Disk.moment g.D.Disk.left_since d new)
    c.self.view_is
    (written g.D.Disk.reads_as g.D.Disk.may_leave g.D.Disk.moment g.D.Disk.left_since g.D.Disk.faults old new grant g.met.D.Disk.only_now
    goes.none v.1 (invariant_of-self g c).1
    (record {
      tells = c.in-Ok.ensures.tells;
      kept = λ file grants is stands. c.in-Ok.ensures.kept file i.text grants is stands running;
      any_moment = λ file grants is stands. c.in-Ok.ensures.any_moment file i.text grants is stands running;
    })
    refl refl (omega (arith, ap length c.push.ensures.items, length_push i.added.items grant))
    ((λ j. c.push.ensures.items j ++ option_to_list (goes.none j)) ∙ append-nil (i.added.items ++ grant ∷ [])))

pub returns-in-Err-clause-disk : goal.returns-in-Err-clause-disk
returns-in-Err-clause-disk g c =
    let i = c.self.inside in let v = c.self.invariant in let grant = c.args.grant in
    let old = seen i.entry i.found i.core i.text i.journal (g.G.Recall.grants i.opening) i.history.items i.added.items i.unsure i.limit in
    let new = seen i.entry i.found i.core i.text c.append.new.self (g.G.Recall.grants i.opening) c.push-in-Err.new.self.items i.added.items
    (Some grant) i.limit in
    let goes = goes_before old c.args.self.now grant.request v.0 c.self.view_is c.requires.goes_on c.requires.granted in
    let running = v.2.runs goes.none in
    subst (λ (d : DurableState _). MovesSafely g.D.Disk.reads_as g.D.Disk.may_leave g.D.Disk.moment g.D.Disk.left_since d new)
    c.self.view_is
    (written g.D.Disk.reads_as g.D.Disk.may_leave g.D.Disk.moment g.D.Disk.left_since g.D.Disk.faults old new grant g.met.D.Disk.only_now
    goes.none v.1 (invariant_of-self-in-Err g c).1
    (record {
      tells = c.in-Err.ensures.tells;
      kept = λ file grants is stands. c.in-Err.ensures.kept file i.text grants is stands running;
      any_moment = λ file grants is stands. c.in-Err.ensures.any_moment file i.text grants is stands running;
    })
    refl refl (omega arith) refl)

pub returns-in-Err-clause-cause : goal.returns-in-Err-clause-cause
returns-in-Err-clause-cause g c =
    let i = c.self.inside in let v = c.self.invariant in
    let old = seen i.entry i.found i.core i.text i.journal (g.G.Recall.grants i.opening) i.history.items i.added.items i.unsure i.limit in
    let goes = goes_before old c.args.self.now c.args.grant.request v.0 c.self.view_is c.requires.goes_on c.requires.granted in
    let device = device_alone c.in-Err.field-0 i.journal.is_halted c.in-Err.ensures.halted_only (v.2.runs goes.none) in
    subst (λ (d : DurableState _). Rose (g.D.Disk.faults d.disk) (g.D.Disk.faults c.append.new.self.disk)) c.self.view_is
    (c.in-Err.ensures.device device)
