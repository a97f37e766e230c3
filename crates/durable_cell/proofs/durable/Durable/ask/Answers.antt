-- A halt stands last, and a refused request is one entry more that changes nothing else.
use Rattle.std.specs.Prelude.{Option, Some, None}
use Rattle.std.proofs.Common.{◌≡◌, ◌<◌, ◌-◌, ℕ, List, [], ◌∷◌, ◌++◌, length, refl, sym, ◌∙◌, ap, subst, arith}
use Rattle.std.proofs.lemmas.List.{append-nil}
use Rattle.cell_base.specs.declared.cells.Cell.{Cell}
use Rattle.cell_base.specs.declared.requests.Part.{Part}
use Rattle.cell_base.specs.declared.requests.Reply.TheVariants.{Refused}
use Rattle.cell_base.specs.declared.requests.Told.TheVariants.{Answered}
use Rattle.cell_base.specs.declared.shifts.Entry.{Entry}
use Rattle.cell_base.specs.Outcomes.{reply_to}
use Rattle.admission_core.specs.CoreState.{CoreState}
use Rattle.policy_laws.specs.Laws.{RefusalLaw}
use Rattle.durable_cell.specs.Acknowledged.{MovesSafely}
use Rattle.durable_cell.specs.Asked.{halted_at, entry, with_entry, GoesOn}
use Rattle.durable_cell.specs.DurableState.{DurableState, parts, seen}
use Rattle.durable_cell.specs.Kept.{Keeps}
use Rattle.durable_cell.proofs.Acknowledging.{unwritten}
use Rattle.durable_cell.proofs.Grown.{keeps_history, keeps_parts, seen_more, unsure_last, none_by_test, no_halt_yet}
use Rattle.durable_cell.proofs.Moving.{disk_stays}
use Rattle.durable_cell.proofs.durable.Durable.ask.Goals as goal

abbrev some : ℕ → Option ℕ
some n = Some n

pub returns-then-is_some-clause-answer : goal.returns-then-is_some-clause-answer
returns-then-is_some-clause-answer g c =
    let i = c.self.inside in
    let old = seen i.entry i.found i.core i.text i.journal (g.G.Recall.grants i.opening) i.history.items i.added.items i.unsure i.limit in
    let last = unsure_last old c.self.invariant.0 (sym c.is_some.ensures ∙ c.if-is_some.true) in (
      refl,
      subst (λ (d : DurableState _). halted_at d.history ≡ Some (c.len-len.result - 1)) c.self.view_is
          (last ∙ ap (λ (n : ℕ). some (n - 1)) (sym c.len-len.ensures)),
    )

pub returns-then-len-self-clause-answer : goal.returns-then-len-self-clause-answer
returns-then-len-self-clause-answer g c =
    let i = c.self.inside in let v = c.self.invariant in
    let old = seen i.entry i.found i.core i.text i.journal (g.G.Recall.grants i.opening) i.history.items i.added.items i.unsure i.limit in
    let none = no_halt_yet old v.0 (none_by_test i.unsure (sym c.is_some.ensures ∙ c.if-is_some.false)) in (
      refl,
      subst (λ (d : DurableState _). halted_at d.history ≡ None) c.self.view_is none,
      subst (λ (d : DurableState _). c.len-len.result ≡ length d.history) c.self.view_is c.len-len.ensures,
      subst (λ (d : DurableState _). length d.history ≡ d.limit) c.self.view_is
          (let full : length i.history.items ≡ i.limit = omega (arith, c.len-len.ensures, c.if-len-self.true, v.0.within) in full),
    )

pub grant-requires-clause-goes_on : goal.grant-requires-clause-goes_on
grant-requires-clause-goes_on g c =
    let i = c.self.inside in let v = c.self.invariant in
    let old = seen i.entry i.found i.core i.text i.journal (g.G.Recall.grants i.opening) i.history.items i.added.items i.unsure i.limit in
    let none = no_halt_yet old v.0 (none_by_test i.unsure (sym c.is_some.ensures ∙ c.if-is_some.false)) in
    let room : length i.history.items < i.limit = omega (arith, c.len-len.ensures, c.if-len-self.false) in
    subst (λ (d : DurableState _). GoesOn d) c.self.view_is (record { no_halt = none; has_room = room })

pub invariant_of-self : goal.invariant_of-self
invariant_of-self g c =
    let i = c.self.inside in let v = c.self.invariant in let request = c.args.request.now in
    let old = seen i.entry i.found i.core i.text i.journal (g.G.Recall.grants i.opening) i.history.items i.added.items i.unsure i.limit in
    let e : Entry = entry c.args.session request (Answered (Refused c.in-Refused.why)) in
    let none = none_by_test i.unsure (sym c.is_some.ensures ∙ c.if-is_some.false) in
    let room : length i.history.items < i.limit = omega (arith, c.len-len.ensures, c.if-len-self.false) in
    let law = subst (λ (cell : Cell). RefusalLaw cell) c.cell.ensures.cell c.refusal_law.ensures in
    let state_is = ap (λ (k : CoreState). k.parts) v.2.state in
    let right : reply_to i.core.cell (parts old) request ≡ Refused c.in-Refused.why =
    ap (λ ps. reply_to i.core.cell ps request) (sym state_is) ∙ sym c.in-Refused.ensures.reply in
    let stays = law (parts old) request c.in-Refused.why right in
    let more = seen_more i.entry i.found old.entry old.found i.core i.core i.text i.journal i.journal (g.G.Recall.grants i.opening)
    i.history.items
    c.push.new.self.items i.added.items i.added.items i.unsure i.unsure i.limit c.args.shift e v.2.first v.2.second refl
    (c.push.ensures.items ∙ ap (λ (x : Entry). i.history.items ++ x ∷ []) c.entry.ensures) (sym (append-nil i.added.items)) none in
    subst (λ (d : DurableState _). Keeps g.D.Disk.reads_as g.D.Disk.may_leave g.D.Disk.moment g.D.Disk.left_since g.D.Disk.faults d
    i.entry i.found i.core i.journal c.push.new.self.spare i.added.spare) (sym more) (
      keeps_history old i.journal.disk c.args.shift e v.0 none room right,
      disk_stays g.D.Disk.reads_as g.D.Disk.may_leave g.D.Disk.moment g.D.Disk.left_since g.D.Disk.faults old
          (old.history ++ e ∷ []) (old.added ++ []) None (append-nil i.added.items) (sym none) v.1,
      keeps_parts old c.args.shift e i.entry i.found i.core i.core i.journal i.journal i.history.spare i.added.spare
          c.push.new.self.spare i.added.spare v.2 (v.2.state ∙ ap (λ ps. core_of i.core.cell ps) (sym stays)) (λ _. v.2.runs none)
          (omega arith) (omega arith) c.push.ensures.spare (omega arith),
    )
  where
    core_of : Cell → List Part → CoreState
    core_of cell ps = record { cell = cell; parts = ps }

pub returns-in-Refused-clause-legal : goal.returns-in-Refused-clause-legal
returns-in-Refused-clause-legal g c = (invariant_of-self g c).0.legal

pub returns-in-Refused-clause-answer : goal.returns-in-Refused-clause-answer
returns-in-Refused-clause-answer g c =
    let i = c.self.inside in let v = c.self.invariant in let request = c.args.request.now in
    let old = seen i.entry i.found i.core i.text i.journal (g.G.Recall.grants i.opening) i.history.items i.added.items i.unsure i.limit in
    let e : Entry = entry c.args.session request (Answered (Refused c.in-Refused.why)) in
    let none = none_by_test i.unsure (sym c.is_some.ensures ∙ c.if-is_some.false) in
    let room : length i.history.items < i.limit = omega (arith, c.len-len.ensures, c.if-len-self.false) in
    let state_is = ap (λ (k : CoreState). k.parts) v.2.state in
    let more = seen_more i.entry i.found old.entry old.found i.core i.core i.text i.journal i.journal (g.G.Recall.grants i.opening)
    i.history.items
    c.push.new.self.items i.added.items i.added.items i.unsure i.unsure i.limit c.args.shift e v.2.first v.2.second refl
    (c.push.ensures.items ∙ ap (λ (x : Entry). i.history.items ++ x ∷ []) c.entry.ensures) (sym (append-nil i.added.items)) none in (
      more ∙ ap (λ (d : DurableState _). with_entry d i.journal.disk c.args.shift e) c.self.view_is,
      subst (λ (d : DurableState _). Refused c.in-Refused.why ≡ reply_to d.cell (parts d) request) c.self.view_is
          (c.in-Refused.ensures.reply ∙ ap (λ ps. reply_to i.core.cell ps request) state_is),
      subst (λ (d : DurableState _). GoesOn d) c.self.view_is (record { no_halt = no_halt_yet old v.0 none; has_room = room }),
    )

pub returns-then-is_some-clause-disk : goal.returns-then-is_some-clause-disk
returns-then-is_some-clause-disk g c =
    let i = c.self.inside in
    let old = seen i.entry i.found i.core i.text i.journal (g.G.Recall.grants i.opening) i.history.items i.added.items i.unsure i.limit in
    subst (λ (d : DurableState _). MovesSafely g.D.Disk.reads_as g.D.Disk.may_leave g.D.Disk.moment g.D.Disk.left_since d d) c.self.view_is
    (unwritten g.D.Disk.reads_as g.D.Disk.may_leave g.D.Disk.moment g.D.Disk.left_since g.D.Disk.faults old old.history old.added old.unsure
    g.met.D.Disk.only_now refl refl c.self.invariant.1)

pub returns-then-len-self-clause-disk : goal.returns-then-len-self-clause-disk
returns-then-len-self-clause-disk g c =
    let i = c.self.inside in
    let old = seen i.entry i.found i.core i.text i.journal (g.G.Recall.grants i.opening) i.history.items i.added.items i.unsure i.limit in
    subst (λ (d : DurableState _). MovesSafely g.D.Disk.reads_as g.D.Disk.may_leave g.D.Disk.moment g.D.Disk.left_since d d) c.self.view_is
    (unwritten g.D.Disk.reads_as g.D.Disk.may_leave g.D.Disk.moment g.D.Disk.left_since g.D.Disk.faults old old.history old.added old.unsure
    g.met.D.Disk.only_now refl refl c.self.invariant.1)

pub returns-in-Refused-clause-disk : goal.returns-in-Refused-clause-disk
returns-in-Refused-clause-disk g c =
    let i = c.self.inside in
    let old = seen i.entry i.found i.core i.text i.journal (g.G.Recall.grants i.opening) i.history.items i.added.items i.unsure i.limit in
    let new = seen i.entry i.found i.core i.text i.journal (g.G.Recall.grants i.opening) c.push.new.self.items i.added.items i.unsure
    i.limit in
    subst (λ (d : DurableState _). MovesSafely g.D.Disk.reads_as g.D.Disk.may_leave g.D.Disk.moment g.D.Disk.left_since d new)
    c.self.view_is
    (unwritten g.D.Disk.reads_as g.D.Disk.may_leave g.D.Disk.moment g.D.Disk.left_since g.D.Disk.faults old c.push.new.self.items old.added
    old.unsure g.met.D.Disk.only_now refl refl c.self.invariant.1)
