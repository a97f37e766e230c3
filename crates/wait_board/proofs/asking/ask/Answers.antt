-- A saturated request waits, and watches the neighborhood that it is told; any other refusal is only told.
use Rattle.std.proofs.Common.{◌≡◌, List, [], ◌∷◌, ◌++◌, cond, ap, sym, subst, ◌∙◌, arith}
use Rattle.cell_base.specs.declared.cells.Cell.{Cell}
use Rattle.cell_base.specs.declared.requests.Part.{Part}
use Rattle.cell_base.specs.declared.requests.Refusal.{Refusal}
use Rattle.cell_base.specs.declared.requests.Refusal.TheVariants.{Saturated}
use Rattle.cell_base.specs.declared.requests.Reply.TheVariants.{Refused}
use Rattle.cell_base.specs.Outcomes.{reply_to}
use Rattle.policy_laws.specs.Laws.{RefusalLaw}
use Rattle.admission_core.specs.CoreState.{CoreState}
use Rattle.wait_queue.specs.Laws.{WatchLaw}
use Rattle.wait_queue.specs.Watching.{AreWatching}
use Rattle.wait_board.specs.declared.entries.BoardEntry.{BoardEntry}
use Rattle.wait_board.specs.declared.entries.BoardReply.{BoardReply}
use Rattle.wait_board.specs.declared.entries.BoardReply.TheVariants as answers
use Rattle.wait_board.specs.declared.entries.BoardTold.TheVariants as told
use Rattle.wait_board.specs.Boards.{OnBoard, board_reply, noted, told_on, with_waiter}
use Rattle.wait_board.specs.BoardState.{on_board}
use Rattle.wait_board.proofs.Steps.{unsaturated}
use Rattle.wait_board.proofs.asking.ask.Goals as goal

pub push-requires-in-Saturated-2-clause-at : goal.push-requires-in-Saturated-2-clause-at
push-requires-in-Saturated-2-clause-at c =
    let cell = c.args.core.now.cell in let parts = c.args.core.now.parts in let arm = c.in-Saturated in
    let law = subst (λ (k : Cell). WatchLaw k) c.cell-cell.ensures.cell c.watch_law.ensures in
    let is : reply_to cell parts c.args.request.now ≡ Refused (Saturated arm.at arm.count arm.capacity) =
    sym c.ask.ensures.reply ∙ c.in-Refused.is ∙ ap (λ (why : Refusal). Refused why) arm.is in
    let named = (law parts c.args.request.now c.cell-cell.ensures.admitted c.requires.request).named arm.at arm.count arm.capacity is in
    omega (arith, named.0.0, c.cell-cell.ensures.fits.resource_count.1)

pub returns-in-Saturated-clause-watching : goal.returns-in-Saturated-clause-watching
returns-in-Saturated-clause-watching c =
    let core = c.args.core.now in let arm = c.in-Saturated in let request = c.args.request.now in
    let law = subst (λ (k : Cell). RefusalLaw k) c.cell-cell.ensures.cell c.refusal_law.ensures in
    let refused : reply_to core.cell core.parts request ≡ Refused c.in-Refused.why = sym c.ask.ensures.reply ∙ c.in-Refused.is in
    let is : reply_to core.cell core.parts request ≡ Refused (Saturated arm.at arm.count arm.capacity) =
    refused ∙ ap (λ (why : Refusal). Refused why) arm.is in
    let same : c.ask.new.core ≡ core =
    c.ask.ensures.core ∙ ap (λ (ps : List Part). record core { parts = ps }) (law core.parts request c.in-Refused.why refused) in
    let before = subst (λ (k : CoreState). AreWatching k.cell k.parts c.ask.new.waiters.waiters c.ask.new.waiters.watches) same
    c.ask.ensures.watching in
    subst (λ (k : CoreState). AreWatching k.cell k.parts c.push-in-Saturated-2.new.self.waiters c.push-in-Saturated-2.new.self.watches)
    (sym same)
    (c.push-in-Saturated-2.ensures.watching core.cell core.parts arm.count arm.capacity c.cell-cell.ensures.fits
    c.cell-cell.ensures.admitted c.requires.request is before)

pub returns-in_default-clause-reply : goal.returns-in_default-clause-reply
returns-in_default-clause-reply c =
    let core = c.args.core.now in let request = c.args.request.now in let why = c.in-Refused.why in
    let refused : reply_to core.cell core.parts request ≡ Refused why = sym c.ask.ensures.reply ∙ c.in-Refused.is in
    let other = unsaturated why c.in_default.not-Saturated in
    sym (ap board_reply refused ∙ ap (λ b. cond {A = BoardReply} b (answers.Waits why) (answers.Refused why)) other)

pub returns-in_default-clause-board : goal.returns-in_default-clause-board
returns-in_default-clause-board c =
    let core = c.args.core.now in let request = c.args.request.now in let why = c.in-Refused.why in
    let session = c.args.session in let history = c.args.history.now.items in
    let on = on_board core c.args.waiters.now.waiters history in
    let law = subst (λ (k : Cell). RefusalLaw k) c.cell-cell.ensures.cell c.refusal_law.ensures in
    let refused : reply_to core.cell core.parts request ≡ Refused why = sym c.ask.ensures.reply ∙ c.in-Refused.is in
    let other = unsaturated why c.in_default.not-Saturated in
    let same : c.ask.new.core ≡ core =
    c.ask.ensures.core ∙ ap (λ (ps : List Part). record core { parts = ps }) (law core.parts request why refused) in
    let longer : c.push-in_default.new.self.items ≡ (noted on session request (told.Refused why)).history =
    c.push-in_default.ensures.items ∙ ap (λ (e : BoardEntry). history ++ e ∷ []) c.entry-in_default.ensures in
    let is_noted : on_board c.ask.new.core c.ask.new.waiters.waiters c.push-in_default.new.self.items ≡ noted on session request (told.Refused why) =
    λ k. record { parts = (ap (λ (s : CoreState). s.parts) same) k; waiters = c.ask.ensures.waiters k; history = longer k } in
    is_noted
    ∙ sym (ap (told_on core.cell on session request) refused
    ∙ ap (λ b. cond {A = OnBoard} b (with_waiter on session request why) (noted on session request (told.Refused why))) other)
