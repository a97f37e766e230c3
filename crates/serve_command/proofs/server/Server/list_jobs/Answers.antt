-- The head and the lines are a list of the parts that are counted where the step is refused.
use Rattle.std.proofs.Common.{◌≡◌, List, ap, codes, length, map, subst, sym, ◌∙◌, []}
use Rattle.admission_core.specs.CoreState.{CoreState}
use Rattle.cell_base.specs.declared.requests.Part.{Part}
use Rattle.cell_base.specs.declared.requests.Refusal.TheVariants.{Saturated}
use Rattle.cell_base.specs.declared.requests.Reply.TheVariants.{Refused}
use Rattle.cell_base.specs.Neighborhoods.{counted}
use Rattle.cell_base.specs.Outcomes.{reply_to}
use Rattle.record_text.specs.Lines.{line_of}
use Rattle.serve_command.specs.Answers.{item_line, jobs_words}
use Rattle.serve_command.specs.Serving.{IsSaid}
use Rattle.serve_command.specs.Talks.{in_the_way, parts_in_the_way, said_listed}
use Rattle.serve_command.specs.declared.asks.Ask.TheVariants.{Jobs}
use Rattle.serve_command.specs.declared.server.Server.{Server}
use Rattle.serve_command.proofs.Listed.{kept_after, listed_said, listed_waiters}
use Rattle.serve_command.proofs.server.Server.list_jobs.Goals as goal

pub returns-in-Refused-Saturated-clause-answered : goal.returns-in-Refused-Saturated-clause-answered
returns-in-Refused-Saturated-clause-answered g c = λ talk at.
    let old = c.args.self.now in
    let new = c.add_counted.new.self in
    let cell = old.live.cell in
    let parts = old.live.parts in
    let request = c.args.request.now in
    let arm = c.in-Refused-Saturated in
    let r = arm.at.0 in
    let head = c.jobs_line-head.result in
    let core_is = c.core-core.ensures.core in
    let is = kept_after old c.keep.new.self new head
    (λ (s : Server _). map (item_line s.live.cell (codes "job")) (counted s.live.cell s.live.parts r)) c.keep.ensures.kept
    c.add_counted.ensures in
    let told : reply_to c.core-core.result.now.cell c.core-core.result.now.parts request ≡ Refused (Saturated arm.at arm.count arm.capacity) =
    cc (c.decide.ensures.reply, arm.is, arm.field-0-is) in
    let refused : reply_to cell parts request ≡ Refused (Saturated arm.at arm.count arm.capacity) =
    ap (λ (k : CoreState). reply_to k.cell k.parts request) (sym core_is) ∙ told in
    let way = ap (λ (ps : List Part). parts_in_the_way cell ps request) (sym at.parts) ∙ ap (in_the_way cell parts) refused in
    let count_is = c.refusal_is_present.ensures.counted ∙ ap (λ (k : CoreState). length (counted k.cell k.parts r)) core_is
    ∙ ap (λ (ps : List Part). length ps) (sym way) in
    let cell_is = c.cell.ensures.cell ∙ ap (λ (k : CoreState). k.cell) core_is in
    let head_is = c.jobs_line-head.ensures ∙ (λ i. line_of (jobs_words (cell_is i) request (count_is i))) in
    subst (λ (ps : List Part). IsSaid cell talk old [] (said_listed talk (Jobs request) (codes "job") ps) new) (sym way)
    (listed_said old new (codes "job") (counted cell parts r) head is talk (Jobs request) [] at head_is)

pub returns-in-Refused-Saturated-clause-waiters : goal.returns-in-Refused-Saturated-clause-waiters
returns-in-Refused-Saturated-clause-waiters g c =
    let old = c.args.self.now in
    let new = c.add_counted.new.self in
    let r = c.in-Refused-Saturated.at.0 in
    let head = c.jobs_line-head.result in
    let is = kept_after old c.keep.new.self new head
    (λ (s : Server _). map (item_line s.live.cell (codes "job")) (counted s.live.cell s.live.parts r)) c.keep.ensures.kept
    c.add_counted.ensures in
    listed_waiters old new (codes "job") (counted old.live.cell old.live.parts r) head is c.requires.waiters
