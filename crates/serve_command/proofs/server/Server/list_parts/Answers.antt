-- The head and the lines are a list of all parts.
use Rattle.std.proofs.Common.{List, ap, codes, length, map, subst, ◌∙◌, ◌∷◌, []}
use Rattle.std.specs.Fmt.{decimal}
use Rattle.admission_core.specs.CoreState.{CoreState}
use Rattle.cell_base.specs.declared.requests.Part.{Part}
use Rattle.record_text.specs.Lines.{line_of}
use Rattle.serve_command.specs.Answers.{item_line}
use Rattle.serve_command.specs.Serving.{IsSaid}
use Rattle.serve_command.specs.Talks.{said_listed}
use Rattle.serve_command.specs.declared.asks.Ask.TheVariants.{Parts}
use Rattle.serve_command.specs.declared.server.Server.{Server}
use Rattle.serve_command.proofs.Listed.{kept_after, listed_said, listed_waiters}
use Rattle.serve_command.proofs.server.Server.list_parts.Goals as goal

pub returns-clause-answered : goal.returns-clause-answered
returns-clause-answered g c = λ talk at.
    let old = c.args.self.now in
    let new = c.add_parts.new.self in
    let cell = old.live.cell in
    let is = kept_after old c.keep.new.self new c.parts_line-head.result
    (λ (s : Server _). map (item_line s.live.cell (codes "part")) s.live.parts) c.keep.ensures.kept c.add_parts.ensures in
    let count = c.parts_left.ensures ∙ ap (λ (s : CoreState). length s.parts) c.core.ensures.core ∙ ap (λ (ps : List Part). length ps) at.parts in
    let head_is = c.parts_line-head.ensures ∙ (λ i. line_of (codes "parts" ∷ decimal (count i) ∷ [])) in
    subst (λ (ps : List Part). IsSaid cell talk old [] (said_listed talk Parts (codes "part") ps) new) at.parts
    (listed_said old new (codes "part") old.live.parts c.parts_line-head.result is talk Parts [] at head_is)

pub returns-clause-waiters : goal.returns-clause-waiters
returns-clause-waiters g c =
    let old = c.args.self.now in
    let new = c.add_parts.new.self in
    let is = kept_after old c.keep.new.self new c.parts_line-head.result
    (λ (s : Server _). map (item_line s.live.cell (codes "part")) s.live.parts) c.keep.ensures.kept c.add_parts.ensures in
    listed_waiters old new (codes "part") old.live.parts c.parts_line-head.result is c.requires.waiters
