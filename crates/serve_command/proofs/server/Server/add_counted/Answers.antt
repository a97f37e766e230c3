-- The line of one part more is kept where it is counted.
use Rattle.std.proofs.Common.{◌≡◌, List, Some, ap, arith, codes, length, map, refl, slice_get, sym, take, ◌∙◌, ◌++◌, ◌∷◌, []}
use Rattle.std.proofs.lemmas.List.{length-append, length-map}
use Rattle.admission_core.specs.CoreState.{CoreState}
use Rattle.cell_base.specs.declared.cells.Cell.{Cell}
use Rattle.cell_base.specs.declared.requests.Part.{Part}
use Rattle.cell_base.specs.Neighborhoods.{counted, leads}
use Rattle.cell_base.specs.Stages.{stage_of}
use Rattle.serve_command.specs.Answers.{item_line}
use Rattle.serve_command.specs.declared.server.Server.{Server}
use Rattle.serve_command.proofs.Listed.{line_more}
use Rattle.serve_command.proofs.Listing.{counted-few, counted-next, counted-other}
use Rattle.serve_command.proofs.server.Server.add_counted.Goals as goal
use Rattle.serve_command.proofs.server.Server.add_counted.Goals.{then-leads, else-leads}

pub push-requires : goal.push-requires
push-requires g c =
    let start = c.args.self.now in
    let some = counted start.live.cell (take c.loop-i.i start.live.parts) c.args.at.0 in
    let lines = map (item_line start.live.cell (codes "job")) some in
    omega (
      arith,
      c.requires.short,
      c.loop-i-test.true,
      c.parts_left-i-end.ensures,
      ap (λ (k : CoreState). length k.parts) c.core.ensures.core,
      ap (λ (s : Server _). length s.replies) c.loop-i.invariant.kept,
      length-append start.replies lines,
      length-map some (item_line start.live.cell (codes "job")),
      counted-few start.live.cell start.live.parts c.loop-i.i c.args.at.0,
    )

pub loop-i-preserved : goal.loop-i-preserved
loop-i-preserved g c =
    let start = c.args.self.now in
    let cell = start.live.cell in
    let inv = c.loop-i.invariant.kept in
    let i = c.loop-i.i in
    let r = c.args.at.0 in
    let part = c.part_at-part.result in
    let word = codes "job" in
    let parts = start.live.parts in
    let lines = map (item_line cell word) (counted cell (take i parts) r) in
    let parts_are = ap (λ (k : CoreState). k.parts) c.core-core.ensures.core ∙ ap (λ (s : Server _). s.live.parts) inv in
    let found : slice_get parts i ≡ Some part = ap (λ (ps : List Part). slice_get ps i) (sym parts_are) ∙ c.part_at-part.ensures in
    let core_cell = ap (λ (k : CoreState). k.cell) c.core-core.ensures.core ∙ ap (λ (s : Server _). s.live.cell) inv in
    let here = ap (λ (k : Cell). leads k (stage_of part) r) (sym core_cell) ∙ sym c.leads.ensures in
    record {
      kept = elim c.if-leads.branch [
        | then-leads w ↦
            let line_is = w.part_line-line.ensures ∙ ap (λ (k : Cell). item_line k word part) (w.cell.ensures.cell ∙ core_cell) in
            let more = ap (λ (line : List _). lines ++ line ∷ []) line_is
            ∙ sym (counted-next cell word parts i part found r (here ∙ w.if-leads.true)) in
            w.self-is
            ∙ line_more start c.loop-i.self lines inv w.part_line-line.result w.push.new.self w.push.ensures
            ∙ ap (λ (ls : List (List _)). record start { replies = start.replies ++ ls }) more
        | else-leads w ↦
            w.self-is ∙ inv
            ∙ ap (λ (ps : List Part). record start { replies = start.replies ++ map (item_line cell word) ps })
            (sym (counted-other cell word parts i part found r (here ∙ w.if-leads.false)))
      ];
      behind = (i, part, refl, found, refl);
    }
