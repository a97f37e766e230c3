-- The line of one part more is kept.
use Rattle.std.proofs.Common.{◌≡◌, List, Some, ap, codes, map, refl, slice_get, sym, take, ◌∙◌, ◌++◌, ◌∷◌, []}
use Rattle.admission_core.specs.CoreState.{CoreState}
use Rattle.cell_base.specs.declared.cells.Cell.{Cell}
use Rattle.cell_base.specs.declared.requests.Part.{Part}
use Rattle.serve_command.specs.Answers.{item_line}
use Rattle.serve_command.specs.declared.server.Server.{Server}
use Rattle.serve_command.proofs.Listed.{line_more}
use Rattle.serve_command.proofs.Listing.{items-more}
use Rattle.serve_command.proofs.server.Server.add_parts.Goals as goal

pub loop-i-preserved : goal.loop-i-preserved
loop-i-preserved g c =
    let start = c.args.self.now in
    let inv = c.loop-i.invariant.kept in
    let i = c.loop-i.i in
    let part = c.part_at-part.result in
    let word = codes "part" in
    let parts = start.live.parts in
    let lines = map (item_line start.live.cell word) (take i parts) in
    let parts_are = ap (λ (k : CoreState). k.parts) c.core-in-loop-i.ensures.core ∙ ap (λ (s : Server _). s.live.parts) inv in
    let found : slice_get parts i ≡ Some part = ap (λ (ps : List Part). slice_get ps i) (sym parts_are) ∙ c.part_at-part.ensures in
    let cell_is = c.cell.ensures.cell ∙ ap (λ (k : CoreState). k.cell) c.core-in-loop-i-2.ensures.core
    ∙ ap (λ (s : Server _). s.live.cell) inv in
    let line_is = c.part_line-line.ensures ∙ ap (λ (k : Cell). item_line k word part) cell_is in
    let more = ap (λ (line : List _). lines ++ line ∷ []) line_is ∙ sym (items-more start.live.cell word parts i part found) in
    record {
      kept = line_more start c.loop-i.self lines inv c.part_line-line.result c.push.new.self c.push.ensures
          ∙ ap (λ (ls : List (List _)). record start { replies = start.replies ++ ls }) more;
      behind = (i, part, refl, found, refl);
    }
