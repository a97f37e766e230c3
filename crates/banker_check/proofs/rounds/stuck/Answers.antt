-- Each round but the last leaves out a part.
use Rattle.std.proofs.Common.{true, false, List, ◌++◌, ◌∷◌, [], replicate, sym, arith}
use Rattle.cell_base.specs.declared.requests.Part.{Part}
use Rattle.cell_base.specs.Outcomes.{without}
use Rattle.banker_check.specs.Counts.{counts_on}
use Rattle.banker_check.proofs.Within.{length-filter_most}
use Rattle.banker_check.proofs.Counting.{length-in_place, distinct-in_place}
use Rattle.banker_check.proofs.LeavingOut.{round-first, round-next, round-fewer, round-last}
use Rattle.banker_check.proofs.rounds.stuck.Goals as goal

pub loop-init : goal.loop-init
loop-init c =
    let cell = c.args.table.now in
    let parts : List Part = without c.args.parts.now c.args.last.job ++ c.args.last ∷ [] in (
      (counts_on cell (replicate 64 0) true, round-first cell parts (replicate 64 0) c.round-held.result c.round-held.ensures),
      omega (
        arith,
        c.round-held.ensures.size,
        length-filter_most
            (counts_on cell (replicate 64 0) true) parts,
        length-in_place c.args.parts.now c.args.last,
      ),
    )

pub returns-then-next-held : goal.returns-then-next-held
returns-then-next-held c =
    let parts : List Part = without c.args.parts.now c.args.last.job ++ c.args.last ∷ [] in
    let distinct = distinct-in_place c.args.parts.now c.args.last c.requires.distinct in
    let round = c.loop.invariant.0 in
    sym (round-last c.args.table.now parts distinct round.0 c.loop.held c.round-next.result round.1 c.round-next.ensures
    c.if-next-held.true)

pub loop-preserved : goal.loop-preserved
loop-preserved c =
    let cell = c.args.table.now in
    let parts : List Part = without c.args.parts.now c.args.last.job ++ c.args.last ∷ [] in
    let distinct = distinct-in_place c.args.parts.now c.args.last c.requires.distinct in
    let round = c.loop.invariant.0 in (
      (
        counts_on cell c.loop.held.on false,
        round-next cell parts distinct round.0 c.loop.held c.round-next.result round.1 c.round-next.ensures,
      ),
      omega (
        arith,
        c.loop.invariant.1,
        c.if-next-held.false,
        round-fewer cell parts distinct round.0 c.loop.held c.round-next.result round.1 c.round-next.ensures,
      ),
    )
