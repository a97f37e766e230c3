-- The passes are new, the sessions run with them, and all of them come back.
use Rattle.std.proofs.Common.{◌≡◌, ℕ, ◌+◌, List, ◌++◌, length, take, drop, refl, sym, ap, ◌∙◌, subst, All}
use Rattle.std.specs.List.{refill}
use Rattle.std.proofs.lemmas.List.{take_at}
use mathlib.Core.List.{IsPrefix}
use Rattle.cell_base.specs.Histories.{entries_of}
use Rattle.cell_base.specs.Scripts.{script_of}
use Rattle.cell_lock.specs.Passes.{AreAll, PassState}
use Rattle.cell_sessions.specs.declared.progress.Progress.{Progress}
use Rattle.cell_sessions.specs.Progressing.{Starts, progress_at}
use Rattle.cell_sessions.specs.Starting.{AreBegun}
use Rattle.run_command.proofs.RunSessions.{all_new, begun_starts, after_sessions}
use Rattle.run_command.proofs.sessions.run_sessions.Goals as goal

-- a list that is written over as a whole
refilled : {X : Type 0} (xs ws : List X) → length ws ≡ length xs → refill (length xs) xs ws ≡ ws
refilled xs ws same =
    ap (λ (n : ℕ). take n (ws ++ drop (length ws) xs)) (sym same) ∙ take_at ws (drop (length ws) xs) (length ws) refl

pub run_shift-requires-clause-passes : goal.run_shift-requires-clause-passes
run_shift-requires-clause-passes g c κs inside =
    subst (AreAll c.args.cell) (sym c.as_mut_slice.ensures.value) (all_new g.D.Disk.moment c.args.cell c.args.passes c.requires.passes.0)

pub run_shift-requires-clause-sessions : goal.run_shift-requires-clause-sessions
run_shift-requires-clause-sessions g c κs inside = (
  ap length c.as_mut_slice.ensures.value ∙ (all_new g.D.Disk.moment c.args.cell c.args.passes c.requires.passes.0).count
      ∙ c.requires.passes.1,
  ap length c.as_slice.ensures ∙ c.requires.begun.count,
)

pub run_shift-requires-clause-start : goal.run_shift-requires-clause-start
run_shift-requires-clause-start g c κs inside = λ k within.
    subst (λ (progress : List Progress). Starts (script_of c.args.shift.now (k + 1)) (progress_at progress k))
    (sym c.as_slice.ensures)
    (begun_starts c.args.shift.now c.args.cell.opening.grants c.args.progress.now c.requires.begun c.requires.started k within)

pub close-requires : goal.close-requires
close-requires g c = record {
  all = subst (AreAll c.args.cell)
      (sym (refilled c.args.passes c.run_shift.new.passes
      (c.run_shift.ensures.passes.count ∙ sym (all_new g.D.Disk.moment c.args.cell c.args.passes c.requires.passes.0).count)))
      c.run_shift.ensures.passes;
}

pub returns-clause-after : goal.returns-clause-after
returns-clause-after g c =
    let back = refilled c.args.passes c.run_shift.new.passes
    (c.run_shift.ensures.passes.count ∙ sym (all_new g.D.Disk.moment c.args.cell c.args.passes c.requires.passes.0).count) in
    after_sessions g.D.Disk.moment c.args.shift.now c.args.cell c.as_slice.result.now c.as_mut_slice.result.now c.run_shift.new.passes
    c.close.result
    c.requires.limit c.requires.number (c.as_mut_slice.ensures.value ∙ c.requires.passes.0) c.requires.passes.1
    (subst (λ (progress : List Progress). AreBegun c.args.shift.now c.args.cell.opening.grants progress) (sym c.as_slice.ensures)
    c.requires.begun)
    c.run_shift.ensures.passes c.run_shift.ensures.run
    (record {
      opening = c.close.ensures.opening;
      added = c.close.ensures.added;
      unsure = c.close.ensures.unsure;
      seen = subst (All (λ (pass : PassState _). IsPrefix pass.seen c.close.result.history)) back c.close.ensures.seen;
      mine = subst (All (λ (pass : PassState _). entries_of pass.number c.close.result.history ≡ pass.mine)) back c.close.ensures.mine;
      others = c.close.ensures.others;
    })
