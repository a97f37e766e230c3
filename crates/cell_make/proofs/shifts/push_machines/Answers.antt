-- One script more.
use Rattle.std.proofs.Common.{◌++◌, ◌∷◌, [], List, ap, ap₂, sym, ◌∙◌}
use Rattle.std.proofs.lemmas.List.{append-nil, append_assoc}
use Rattle.cell_base.specs.declared.requests.Request.{Request}
use Rattle.cell_make.specs.Shifts.{machine_script, machine_scripts}
use Rattle.cell_make.proofs.Lists.{machines-none, machines-more}
use Rattle.cell_make.proofs.shifts.push_machines.Goals as goal

pub loop-machine-init : goal.loop-machine-init
loop-machine-init c = sym (ap (λ (list : List (List Request)). c.args.scripts.now ++ list) (machines-none c.args.cell.now c.args.kinds.now)
    ∙ append-nil c.args.scripts.now)

pub loop-machine-preserved : goal.loop-machine-preserved
loop-machine-preserved c =
    let cell = c.args.cell.now in
    let kinds = c.args.kinds.now in
    let before = c.args.scripts.now in
    let r = c.loop-machine.machine in
    c.in_ok-try_push.ensures.ok
    ∙ ap₂ (λ (list : List (List Request)) (one : List Request). list ++ one ∷ []) c.loop-machine.invariant c.in_ok-machine_script.ensures
    ∙ append_assoc before (machine_scripts cell kinds r) (machine_script cell kinds r ∷ [])
    ∙ sym (ap (λ (list : List (List Request)). before ++ list) (machines-more cell kinds r))
