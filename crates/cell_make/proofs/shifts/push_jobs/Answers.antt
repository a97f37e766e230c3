-- One script more.
use Rattle.std.proofs.Common.{◌+◌, ◌++◌, ◌∷◌, [], List, get_or, ap, ap₂, sym, ◌∙◌}
use Rattle.std.proofs.lemmas.List.{append-nil, append_assoc}
use Rattle.cell_base.specs.declared.requests.Request.{Request}
use Rattle.cell_make.specs.Shifts.{job_script, job_scripts}
use Rattle.cell_make.proofs.Lists.{jobs-none, jobs-more}
use Rattle.cell_make.proofs.shifts.push_jobs.Goals as goal

pub loop-job-init : goal.loop-job-init
loop-job-init c = sym (ap (λ (list : List (List Request)). c.args.scripts.now ++ list) (jobs-none c.args.cell.now c.args.kinds.now)
    ∙ append-nil c.args.scripts.now)

pub loop-job-preserved : goal.loop-job-preserved
loop-job-preserved c =
    let cell = c.args.cell.now in
    let kinds = c.args.kinds.now in
    let before = c.args.scripts.now in
    let j = c.loop-job.job in
    let one = job_script cell (record { 0 = j + 1 }) (get_or kinds j (record { 0 = 0 })) in
    c.in_ok-try_push.ensures.ok
    ∙ ap₂ (λ (list : List (List Request)) (one : List Request). list ++ one ∷ []) c.loop-job.invariant c.in_ok-job_script.ensures
    ∙ append_assoc before (job_scripts cell kinds j) (one ∷ [])
    ∙ sym (ap (λ (list : List (List Request)). before ++ list) (jobs-more cell kinds j))
