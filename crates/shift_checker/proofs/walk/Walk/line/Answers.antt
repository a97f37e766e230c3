-- Each kind of line goes on.
use Rattle.record_text.specs.Turns.{Suits, turn_of}
use Rattle.record_text.specs.declared.record_lines.RecordLine.TheVariants as lines
use Rattle.shift_checker.proofs.Arms.{head_goes, entry_goes, left_goes}
use Rattle.shift_checker.proofs.PlanArms.{plan_answered, some_missing, step_answered}
use Rattle.shift_checker.proofs.walk.Walk.line.Goals as goal

pub step-requires-clause-missing : goal.step-requires-clause-missing
step-requires-clause-missing c =
    let walked = c.requires.walked in
    some_missing c.args.self.now c.args.number walked.0.0 c.in-Step.step walked.0.1 walked.1 (rw c.in-Step.is at walked.2)

pub returns-in-Head-clause-verdict : goal.returns-in-Head-clause-verdict
returns-in-Head-clause-verdict c = λ so_far is suits.
    rw c.in-Head.is
    (head_goes c.args.self.now c.args.number so_far.0 c.in-Head.shift c.in-Head.after so_far.1 c.head.result is
    (rw c.in-Head.is at suits) c.head.ensures.verdict).verdict

pub returns-in-Head-clause-walked : goal.returns-in-Head-clause-walked
returns-in-Head-clause-walked c = λ so_far is suits right.
    rw (c.in-Head.is, c.head.ensures.state)
    ((head_goes c.args.self.now c.args.number so_far.0 c.in-Head.shift c.in-Head.after so_far.1 c.head.result is
    (rw c.in-Head.is at suits) c.head.ensures.verdict).walked right)

pub returns-in-Entry-clause-verdict : goal.returns-in-Entry-clause-verdict
returns-in-Entry-clause-verdict c = λ so_far is suits.
    rw c.in-Entry.is
    (entry_goes c.args.self.now c.args.number so_far.0 c.in-Entry.entry so_far.1 c.entry.result is (rw c.in-Entry.is at c.requires.fits)
    (rw c.in-Entry.is at suits) c.entry.ensures.verdict).verdict

pub returns-in-Entry-clause-walked : goal.returns-in-Entry-clause-walked
returns-in-Entry-clause-walked c = λ so_far is suits right.
    rw (c.in-Entry.is, c.entry.ensures.state)
    ((entry_goes c.args.self.now c.args.number so_far.0 c.in-Entry.entry so_far.1 c.entry.result is (rw c.in-Entry.is at c.requires.fits)
    (rw c.in-Entry.is at suits) c.entry.ensures.verdict).walked right)

pub returns-in-Left-clause-verdict : goal.returns-in-Left-clause-verdict
returns-in-Left-clause-verdict c = λ so_far is suits.
    rw c.in-Left.is
    (left_goes c.args.self.now c.args.number so_far.0 c.in-Left.left so_far.1 c.left.result is
    (rw c.in-Left.is at suits) c.left.ensures).verdict

pub returns-in-Left-clause-walked : goal.returns-in-Left-clause-walked
returns-in-Left-clause-walked c = λ so_far is suits right.
    rw c.in-Left.is
    ((left_goes c.args.self.now c.args.number so_far.0 c.in-Left.left so_far.1 c.left.result is
    (rw c.in-Left.is at suits) c.left.ensures).walked right)

pub returns-in-Plan-clause-verdict : goal.returns-in-Plan-clause-verdict
returns-in-Plan-clause-verdict c = λ so_far is suits.
    let plan = c.plan.ensures in
    rw c.in-Plan.is
    (plan_answered c.args.self.now c.args.number so_far is c.plan.result c.plan.new.self plan.cell c.in-Plan.steps
    (rw c.in-Plan.is at suits) plan.empty plan.ended plan.begun plan.state).verdict

pub returns-in-Plan-clause-walked : goal.returns-in-Plan-clause-walked
returns-in-Plan-clause-walked c = λ so_far is suits right.
    let plan = c.plan.ensures in
    rw c.in-Plan.is
    ((plan_answered c.args.self.now c.args.number so_far is c.plan.result c.plan.new.self plan.cell c.in-Plan.steps
    (rw c.in-Plan.is at suits) plan.empty plan.ended plan.begun plan.state).walked right)

pub returns-in-Step-clause-verdict : goal.returns-in-Step-clause-verdict
returns-in-Step-clause-verdict c = λ so_far is suits.
    let step = c.step.ensures in
    let may : Suits (turn_of so_far.1) (lines.Step c.in-Step.step) = rw c.in-Step.is at suits in
    rw c.in-Step.is
    (step_answered c.args.self.now c.args.number so_far is c.step.result c.step.new.self step.cell c.in-Step.step may
    (some_missing c.args.self.now c.args.number so_far.0 c.in-Step.step so_far.1 is may)
    step.refused step.more step.state step.last step.ended).verdict

pub returns-in-Step-clause-walked : goal.returns-in-Step-clause-walked
returns-in-Step-clause-walked c = λ so_far is suits right.
    let step = c.step.ensures in
    let may : Suits (turn_of so_far.1) (lines.Step c.in-Step.step) = rw c.in-Step.is at suits in
    rw c.in-Step.is
    ((step_answered c.args.self.now c.args.number so_far is c.step.result c.step.new.self step.cell c.in-Step.step may
    (some_missing c.args.self.now c.args.number so_far.0 c.in-Step.step so_far.1 is may)
    step.refused step.more step.state step.last step.ended).walked right)
