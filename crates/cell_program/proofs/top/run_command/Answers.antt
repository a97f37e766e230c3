-- Each command goes its walk, an arm after the other; one without a journal hands the disk back.
use Rattle.std.proofs.Common.{List, ℕ}
use Rattle.make_command.specs.Make.{make}
use Rattle.standby_commands.specs.Feed.{feed}
use Rattle.cell_program.proofs.Promised.{by_listed, goes_as}
use Rattle.cell_program.proofs.top.run_command.Goals as goal

pub returns-in-Solo-clause-ends : goal.returns-in-Solo-clause-ends
returns-in-Solo-clause-ends g c = goes_as _ _ c.run_solo.result.status _ _ c.in-Solo.is c.run_solo.ensures.ends

pub returns-in-Run-clause-ends : goal.returns-in-Run-clause-ends
returns-in-Run-clause-ends g c = goes_as _ _ c.run_on_journal.result.status _ _ c.in-Run.is c.run_on_journal.ensures

pub returns-in-Plan-clause-ends : goal.returns-in-Plan-clause-ends
returns-in-Plan-clause-ends g c = goes_as _ _ c.run_plan.result.status _ _ c.in-Plan.is c.run_plan.ensures

pub returns-in-Drain-clause-ends : goal.returns-in-Drain-clause-ends
returns-in-Drain-clause-ends g c = goes_as _ _ c.run_drain.result.status _ _ c.in-Drain.is c.run_drain.ensures

pub returns-in-Why-clause-ends : goal.returns-in-Why-clause-ends
returns-in-Why-clause-ends g c = goes_as _ _ c.run_why.result.status _ _ c.in-Why.is c.run_why.ensures

pub returns-in-Check-clause-ends : goal.returns-in-Check-clause-ends
returns-in-Check-clause-ends g c = goes_as _ _ c.run_check.result.status _ _ c.in-Check.is c.run_check.ensures.ends

pub returns-in-Check-clause-same : goal.returns-in-Check-clause-same
returns-in-Check-clause-same g c none = c.run_check.ensures.same

pub returns-in-Show-clause-ends : goal.returns-in-Show-clause-ends
returns-in-Show-clause-ends g c = goes_as _ _ c.run_show.result.status _ _ c.in-Show.is c.run_show.ensures.ends

pub returns-in-Show-clause-same : goal.returns-in-Show-clause-same
returns-in-Show-clause-same g c none = c.run_show.ensures.same

-- what it prints where its word is no number is the line that lists the commands
pub returns-in-Make-clause-ends : goal.returns-in-Make-clause-ends
returns-in-Make-clause-ends g c =
    goes_as _ _ c.run_make.result.status _ _ c.in-Make.is
    (by_listed _ _ c.run_make.result.status (λ (line : List ℕ). make line c.in-Make.number.now) _ c.usage.ensures c.run_make.ensures.ends)

pub returns-in-Carry-clause-ends : goal.returns-in-Carry-clause-ends
returns-in-Carry-clause-ends g c = goes_as _ _ c.run_carry.result.status _ _ c.in-Carry.is c.run_carry.ensures

pub returns-in-Begin-clause-ends : goal.returns-in-Begin-clause-ends
returns-in-Begin-clause-ends g c = goes_as _ _ c.run_begin.result.status _ _ c.in-Begin.is c.run_begin.ensures

pub returns-in-Hybrid-clause-ends : goal.returns-in-Hybrid-clause-ends
returns-in-Hybrid-clause-ends g c = goes_as _ _ c.run_hybrid.result.status _ _ c.in-Hybrid.is c.run_hybrid.ensures.ends

pub returns-in-Hybrid-clause-same : goal.returns-in-Hybrid-clause-same
returns-in-Hybrid-clause-same g c none = c.run_hybrid.ensures.same

pub returns-in-Queue-clause-ends : goal.returns-in-Queue-clause-ends
returns-in-Queue-clause-ends g c = goes_as _ _ c.run_queue.result.status _ _ c.in-Queue.is c.run_queue.ensures.ends

pub returns-in-Queue-clause-same : goal.returns-in-Queue-clause-same
returns-in-Queue-clause-same g c none = c.run_queue.ensures.same

pub returns-in-Advise-clause-ends : goal.returns-in-Advise-clause-ends
returns-in-Advise-clause-ends g c = goes_as _ _ c.run_orders.result.status _ _ c.in-Advise.is c.run_orders.ensures.ends

pub returns-in-Advise-clause-same : goal.returns-in-Advise-clause-same
returns-in-Advise-clause-same g c none = c.run_orders.ensures.same

pub returns-in-Arrange-clause-ends : goal.returns-in-Arrange-clause-ends
returns-in-Arrange-clause-ends g c = goes_as _ _ c.run_orders-in-Arrange.result.status _ _ c.in-Arrange.is c.run_orders-in-Arrange.ensures.ends

pub returns-in-Arrange-clause-same : goal.returns-in-Arrange-clause-same
returns-in-Arrange-clause-same g c none = c.run_orders-in-Arrange.ensures.same

pub returns-in-Grants-clause-ends : goal.returns-in-Grants-clause-ends
returns-in-Grants-clause-ends g c = goes_as _ _ c.run_grants.result.status _ _ c.in-Grants.is c.run_grants.ensures

pub returns-in-Parts-clause-ends : goal.returns-in-Parts-clause-ends
returns-in-Parts-clause-ends g c = goes_as _ _ c.run_parts.result.status _ _ c.in-Parts.is c.run_parts.ensures

-- likewise
pub returns-in-Feed-clause-ends : goal.returns-in-Feed-clause-ends
returns-in-Feed-clause-ends g c =
    goes_as _ _ c.run_feed.result.status _ _ c.in-Feed.is
    (by_listed _ _ c.run_feed.result.status (λ (line : List ℕ). feed line c.in-Feed.cell.now c.in-Feed.from.now) _ c.usage-in-Feed.ensures
    c.run_feed.ensures)

pub returns-in-Follow-clause-ends : goal.returns-in-Follow-clause-ends
returns-in-Follow-clause-ends g c = goes_as _ _ c.run_follow.result.status _ _ c.in-Follow.is c.run_follow.ensures
