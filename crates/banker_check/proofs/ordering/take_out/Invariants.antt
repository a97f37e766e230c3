-- The parts so far, by whether they could be first.
use Rattle.std.proofs.Common.{◌≡◌, ◌++◌, ◌≤◌, length, map, not, filter, take}
use Rattle.std.specs.Vec.{vec_capacity}
use Rattle.cell_base.specs.declared.requests.Part.{Part}
use Rattle.banker_check.specs.HybridPlans.{goes_first}
use Rattle.banker_check.proofs.ordering.take_out.Given as goal

abbrev pub invariant-loop-part : goal.invariant-loop-part
invariant-loop-part l = record {
  others : l.others.items ≡ filter (λ part. not (goes_first l.table l.parts part)) (take l.part-index l.parts);
  jobs : l.jobs ≡ l.fn.jobs ++ map (λ (part : Part). part.job) (filter (goes_first l.table l.parts) (take l.part-index l.parts));
  room : length l.parts ≤ vec_capacity l.others;
}
