-- The numbers so far, and those of the calls still to come, are all of them.
use Rattle.std.proofs.Common.{◌≡◌, ◌++◌, drop}
use Rattle.outside_io.specs.ListedDiskCalls.{numbers_of}
use Rattle.outside_io.proofs.listed_disk_calls.numbers.Given as goal

abbrev pub invariant-loop-call : goal.invariant-loop-call
invariant-loop-call l = l.numbers ++ numbers_of l.kind (drop l.call-index l.calls) ≡ numbers_of l.kind l.calls
