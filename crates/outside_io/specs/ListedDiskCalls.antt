-- Which calls of a disk in memory are to fail.
use Rattle.std.specs.Prelude.{ℕ, ◌-◌, Bool, true, false, ◌||◌, ◌==◌, List, [], ◌∷◌, Option, Some, None, if◌then◌else◌}
use Rattle.outside_io.specs.Calls.{fails_next}
use Rattle.outside_io.specs.Causes.{one_more}
use Rattle.outside_io.specs.declared.listed.ListedCalls.{ListedCalls}
use Rattle.outside_io.specs.declared.disk_call.CallKind.{CallKind}
use Rattle.outside_io.specs.declared.disk_call.CallKind.TheVariants.{Len, Read, Write, Sync}
use Rattle.outside_io.specs.declared.disk_call.DiskCall.{DiskCall}
use Rattle.outside_io.specs.declared.listed_disk_calls.ListedDiskCalls.{ListedDiskCalls}

-- two calls of the disk are of one kind
abbrev pub is_same_kind : CallKind → CallKind → Bool
is_same_kind Len Len = true
is_same_kind Read Read = true
is_same_kind Write Write = true
is_same_kind Sync Sync = true
is_same_kind a b = false

-- the numbers of one kind's calls
abbrev pub numbers_of : CallKind → List DiskCall → List ℕ
numbers_of kind [] = []
numbers_of kind (call ∷ calls) =
    if is_same_kind call.kind kind then call.nth ∷ numbers_of kind calls else numbers_of kind calls

-- those of one kind that are to fail, and how many of it were made
abbrev pub listed_of : ListedDiskCalls → CallKind → ListedCalls
listed_of calls Len = calls.len
listed_of calls Read = calls.read
listed_of calls Write = calls.write
listed_of calls Sync = calls.sync

-- the disk has stopped
abbrev pub is_stopped : Option ℕ → Bool
is_stopped None = false
is_stopped (Some left) = left == 0

-- the next call of this kind is to fail: it is listed, or the disk has stopped
abbrev pub next_fails : ListedDiskCalls → CallKind → Bool
next_fails calls kind = fails_next (listed_of calls kind).fails (listed_of calls kind).made || is_stopped calls.left

-- one call of those before a stop is made
abbrev pub one_left_fewer : Option ℕ → Option ℕ
one_left_fewer None = None
one_left_fewer (Some left) = Some (left - 1)

-- one call more of this kind is made
abbrev pub one_made_more : ListedCalls → ListedCalls
one_made_more listed = record { fails = listed.fails; made = one_more listed.made }

-- the calls after one of this kind
abbrev pub after_call : ListedDiskCalls → CallKind → ListedDiskCalls
after_call calls Len = record calls { len = one_made_more calls.len; left = one_left_fewer calls.left }
after_call calls Read = record calls { read = one_made_more calls.read; left = one_left_fewer calls.left }
after_call calls Write = record calls { write = one_made_more calls.write; left = one_left_fewer calls.left }
after_call calls Sync = record calls { sync = one_made_more calls.sync; left = one_left_fewer calls.left }
