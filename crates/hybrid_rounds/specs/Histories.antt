-- Histories of requests that a hybrid decided, and the state after them.
use Rattle.std.specs.Prelude.{◌≡◌, List, [], ◌∷◌, map, ⊤}
use Rattle.cell_base.specs.declared.cells.Cell.{Cell}
use Rattle.cell_base.specs.declared.requests.Part.{Part}
use Rattle.cell_base.specs.declared.requests.Refusal.TheVariants.{Saturated}
use Rattle.cell_base.specs.declared.requests.Reply.{Reply}
use Rattle.cell_base.specs.declared.requests.Reply.TheVariants.{Granted as Permitted, Refused as Denied}
use Rattle.cell_base.specs.declared.requests.Told.TheVariants.{Answered}
use Rattle.cell_base.specs.declared.shifts.Entry.{Entry}
use Rattle.banker_check.specs.declared.replies.HybridReply.{HybridReply}
use Rattle.banker_check.specs.declared.replies.HybridReply.TheVariants.{Granted, Refused, Blocked}
use Rattle.banker_check.specs.Hybrid.{reply_h, state_after_h}
use Rattle.hybrid_rounds.specs.declared.entries.HybridEntry.{HybridEntry}

-- the state after a history
abbrev pub after_h : Cell → List Part → List HybridEntry → List Part
after_h cell parts [] = parts
after_h cell parts (entry ∷ entries) = after_h cell (state_after_h cell parts entry.request) entries

-- each entry is told the hybrid's reply at its point
abbrev pub IsLegalHybrid : Cell → List Part → List HybridEntry → Type 0
IsLegalHybrid cell parts [] = ⊤
IsLegalHybrid cell parts (entry ∷ entries) =
    (reply_h cell parts entry.request ≡ entry.told) × IsLegalHybrid cell (state_after_h cell parts entry.request) entries

-- a reply as a session takes it, which stays at its step however it is refused: the neighborhood that a block names is too full
abbrev pub taken_reply : HybridReply → Reply
taken_reply Granted = Permitted
taken_reply (Refused why) = Denied why
taken_reply (Blocked at count capacity stuck) = Denied (Saturated at count capacity)

-- an entry as its session takes it
abbrev pub taken : HybridEntry → Entry
taken entry = record { session = entry.session; request = entry.request; told = Answered (taken_reply entry.told) }

-- the same of each entry
abbrev pub all_taken : List HybridEntry → List Entry
all_taken history = map taken history
