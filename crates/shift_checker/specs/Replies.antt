-- Whether two replies are the same, as a test.
use Rattle.std.specs.Prelude.{Bool, true, false, ◌&&◌, ◌==◌}
use Rattle.std.specs.Str.{bytes_eq}
use Rattle.cell_base.specs.declared.requests.Refusal.{Refusal}
use Rattle.cell_base.specs.declared.requests.Refusal.TheVariants.{Saturated}
use Rattle.cell_base.specs.declared.requests.Reply.{Reply}
use Rattle.cell_base.specs.declared.requests.Reply.TheVariants.{Granted, Refused}
use Rattle.record_text.specs.RefusalWords.{refusal_word}

-- the same reason, by its word, with the same numbers
abbrev pub same_refusal : Refusal → Refusal → Bool
same_refusal (Saturated at count capacity) (Saturated r held units) = (at.0 == r.0) && (count == held) && (capacity == units)
same_refusal why other = bytes_eq (refusal_word why) (refusal_word other)

-- both grants, or the same refusal
abbrev pub same_reply : Reply → Reply → Bool
same_reply Granted Granted = true
same_reply (Refused why) (Refused other) = same_refusal why other
same_reply reply other = false
