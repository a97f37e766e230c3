-- The line of a record with another reply.
use Rattle.std.proofs.Common.{codes, ◌≡◌, ◌∷◌, ◌++◌, ◌-◌, ℕ, List, length, take, ap, sym, ◌∙◌, arith}
use Rattle.std.specs.Fmt.{decimal}
use Rattle.cell_base.specs.declared.cells.Cell.{Cell}
use Rattle.cell_base.specs.declared.requests.Refusal.TheVariants.{Saturated}
use Rattle.cell_base.specs.declared.requests.Reply.{Reply}
use Rattle.cell_base.specs.declared.requests.Told.TheVariants.{Answered}
use Rattle.cell_base.specs.declared.shifts.Entry.{Entry}
use Rattle.step_text.specs.Steps.{request_words}
use Rattle.record_text.specs.Lines.{entry_words, line_of, told_words as plain_words, why_words}
use Rattle.banker_check.specs.declared.replies.HybridReply.{HybridReply}
use Rattle.hybrid_rounds.specs.Histories.{taken_reply}
use Rattle.hybrid_command.specs.Lines.{blocked_words, told_words}
use Rattle.hybrid_command.proofs.Wording.{another_reply}
use Rattle.hybrid_command.proofs.lines.entry_line.Goals as goal

pub returns-in-Blocked : goal.returns-in-Blocked
returns-in-Blocked c =
    let cell : Cell = c.args.cell.now in
    let session : ℕ = c.args.entry.now.session in
    let words : List (List ℕ) = request_words cell c.args.entry.now.request in
    let b = c.in-Blocked in
    let saturated : List (List ℕ) = why_words cell (Saturated b.at b.count b.capacity) in
    let recorded : c.line_of-recorded.result ≡ line_of (decimal session ∷ (words ++ codes "refused" ∷ saturated)) =
    c.line_of-recorded.ensures ∙ ap (λ (e : Entry). line_of (entry_words cell e)) c.taken.ensures
    ∙ ap (λ (told : HybridReply). line_of (decimal session ∷ (words ++ plain_words cell (Answered (taken_reply told))))) b.is in
    let replied : c.reply_line-replied.result ≡ line_of (codes "refused" ∷ saturated) =
    c.reply_line-replied.ensures ∙ ap (λ (reply : Reply). line_of (plain_words cell (Answered reply))) c.taken_reply.ensures
    ∙ ap (λ (told : HybridReply). line_of (plain_words cell (Answered (taken_reply told)))) b.is in
    let other : c.bytes-in-Blocked-3.result.now ≡ line_of (codes "refused" ∷ blocked_words cell b.at b.count b.capacity b.stuck) =
    c.bytes-in-Blocked-3.ensures.value ∙ c.block_line.ensures in
    let made = another_reply (decimal session) words (codes "refused") saturated (codes "refused")
    (blocked_words cell b.at b.count b.capacity b.stuck) c.line_of-recorded.result c.reply_line-replied.result
    c.bytes-in-Blocked-3.result.now (length c.bytes.result.now - length c.bytes-in-Blocked.result.now) recorded replied other
    (omega (arith, ap length c.bytes.ensures.value, ap length c.bytes-in-Blocked.ensures.value)) in
    let n : ℕ = length c.bytes.result.now - length c.bytes-in-Blocked.result.now in
    let first : c.append.new.line.items ≡ take n c.line_of-recorded.result =
    c.append.ensures ∙ ap (λ (bytes : List ℕ). bytes ++ take n c.bytes-in-Blocked-2.result.now) c.new-line.ensures
    ∙ ap (take n) c.bytes-in-Blocked-2.ensures.value in
    c.append-in-Blocked.ensures ∙ ap (λ (bytes : List ℕ). bytes ++ c.bytes-in-Blocked-3.result.now) first ∙ made
    ∙ ap (λ (told : HybridReply). line_of (decimal session ∷ (words ++ told_words cell told))) (sym b.is)
