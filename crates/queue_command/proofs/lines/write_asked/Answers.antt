-- The line of a record with another word in the place of the reply's first one.
use Rattle.std.proofs.Common.{List, ℕ, ◌++◌, ◌∷◌, [], refl, ap, ◌∙◌}
use Rattle.queue_command.proofs.Wording.{line_of_grant, line_of_refusal}
use Rattle.queue_command.proofs.lines.write_asked.Goals as goal
use Rattle.queue_command.proofs.lines.write_asked.Goals.{in-Refused, in_default}

pub returns : goal.returns
returns c =
    let one = c.bytes.ensures.value ∙ c.line_of-recorded.ensures in
    let two = c.bytes-2.ensures.value ∙ c.reply_line-replied.ensures in
    let three = c.bytes-3.ensures.value ∙ c.line_of-recorded.ensures in
    elim c.match-reply.branch [
      | in-Refused w ↦
          line_of_refusal c.args.cell.now c.args.session c.args.request.now c.args.reply c.bytes.result.now c.bytes-2.result.now
          c.bytes-3.result.now c.begin.new.self one two three c.begin.ensures c.args.word.now c.word.new.self c.close.new.self
          c.word.ensures.bytes w.in-Refused.field-0 w.bytes-in-Refused.result.now w.bytes-in-Refused-2.result.now _ c.match-reply.line
          w.in-Refused.is (w.bytes-in-Refused.ensures.value ∙ c.reply_line-replied.ensures)
          (w.bytes-in-Refused-2.ensures.value ∙ c.reply_line-replied.ensures) refl (w.line-is ∙ w.word-in-Refused.ensures.bytes)
          c.close.ensures
      | in_default w ↦
          line_of_grant c.args.cell.now c.args.session c.args.request.now c.args.reply c.bytes.result.now c.bytes-2.result.now
          c.bytes-3.result.now c.begin.new.self one two three c.begin.ensures c.args.word.now c.word.new.self c.close.new.self
          c.word.ensures.bytes w.in_default.is (c.close.ensures ∙ ap (λ (bytes : List ℕ). bytes ++ 10 ∷ []) w.line-is)
    ]
