-- Counted, answered and noted.
use Rattle.std.proofs.Common.{ap, sym, subst, ◌∙◌, ◌++◌, ◌+◌, ◌∷◌, []}
use Rattle.cell_base.specs.declared.requests.Reply.TheVariants.{Granted}
use Rattle.cell_base.specs.declared.requests.Told.TheVariants.{Answered}
use Rattle.live_cell.specs.LiveState.{LiveState}
use Rattle.record_text.specs.Lines.{line_of}
use Rattle.wait_queue.specs.Queues.{KeepsWatching, QueueState}
use Rattle.serve_command.specs.Answers.{line_number, step_words}
use Rattle.serve_command.specs.Serving.{HasCounts}
use Rattle.serve_command.specs.Talks.{session_grant}
use Rattle.serve_command.specs.declared.server.Server.{Server}
use Rattle.serve_command.proofs.server.Server.note_grant.Goals as goal

pub returns : goal.returns
returns g c =
    let session = c.args.asked.now.session in
    let request = c.args.asked.now.request in
    let counted = c.count_grant.ensures.counted in
    let queue_is = ap (λ (s : Server _). s.queue) c.tell.ensures.kept ∙ counted.queue in
    let cell_is = ap (λ (l : LiveState _). l.cell) counted.live in
    record {
      live = ap (λ (s : Server _). s.live) c.tell.ensures.kept ∙ counted.live;
      waiters = c.note.ensures.waiters ∙ ap (λ (q : QueueState). q.waiters) queue_is;
      watching = subst (λ (q : QueueState). KeepsWatching request q c.note.new.self) queue_is c.note.ensures.watching;
      room = c.note.ensures.room ∙ ap (λ (q : QueueState). q.room) queue_is;
      replies = ap (λ (s : Server _). s.replies) c.tell.ensures.kept ∙ (λ i. counted.replies i ++ line_of (step_words (cell_is i) session request (Answered Granted)) ∷ []);
      asked = ap (λ (s : Server _). s.asked) c.tell.ensures.kept ∙ (λ i. line_number (counted.asked i + 1));
      counts = λ grants few has. subst (HasCounts (grants ++ session_grant session request ∷ []))
          (sym (ap (λ (s : Server _). s.counts) c.tell.ensures.kept)) (counted.counts grants few has);
      first = ap (λ (s : Server _). s.first) c.tell.ensures.kept ∙ counted.first;
    }
