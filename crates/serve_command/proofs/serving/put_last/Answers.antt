-- The lines of those that wait, and then the plan.
use Rattle.std.proofs.Common.{◌≡◌, List, ℕ, ap, refl, subst, ◌∙◌, ◌++◌}
use Rattle.outside_io.specs.Causes.{Rose}
use Rattle.outside_io.specs.PutLaws.{failed_after, failed_before, took_more}
use Rattle.outside_io.specs.Puts.{TookAll, TookSome}
use Rattle.admission_core.specs.CoreState.{CoreState}
use Rattle.record_printer.specs.Blocks.{left_in_core}
use Rattle.lent_peers.specs.Beside.{IsBeside}
use Rattle.live_cell.specs.LiveState.{LiveState}
use Rattle.peers.specs.Meanings.{peer_took}
use Rattle.cell_walks.specs.Outcomes.{Cut, Whole}
use Rattle.serve_command.specs.Answers.{still_lines}
use Rattle.serve_command.specs.declared.server.Server.{Server}
use Rattle.serve_command.proofs.Living.{beside_first, beside_more}
use Rattle.serve_command.proofs.serving.put_last.Goals as goal

pub returns-in-Err-clause-delivered : goal.returns-in-Err-clause-delivered
returns-in-Err-clause-delivered g c =
    let server = c.args.server in
    let now = c.keep_still.new.self in
    let still : List (List ℕ) = still_lines server.live.cell server.live.parts server.queue.waiters in
    let left : List (List ℕ) = left_in_core (record { cell = server.live.cell; parts = server.live.parts }) in
    let live_is : now.live ≡ server.live = ap (λ (s : Server _). s.live) c.keep_still.ensures in
    let lines = c.as_slice.ensures ∙ ap (λ (s : Server _). s.replies) c.keep_still.ensures
    ∙ ap (λ (ls : List (List ℕ)). ls ++ still) c.requires.ready.replies in
    Cut refl
    (failed_before g.T.Peer.taken g.T.Peer.was_put g.T.Peer.faults c.args.peer.now c.print_beside.new.peer still left
    (subst (TookSome (peer_took g.T.Peer c.args.peer.now c.print_beside.new.peer)) lines c.in-Err.ensures.part))
    c.in-Err.ensures.cause.failed

pub returns-in-Err-clause-beside : goal.returns-in-Err-clause-beside
returns-in-Err-clause-beside g c =
    let server = c.args.server in
    let now = c.keep_still.new.self in
    let still : List (List ℕ) = still_lines server.live.cell server.live.parts server.queue.waiters in
    let left : List (List ℕ) = left_in_core (record { cell = server.live.cell; parts = server.live.parts }) in
    let live_is : now.live ≡ server.live = ap (λ (s : Server _). s.live) c.keep_still.ensures in
    let lines = c.as_slice.ensures ∙ ap (λ (s : Server _). s.replies) c.keep_still.ensures
    ∙ ap (λ (ls : List (List ℕ)). ls ++ still) c.requires.ready.replies in
    beside_first g.D.Disk g.T.Peer server.live.disk c.args.peer.now c.print_beside.new.peer still left
    (subst (λ (d : _). IsBeside g.D.Disk g.T.Peer d c.args.peer.now c.print_beside.new.peer still)
    (c.disk.ensures ∙ ap (λ (l : LiveState _). l.disk) live_is)
    (subst (IsBeside g.D.Disk g.T.Peer c.disk.result.now c.args.peer.now c.print_beside.new.peer) lines c.print_beside.ensures.beside))

pub returns-in-Ok-clause-delivered : goal.returns-in-Ok-clause-delivered
returns-in-Ok-clause-delivered g c =
    let server = c.args.server in
    let now = c.keep_still.new.self in
    let still : List (List ℕ) = still_lines server.live.cell server.live.parts server.queue.waiters in
    let left : List (List ℕ) = left_in_core (record { cell = server.live.cell; parts = server.live.parts }) in
    let live_is : now.live ≡ server.live = ap (λ (s : Server _). s.live) c.keep_still.ensures in
    let lines = c.as_slice.ensures ∙ ap (λ (s : Server _). s.replies) c.keep_still.ensures
    ∙ ap (λ (ls : List (List ℕ)). ls ++ still) c.requires.ready.replies in
    let core_is = c.finish-core.ensures.core ∙ (λ i. record { cell = (live_is i).cell; parts = (live_is i).parts }) in
    Whole refl tt
    (took_more g.T.Peer.taken g.T.Peer.was_put g.T.Peer.faults c.args.peer.now c.print_beside.new.peer c.print_left_beside.new.peer still left
    (subst (TookAll (peer_took g.T.Peer c.args.peer.now c.print_beside.new.peer)) lines c.in_default.ensures.whole)
    (subst (λ (s : CoreState). TookAll (peer_took g.T.Peer c.print_beside.new.peer c.print_left_beside.new.peer) (left_in_core s)) core_is
    c.in-Ok.ensures.whole))
    (c.in-Ok.ensures.cause.kept ∙ c.in_default.ensures.cause.kept)

pub returns-in-Ok-clause-beside : goal.returns-in-Ok-clause-beside
returns-in-Ok-clause-beside g c =
    let server = c.args.server in
    let now = c.keep_still.new.self in
    let still : List (List ℕ) = still_lines server.live.cell server.live.parts server.queue.waiters in
    let left : List (List ℕ) = left_in_core (record { cell = server.live.cell; parts = server.live.parts }) in
    let live_is : now.live ≡ server.live = ap (λ (s : Server _). s.live) c.keep_still.ensures in
    let lines = c.as_slice.ensures ∙ ap (λ (s : Server _). s.replies) c.keep_still.ensures
    ∙ ap (λ (ls : List (List ℕ)). ls ++ still) c.requires.ready.replies in
    let core_is = c.finish-core.ensures.core ∙ (λ i. record { cell = (live_is i).cell; parts = (live_is i).parts }) in
    beside_more g.D.Disk g.T.Peer server.live.disk c.args.peer.now c.print_beside.new.peer c.print_left_beside.new.peer still left
    (subst (λ (d : _). IsBeside g.D.Disk g.T.Peer d c.args.peer.now c.print_beside.new.peer still)
    (c.disk.ensures ∙ ap (λ (l : LiveState _). l.disk) live_is)
    (subst (IsBeside g.D.Disk g.T.Peer c.disk.result.now c.args.peer.now c.print_beside.new.peer) lines c.print_beside.ensures.beside))
    (subst (TookAll (peer_took g.T.Peer c.args.peer.now c.print_beside.new.peer)) lines c.in_default.ensures.whole)
    (subst (λ (d : _). IsBeside g.D.Disk g.T.Peer d c.print_beside.new.peer c.print_left_beside.new.peer left)
    (c.finish-core.ensures.disk ∙ ap (λ (l : LiveState _). l.disk) live_is)
    (subst (λ (s : CoreState). IsBeside g.D.Disk g.T.Peer c.finish-core.result.disk c.print_beside.new.peer c.print_left_beside.new.peer
    (left_in_core s)) core_is c.print_left_beside.ensures.beside))

pub returns-clause-delivered : goal.returns-clause-delivered
returns-clause-delivered g c =
    let server = c.args.server in
    let now = c.keep_still.new.self in
    let still : List (List ℕ) = still_lines server.live.cell server.live.parts server.queue.waiters in
    let left : List (List ℕ) = left_in_core (record { cell = server.live.cell; parts = server.live.parts }) in
    let live_is : now.live ≡ server.live = ap (λ (s : Server _). s.live) c.keep_still.ensures in
    let lines = c.as_slice.ensures ∙ ap (λ (s : Server _). s.replies) c.keep_still.ensures
    ∙ ap (λ (ls : List (List ℕ)). ls ++ still) c.requires.ready.replies in
    let core_is = c.finish-core.ensures.core ∙ (λ i. record { cell = (live_is i).cell; parts = (live_is i).parts }) in
    Cut refl
    (failed_after g.T.Peer.taken g.T.Peer.was_put g.T.Peer.faults c.args.peer.now c.print_beside.new.peer c.print_left_beside.new.peer still
    left
    (subst (TookAll (peer_took g.T.Peer c.args.peer.now c.print_beside.new.peer)) lines c.in_default.ensures.whole)
    (subst (λ (s : CoreState). TookSome (peer_took g.T.Peer c.print_beside.new.peer c.print_left_beside.new.peer) (left_in_core s)) core_is
    c.in-Err-print_left_beside.ensures.part))
    (subst (λ (n : ℕ). Rose n (g.T.Peer.faults c.print_left_beside.new.peer)) c.in_default.ensures.cause.kept
    c.in-Err-print_left_beside.ensures.cause.failed)

pub returns-clause-beside : goal.returns-clause-beside
returns-clause-beside g c =
    let server = c.args.server in
    let now = c.keep_still.new.self in
    let still : List (List ℕ) = still_lines server.live.cell server.live.parts server.queue.waiters in
    let left : List (List ℕ) = left_in_core (record { cell = server.live.cell; parts = server.live.parts }) in
    let live_is : now.live ≡ server.live = ap (λ (s : Server _). s.live) c.keep_still.ensures in
    let lines = c.as_slice.ensures ∙ ap (λ (s : Server _). s.replies) c.keep_still.ensures
    ∙ ap (λ (ls : List (List ℕ)). ls ++ still) c.requires.ready.replies in
    let core_is = c.finish-core.ensures.core ∙ (λ i. record { cell = (live_is i).cell; parts = (live_is i).parts }) in
    beside_more g.D.Disk g.T.Peer server.live.disk c.args.peer.now c.print_beside.new.peer c.print_left_beside.new.peer still left
    (subst (λ (d : _). IsBeside g.D.Disk g.T.Peer d c.args.peer.now c.print_beside.new.peer still)
    (c.disk.ensures ∙ ap (λ (l : LiveState _). l.disk) live_is)
    (subst (IsBeside g.D.Disk g.T.Peer c.disk.result.now c.args.peer.now c.print_beside.new.peer) lines c.print_beside.ensures.beside))
    (subst (TookAll (peer_took g.T.Peer c.args.peer.now c.print_beside.new.peer)) lines c.in_default.ensures.whole)
    (subst (λ (d : _). IsBeside g.D.Disk g.T.Peer d c.print_beside.new.peer c.print_left_beside.new.peer left)
    (c.finish-core.ensures.disk ∙ ap (λ (l : LiveState _). l.disk) live_is)
    (subst (λ (s : CoreState). IsBeside g.D.Disk g.T.Peer c.finish-core.result.disk c.print_beside.new.peer c.print_left_beside.new.peer
    (left_in_core s)) core_is c.print_left_beside.ensures.beside))
