-- The answers before the first grant, and then its line.
use Rattle.std.proofs.Common.{List, ℕ, ap, arith, length, refl, subst, sym, take, ◌∙◌, ◌≡◌, ◌≤◌, ◌++◌, ◌∷◌, []}
use Rattle.outside_io.specs.Causes.{Rose}
use Rattle.outside_io.specs.PutLaws.{failed_after, failed_before, took_more}
use Rattle.outside_io.specs.Puts.{TookAll, TookSome}
use Rattle.outside_io.specs.Telling.{shown}
use Rattle.lent_peers.specs.Beside.{IsBeside}
use Rattle.peers.specs.Meanings.{peer_took}
use Rattle.cell_walks.specs.Outcomes.{Cut, IsDelivered, Whole, printed}
use Rattle.cell_walks.specs.declared.status.Status.TheVariants.{DeviceFault, SinkFault}
use Rattle.serve_command.specs.FirstGrants.{FirstGrant}
use Rattle.serve_command.proofs.Living.{beside_first, beside_more}
use Rattle.serve_command.proofs.server.Server.put_halted.Goals as goal

pub returns-in-Err-clause-delivered : goal.returns-in-Err-clause-delivered
returns-in-Err-clause-delivered g c =
    let replies = c.args.self.now.replies in
    let first : FirstGrant = record { at = c.in-Some.at; line = c.in-Some.line.now } in
    shown c.args.self.now.first (λ (f : FirstGrant). f.at ≤ length replies
    → IsDelivered (peer_took g.T.Peer c.args.peer.now c.print_beside.new.peer) (printed DeviceFault (take f.at replies ++ f.line ∷ [])) SinkFault) first (sym c.in-Some.ensures)
    (λ few.
    let at : c.min.result
    ≡ first.at = omega (arith, few, c.min.ensures, ap (λ (rs : List (List ℕ)). length rs) c.as_slice-replies.ensures) in
    Cut refl
    (failed_before g.T.Peer.taken g.T.Peer.was_put g.T.Peer.faults c.args.peer.now c.print_beside.new.peer (take first.at replies) (first.line ∷ [])
    (subst (TookSome (peer_took g.T.Peer c.args.peer.now c.print_beside.new.peer)) (λ i. take (at i) (c.as_slice-replies.ensures i)) c.in-Err.ensures.part))
    c.in-Err.ensures.cause.failed)

pub returns-in-Err-clause-beside : goal.returns-in-Err-clause-beside
returns-in-Err-clause-beside g c =
    let replies = c.args.self.now.replies in
    let first : FirstGrant = record { at = c.in-Some.at; line = c.in-Some.line.now } in
    shown c.args.self.now.first (λ (f : FirstGrant). f.at ≤ length replies
    → IsBeside g.D.Disk g.T.Peer c.args.self.now.live.disk c.args.peer.now c.print_beside.new.peer (take f.at replies ++ f.line ∷ [])) first (sym c.in-Some.ensures)
    (λ few.
    let at : c.min.result
    ≡ first.at = omega (arith, few, c.min.ensures, ap (λ (rs : List (List ℕ)). length rs) c.as_slice-replies.ensures) in
    beside_first g.D.Disk g.T.Peer c.args.self.now.live.disk c.args.peer.now c.print_beside.new.peer (take first.at replies) (first.line ∷ [])
    (subst (λ (d : _). IsBeside g.D.Disk g.T.Peer d c.args.peer.now c.print_beside.new.peer (take first.at replies)) c.disk-disk.ensures
    (subst (IsBeside g.D.Disk g.T.Peer c.disk-disk.result.now c.args.peer.now c.print_beside.new.peer) (λ i. take (at i) (c.as_slice-replies.ensures i)) c.print_beside.ensures.beside)))

pub returns-in-Ok-clause-delivered : goal.returns-in-Ok-clause-delivered
returns-in-Ok-clause-delivered g c =
    let replies = c.args.self.now.replies in
    let first : FirstGrant = record { at = c.in-Some.at; line = c.in-Some.line.now } in
    shown c.args.self.now.first (λ (f : FirstGrant). f.at ≤ length replies
    → IsDelivered (peer_took g.T.Peer c.args.peer.now c.print_beside-2.new.peer) (printed DeviceFault (take f.at replies ++ f.line ∷ [])) DeviceFault) first (sym c.in-Some.ensures)
    (λ few.
    let at : c.min.result
    ≡ first.at = omega (arith, few, c.min.ensures, ap (λ (rs : List (List ℕ)). length rs) c.as_slice-replies.ensures) in
    Whole refl tt
    (took_more g.T.Peer.taken g.T.Peer.was_put g.T.Peer.faults c.args.peer.now c.print_beside.new.peer c.print_beside-2.new.peer (take first.at replies) (first.line ∷ []) (subst (TookAll (peer_took g.T.Peer c.args.peer.now c.print_beside.new.peer)) (λ i. take (at i) (c.as_slice-replies.ensures i)) c.in_default-print_beside.ensures.whole)
    (subst (TookAll (peer_took g.T.Peer c.print_beside.new.peer c.print_beside-2.new.peer)) c.from_ref.ensures.value c.in-Ok.ensures.whole))
    (c.in-Ok.ensures.cause.kept ∙ c.in_default-print_beside.ensures.cause.kept))

pub returns-in-Ok-clause-beside : goal.returns-in-Ok-clause-beside
returns-in-Ok-clause-beside g c =
    let replies = c.args.self.now.replies in
    let first : FirstGrant = record { at = c.in-Some.at; line = c.in-Some.line.now } in
    shown c.args.self.now.first (λ (f : FirstGrant). f.at ≤ length replies
    → IsBeside g.D.Disk g.T.Peer c.args.self.now.live.disk c.args.peer.now c.print_beside-2.new.peer (take f.at replies ++ f.line ∷ [])) first (sym c.in-Some.ensures)
    (λ few.
    let at : c.min.result
    ≡ first.at = omega (arith, few, c.min.ensures, ap (λ (rs : List (List ℕ)). length rs) c.as_slice-replies.ensures) in
    beside_more g.D.Disk g.T.Peer c.args.self.now.live.disk c.args.peer.now c.print_beside.new.peer c.print_beside-2.new.peer (take first.at replies) (first.line ∷ [])
    (subst (λ (d : _). IsBeside g.D.Disk g.T.Peer d c.args.peer.now c.print_beside.new.peer (take first.at replies)) c.disk-disk.ensures
    (subst (IsBeside g.D.Disk g.T.Peer c.disk-disk.result.now c.args.peer.now c.print_beside.new.peer) (λ i. take (at i) (c.as_slice-replies.ensures i)) c.print_beside.ensures.beside))
    (subst (TookAll (peer_took g.T.Peer c.args.peer.now c.print_beside.new.peer)) (λ i. take (at i) (c.as_slice-replies.ensures i)) c.in_default-print_beside.ensures.whole)
    (subst (λ (d : _). IsBeside g.D.Disk g.T.Peer d c.print_beside.new.peer c.print_beside-2.new.peer (first.line ∷ [])) c.disk-disk.ensures
    (subst (IsBeside g.D.Disk g.T.Peer c.disk-disk.result.now c.print_beside.new.peer c.print_beside-2.new.peer) c.from_ref.ensures.value c.print_beside-2.ensures.beside)))

pub returns-in-Err-print_beside-clause-delivered : goal.returns-in-Err-print_beside-clause-delivered
returns-in-Err-print_beside-clause-delivered g c =
    let replies = c.args.self.now.replies in
    let first : FirstGrant = record { at = c.in-Some.at; line = c.in-Some.line.now } in
    shown c.args.self.now.first (λ (f : FirstGrant). f.at ≤ length replies
    → IsDelivered (peer_took g.T.Peer c.args.peer.now c.print_beside-2.new.peer) (printed DeviceFault (take f.at replies ++ f.line ∷ [])) SinkFault) first (sym c.in-Some.ensures)
    (λ few.
    let at : c.min.result
    ≡ first.at = omega (arith, few, c.min.ensures, ap (λ (rs : List (List ℕ)). length rs) c.as_slice-replies.ensures) in
    Cut refl
    (failed_after g.T.Peer.taken g.T.Peer.was_put g.T.Peer.faults c.args.peer.now c.print_beside.new.peer c.print_beside-2.new.peer (take first.at replies) (first.line ∷ []) (subst (TookAll (peer_took g.T.Peer c.args.peer.now c.print_beside.new.peer)) (λ i. take (at i) (c.as_slice-replies.ensures i)) c.in_default-print_beside.ensures.whole)
    (subst (TookSome (peer_took g.T.Peer c.print_beside.new.peer c.print_beside-2.new.peer)) c.from_ref.ensures.value c.in-Err-print_beside.ensures.part))
    (subst (λ (n : ℕ). Rose n (g.T.Peer.faults c.print_beside-2.new.peer)) c.in_default-print_beside.ensures.cause.kept c.in-Err-print_beside.ensures.cause.failed))

pub returns-in-Err-print_beside-clause-beside : goal.returns-in-Err-print_beside-clause-beside
returns-in-Err-print_beside-clause-beside g c =
    let replies = c.args.self.now.replies in
    let first : FirstGrant = record { at = c.in-Some.at; line = c.in-Some.line.now } in
    shown c.args.self.now.first (λ (f : FirstGrant). f.at ≤ length replies
    → IsBeside g.D.Disk g.T.Peer c.args.self.now.live.disk c.args.peer.now c.print_beside-2.new.peer (take f.at replies ++ f.line ∷ [])) first (sym c.in-Some.ensures)
    (λ few.
    let at : c.min.result
    ≡ first.at = omega (arith, few, c.min.ensures, ap (λ (rs : List (List ℕ)). length rs) c.as_slice-replies.ensures) in
    beside_more g.D.Disk g.T.Peer c.args.self.now.live.disk c.args.peer.now c.print_beside.new.peer c.print_beside-2.new.peer (take first.at replies) (first.line ∷ [])
    (subst (λ (d : _). IsBeside g.D.Disk g.T.Peer d c.args.peer.now c.print_beside.new.peer (take first.at replies)) c.disk-disk.ensures
    (subst (IsBeside g.D.Disk g.T.Peer c.disk-disk.result.now c.args.peer.now c.print_beside.new.peer) (λ i. take (at i) (c.as_slice-replies.ensures i)) c.print_beside.ensures.beside))
    (subst (TookAll (peer_took g.T.Peer c.args.peer.now c.print_beside.new.peer)) (λ i. take (at i) (c.as_slice-replies.ensures i)) c.in_default-print_beside.ensures.whole)
    (subst (λ (d : _). IsBeside g.D.Disk g.T.Peer d c.print_beside.new.peer c.print_beside-2.new.peer (first.line ∷ [])) c.disk-disk.ensures
    (subst (IsBeside g.D.Disk g.T.Peer c.disk-disk.result.now c.print_beside.new.peer c.print_beside-2.new.peer) c.from_ref.ensures.value c.print_beside-2.ensures.beside)))
