-- How puts to a peer beside a disk follow one another.
use Rattle.std.specs.Prelude.{Option, Some, None}
use Rattle.std.specs.List.{concat}
use Rattle.std.specs.Io.KnownBytes.{Appends}
use Rattle.std.proofs.Common.{◌≡◌, ⊎_elim, inl, inr, ℕ, List, [], ◌∷◌, ◌++◌, refl, sym, ap, subst, ◌∙◌, Bor}
use Rattle.std.proofs.KnownBytes.{Appends-nil, Appends-trans}
use Rattle.outside_io.specs.Meanings.{DiskMeaning}
use Rattle.outside_io.specs.Puts.{SinkTold, TookAll, TookSome, WerePut, sink_told}
use Rattle.outside_io.specs.PutLaws.{some_is_prefix}
use Rattle.outside_io.specs.Sink.{AppendsPrefix}
use Rattle.peers.specs.Meanings.{PeerMeaning, peer_took}
use Rattle.peers.specs.Moments.{IsAmong, IsDuringPut, IsPutting, IsWithin}
use Rattle.peers.specs.Runs.{call_runs, runs_wider}
use Rattle.lent_peers.specs.Beside.{IsBeside}
use Rattle.lent_peers.specs.LentPuts.{IsLentPut, LentOn, WentOn}
use Rattle.lent_peers.specs.declared.lent.Lent.{Lent}
use Rattle.lent_peers.proofs.Among.{among_within}
use Rattle.lent_peers.proofs.Taking.{all_is_prefix}

-- more was taken after
within_longer : (a b c : Option (List ℕ)) (put more : List ℕ) → Appends b c more → IsWithin a put b → IsWithin a put c
within_longer a b c put more grew is = (is.0, is.1 ++ more, is.2, Appends-trans (Some put) b c is.1 more is.3 grew)

-- .. or before
within_earlier : (a b c : Option (List ℕ)) (put more : List ℕ) → Appends a b more → IsWithin b put c → IsWithin a put c
within_earlier a b c put more grew is = (more ++ is.0, is.1, Appends-trans a b (Some put) more is.0 grew is.2, is.3)

module _ {D T : Type 0} (disk : DiskMeaning D) (peer : PeerMeaning T D) where
  pub stays_on : (rests : D) (a : T) → WentOn disk peer rests a a
  stays_on rests a = record {
    grew = ([], Appends-nil (peer.taken a));
    unread = refl;
    ended = λ is. is;
    no_read = refl;
    clock = λ begun. begun;
    moments = λ at is. inl is;
    keeps = λ at is. is;
  }

  pub went_further : (rests : D) (a b c : T) → WentOn disk peer rests a b → WentOn disk peer rests b c → WentOn disk peer rests a c
  went_further rests a b c one two = record {
    grew = (
      one.grew.0 ++ two.grew.0,
      Appends-trans (peer.taken a) (peer.taken b) (peer.taken c) one.grew.0 two.grew.0 one.grew.1 two.grew.1,
    );
    unread = two.unread ∙ one.unread;
    ended = λ is. two.ended (one.ended is);
    no_read = two.no_read ∙ one.no_read;
    clock = λ begun. two.clock (one.clock begun);
    moments = λ at is. ⊎_elim
        (λ earlier. ⊎_elim (λ before. inl before)
        (λ during. inr (
          during.0,
          within_longer (peer.taken a) (peer.taken b) (peer.taken c) at.put two.grew.0 two.grew.1 during.1,
          during.2,
        ))
        (one.moments at earlier))
        (λ during. inr (
          sym one.unread ∙ during.0,
          within_earlier (peer.taken a) (peer.taken b) (peer.taken c) at.put one.grew.0 one.grew.1 during.1,
          during.2,
        ))
        (two.moments at is);
    keeps = λ at is. two.keeps at (one.keeps at is);
  }

  -- no put
  pub lent_none : (a : Lent D T) → LentOn disk peer a a
  lent_none a = record { same_peer = refl; same_disk = refl; went_on = stays_on a.disk.now a.peer.now }

  -- one run of puts after another
  pub lent_more : (a b c : Lent D T) → LentOn disk peer a b → LentOn disk peer b c → LentOn disk peer a c
  lent_more a b c one two = record {
    same_peer = two.same_peer ∙ one.same_peer;
    same_disk = two.same_disk ∙ one.same_disk;
    went_on = went_further a.disk.now a.peer.now b.peer.now c.peer.now one.went_on
        (subst (λ (d : Bor D). WentOn disk peer d.now b.peer.now c.peer.now) one.same_disk two.went_on);
  }

  -- the puts of some pieces
  pub lent_puts : (a b : Lent D T) (pieces : List (List ℕ)) → WerePut (IsLentPut disk peer) a b pieces → LentOn disk peer a b
  lent_puts a b [] is = subst (LentOn disk peer a) (sym is) (lent_none a)
  lent_puts a b (piece ∷ pieces) puts = lent_more a puts.0 b puts.1.lent_on (lent_puts puts.0 b pieces puts.2)

  -- the same puts, of the peer alone
  peer_puts : (a b : Lent D T) (pieces : List (List ℕ)) → WerePut (IsLentPut disk peer) a b pieces
      → WerePut peer.was_put a.peer.now b.peer.now pieces
  peer_puts a b [] is = ap (λ (lent : Lent D T). lent.peer.now) is
  peer_puts a b (piece ∷ pieces) puts = (puts.0.peer.now, puts.1.put, peer_puts puts.0 b pieces puts.2)

  -- what the peer and its disk tell as a sink
  abbrev pub lent_told : Lent D T → Lent D T → SinkTold
  lent_told a b = sink_told (λ (lent : Lent D T). peer.taken lent.peer.now) (IsLentPut disk peer)
      (λ (lent : Lent D T). peer.faults lent.peer.now) a b

  -- the peer went on, and took a first part of these lines
  pub record TookBeside (rests : D) (a b : T) (lines : List (List ℕ)) : Type 0 where
    pub went_on : WentOn disk peer rests a b
    pub took : AppendsPrefix (peer.taken a) (peer.taken b) (concat lines)

  -- a call that hands on what was put
  pub handed_beside : (rests : D) (a b c : T) (lines : List (List ℕ)) → TookBeside rests a b lines → WentOn disk peer rests b c
      → peer.taken c ≡ peer.taken b → TookBeside rests a c lines
  handed_beside rests a b c lines one flush same = record {
    went_on = went_further rests a b c one.went_on flush;
    took = subst (λ (o : Option (List ℕ)). AppendsPrefix (peer.taken a) o (concat lines)) (sym same) one.took;
  }

  -- no line
  pub none_beside : (rests : D) (a : T) → TookBeside rests a a []
  none_beside rests a = record {
    went_on = stays_on rests a;
    took = all_is_prefix (peer.taken a) (peer.taken a) [] (Appends-nil (peer.taken a));
  }

  -- the moments of a run in which a first part of these lines was taken
  pub is_beside : (rests : D) (a b : T) (lines : List (List ℕ)) → TookBeside rests a b lines → IsBeside disk peer rests a b lines
  is_beside rests a b lines took = record {
    unread = took.went_on.unread;
    ended = took.went_on.ended;
    no_read = took.went_on.no_read;
    runs = λ given before given_is is clock.
        runs_wider disk peer a b rests rests
        (λ at. IsDuringPut disk.may_leave (peer.given a) (peer.taken a) (peer.taken b) rests at)
        (IsPutting disk.may_leave given before lines rests)
        (call_runs disk peer a b rests (λ at. IsDuringPut disk.may_leave (peer.given a) (peer.taken a) (peer.taken b) rests at)
        (took.went_on.clock clock) took.went_on.moments)
        (λ at during. (
          (let same : Some at.given ≡ Some given = sym during.0 ∙ given_is in cc same),
          among before (peer.taken b) (subst (λ (o : Option (List ℕ)). AppendsPrefix o (peer.taken b) (concat lines)) is took.took) at.put
              (subst (λ (o : Option (List ℕ)). IsWithin o at.put (peer.taken b)) is during.1),
          during.2,
        ));
  } where
    among : (before : List ℕ) (after : Option (List ℕ)) → AppendsPrefix (Some before) after (concat lines) → (put : List ℕ)
        → IsWithin (Some before) put after → IsAmong before lines put
    among before None took put within = absurd took.1
    among before (Some bytes) took put within = among_within before lines took.0 within.0 within.1 put bytes took.1 within.2 within.3

  -- ---- what was printed to a peer that was lent, when it is given back under its name
  module _ (a b : Lent D T) (rests : D) (first last : T) (disk_is : a.disk.now ≡ rests) (first_is : a.peer.now ≡ first)
      (last_is : b.peer.ghost_name ≡ a.peer.ghost_name → last ≡ b.peer.now) (lines : List (List ℕ)) where
    given_back : LentOn disk peer a b → AppendsPrefix (peer.taken a.peer.now) (peer.taken b.peer.now) (concat lines)
        → TookBeside rests first last lines
    given_back on took =
        subst (λ (t : T). TookBeside rests t last lines) first_is
        (subst (λ (t : T). TookBeside rests a.peer.now t lines) (sym (last_is on.same_peer))
        (subst (λ (d : D). TookBeside d a.peer.now b.peer.now lines) disk_is (record { went_on = on.went_on; took = took })))

    faults_back : LentOn disk peer a b → (P : ℕ → ℕ → Type 0) → P (peer.faults a.peer.now) (peer.faults b.peer.now)
        → P (peer.faults first) (peer.faults last)
    faults_back on P is =
        subst (λ (t : T). P (peer.faults t) (peer.faults last)) first_is
        (subst (λ (t : T). P (peer.faults a.peer.now) (peer.faults t)) (sym (last_is on.same_peer)) is)

    -- all of them
    pub all_lent : TookAll (lent_told a b) lines → LentOn disk peer a b
    all_lent all = lent_puts a b lines all.put

    pub all_beside : TookAll (lent_told a b) lines → TookBeside rests first last lines
    all_beside all = given_back (all_lent all) (all_is_prefix (peer.taken a.peer.now) (peer.taken b.peer.now) (concat lines) all.taken)

    pub all_took : TookAll (lent_told a b) lines → TookAll (peer_took peer first last) lines
    all_took all =
        subst (λ (t : T). TookAll (peer_took peer t last) lines) first_is
        (subst (λ (t : T). TookAll (peer_took peer a.peer.now t) lines) (sym (last_is (all_lent all).same_peer))
        (record { put = peer_puts a b lines all.put; taken = all.taken }))

    pub all_faults : TookAll (lent_told a b) lines → (P : ℕ → ℕ → Type 0) → P (peer.faults a.peer.now) (peer.faults b.peer.now)
        → P (peer.faults first) (peer.faults last)
    all_faults all = faults_back (all_lent all)

    -- some of them
    pub some_lent : TookSome (lent_told a b) lines → LentOn disk peer a b
    some_lent some = lent_puts a b (some.whole ++ some.last ∷ []) some.put

    pub some_beside : TookSome (lent_told a b) lines → TookBeside rests first last lines
    some_beside some = given_back (some_lent some) (some_is_prefix (lent_told a b) lines some)

    pub some_took : TookSome (lent_told a b) lines → TookSome (peer_took peer first last) lines
    some_took some =
        subst (λ (t : T). TookSome (peer_took peer t last) lines) first_is
        (subst (λ (t : T). TookSome (peer_took peer a.peer.now t) lines) (sym (last_is (some_lent some).same_peer))
        (record {
          whole = some.whole;
          last = some.last;
          rest = some.rest;
          parted = some.parted;
          put = peer_puts a b (some.whole ++ some.last ∷ []) some.put;
          taken = some.taken;
        }))

    pub some_faults : TookSome (lent_told a b) lines → (P : ℕ → ℕ → Type 0) → P (peer.faults a.peer.now) (peer.faults b.peer.now)
        → P (peer.faults first) (peer.faults last)
    some_faults some = faults_back (some_lent some)
