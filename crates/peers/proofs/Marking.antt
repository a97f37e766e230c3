-- A call of a peer in memory: what was until then is marked, and what is now was given and taken while the disk rests.
use Rattle.std.specs.Prelude.{Some, Result, Ok, Err, IfOk, OnOk, OnErr, take}
use Rattle.std.specs.Io.KnownBytes.{Appends}
use Rattle.std.proofs.Common.{◌≡◌, ◌⊎◌, ⊎_elim, inl, inr, ℕ, List, [], ◌∷◌, ◌++◌, sym, ap, ◌∙◌, subst}
use Rattle.std.proofs.lemmas.List.{append-nil}
use Rattle.outside_io.specs.MemSink.{MemSinkState, bytes_taken}
use Rattle.outside_io.specs.MemSource.{MemSourceState, source_given}
use Rattle.peers.specs.Moments.{Moment, IsAt, IsDuringPut, IsDuringRead, IsWithin}
use Rattle.peers.specs.MemPeer.{IsBetween, IsMarked, IsMarkedNow, peer_bytes, peer_given, peer_since}
use Rattle.peers.specs.declared.mem_peer.Mark.{Mark}
use Rattle.peers.specs.declared.mem_peer.MemPeer.{MemPeer}

-- all of a piece came, or nothing
all_within : (old new piece : List ℕ) → new ≡ old ++ piece → IsWithin (Some old) new (Some new)
all_within old new piece whole = (piece, [], whole, sym (append-nil new))

none_within : (old new : List ℕ) → new ≡ old → IsWithin (Some old) new (Some new)
none_within old new none = ([], [], none ∙ sym (append-nil old), sym (append-nil new))

put_within : {T E : Type 0} (result : Result T E) (old new piece : List ℕ) → OnOk result (new ≡ old ++ piece) → OnErr result (new ≡ old)
    → IsWithin (Some old) new (Some new)
put_within (Ok value) old new piece whole none = all_within old new piece whole
put_within (Err fault) old new piece whole none = none_within old new none

read_within : {E : Type 0} (result : Result ℕ E) (old new out : List ℕ) → IfOk result (λ n. Appends (Some old) (Some new) (take n out))
    → OnErr result (new ≡ old) → IsWithin (Some old) new (Some new)
read_within (Ok n) old new out whole none = all_within old new (take n out) whole
read_within (Err fault) old new out whole none = none_within old new none

module _ {D : Type 0} (moment : D → ℕ) (left_since : D → ℕ → List ℕ → Type 0) where
  -- a moment between the calls was marked before, or at the last of them
  last_mark : (marks : List (Mark D)) (mark : Mark D) (at : Moment) → IsMarked moment left_since (marks ++ mark ∷ []) at
      → IsMarked moment left_since marks at ⊎ IsBetween moment left_since mark at
  last_mark [] mark at is = ⊎_elim (λ here. inr here) (λ none. absurd none) is
  last_mark (first ∷ marks) mark at is =
      ⊎_elim (λ here. inl (inl here)) (λ later. ⊎_elim (λ old. inl (inr old)) (λ last. inr last) (last_mark marks mark at later)) is

  marked_still : (marks : List (Mark D)) (mark : Mark D) (at : Moment)
      → IsMarked moment left_since marks at ⊎ IsBetween moment left_since mark at → IsMarked moment left_since (marks ++ mark ∷ []) at
  marked_still [] mark at is = ⊎_elim (λ none. absurd none) (λ last. inl last) is
  marked_still (first ∷ marks) mark at is =
      ⊎_elim (λ old. ⊎_elim (λ here. inl here) (λ later. inr (marked_still marks mark at (inl later))) old)
      (λ last. inr (marked_still marks mark at (inr last))) is

  -- what a peer tells of its moments beside a disk
  abbrev pub Told : MemPeer D → D → Moment → Type 0
  Told peer disk at = IsMarked moment left_since peer.marks.items at
      ⊎ (IsAt (Some (peer_given peer)) (Some (peer_bytes peer)) at × left_since disk (peer_since moment peer) at.image)

  module _ (disk : D) (old mid : MemPeer D) (marked : IsMarkedNow old disk mid) (at : Moment) where
    -- since the call before, the same bytes were given and put
    between_is : IsBetween moment left_since marked.mark at
        → IsAt (Some (peer_given old)) (Some (peer_bytes old)) at × left_since disk (peer_since moment old) at.image
    between_is is = (
      (ap Some (sym (is.0 ∙ ap source_given marked.source_is)), ap Some (sym (is.1 ∙ ap bytes_taken marked.sink_is))),
      subst (λ (d : D). left_since d (peer_since moment old) at.image) marked.to_is
          (subst (λ (d : D). left_since marked.mark.to.value (moment d) at.image) marked.from_is is.2),
    )

    is_between : IsAt (Some (peer_given old)) (Some (peer_bytes old)) at × left_since disk (peer_since moment old) at.image
        → IsBetween moment left_since marked.mark at
    is_between is = (
      sym (let same : peer_given old ≡ at.given = cc is.0.0 in ap source_given marked.source_is ∙ same),
      sym (let same : peer_bytes old ≡ at.put = cc is.0.1 in ap bytes_taken marked.sink_is ∙ same),
      subst (λ (d : D). left_since marked.mark.to.value (moment d) at.image) (sym marked.from_is)
          (subst (λ (d : D). left_since d (peer_since moment old) at.image) (sym marked.to_is) is.1),
    )

    -- none is forgotten
    pub call_keeps : (new : MemPeer D) → new.marks ≡ mid.marks → Told old disk at → Told new disk at
    call_keeps new same is = inl (subst (λ (ms : List (Mark D)). IsMarked moment left_since ms at)
        (sym (ap (λ m. m.items) same ∙ marked.marks))
        (marked_still old.marks.items marked.mark at (⊎_elim (λ was. inl was) (λ now. inr (is_between now)) is)))

    -- each is one of before, or one of now
    pub call_moments : (new : MemPeer D) → new.marks ≡ mid.marks → new.last ≡ mid.last → (may_leave : D → List ℕ → Type 0)
        → ((c : List ℕ) → left_since disk (moment disk) c → may_leave disk c) → Told new disk at
        → Told old disk at ⊎ (IsAt (Some (peer_given new)) (Some (peer_bytes new)) at × may_leave disk at.image)
    call_moments new same_marks same_last may_leave only_now is = ⊎_elim
        (λ past. ⊎_elim (λ was. inl (inl was)) (λ here. inl (inr (between_is here)))
        (last_mark old.marks.items marked.mark at
        (subst (λ (ms : List (Mark D)). IsMarked moment left_since ms at) (ap (λ m. m.items) same_marks ∙ marked.marks) past)))
        (λ now. inr (
          now.0,
          only_now at.image
              (subst (λ (d : D). left_since disk (moment d) at.image) (ap (λ l. l.value) same_last ∙ marked.last) now.1),
        ))
        is

  -- a mark that is made where room was taken for it
  pub marked_there : (disk : D) (old mid new : MemPeer D) → IsMarkedNow mid disk new → mid.marks.items ≡ old.marks.items
      → mid.source ≡ old.source → mid.sink ≡ old.sink → mid.last ≡ old.last → mid.handed ≡ old.handed → mid.starved ≡ old.starved
      → mid.unread ≡ old.unread → IsMarkedNow old disk new
  marked_there disk old mid new marked items source sink last handed starved unread = record {
    mark = marked.mark;
    source_is = marked.source_is ∙ source;
    sink_is = marked.sink_is ∙ sink;
    from_is = marked.from_is ∙ ap (λ l. l.value) last;
    to_is = marked.to_is;
    marks = marked.marks ∙ ap (λ (ms : List (Mark D)). ms ++ marked.mark ∷ []) items;
    last = marked.last;
    source = marked.source ∙ source;
    sink = marked.sink ∙ sink;
    handed = marked.handed ∙ handed;
    starved = marked.starved ∙ starved;
    unread = marked.unread ∙ unread;
  }

  -- a put
  pub put_moments : {V E : Type 0} (disk : D) (old mid new : MemPeer D) (marked : IsMarkedNow old disk mid) (at : Moment)
      → new.marks ≡ mid.marks → new.last ≡ mid.last → new.source ≡ mid.source → (may_leave : D → List ℕ → Type 0)
      → ((c : List ℕ) → left_since disk (moment disk) c → may_leave disk c) → (result : Result V E) (piece : List ℕ)
      → OnOk result (bytes_taken new.sink ≡ bytes_taken mid.sink ++ piece) → OnErr result (bytes_taken new.sink ≡ bytes_taken mid.sink)
      → Told new disk at
      → Told old disk at ⊎ IsDuringPut may_leave (Some (peer_given old)) (Some (peer_bytes old)) (Some (peer_bytes new)) disk at
  put_moments disk old mid new marked at same_marks same_last same_source may_leave only_now result piece whole none is = ⊎_elim
      (λ was. inl was)
      (λ now. inr (
        subst (λ (s : MemSourceState). Some (source_given s) ≡ Some at.given) (same_source ∙ marked.source) now.0.0,
        (let put : peer_bytes new ≡ at.put = cc now.0.1 in
            subst (λ (bytes : List ℕ). IsWithin (Some (peer_bytes old)) bytes (Some (peer_bytes new))) put
            (subst (λ (s : MemSinkState). IsWithin (Some (bytes_taken s)) (peer_bytes new) (Some (peer_bytes new))) marked.sink
            (put_within result (bytes_taken mid.sink) (peer_bytes new) piece whole none))),
        now.1,
      ))
      (call_moments disk old mid marked at new same_marks same_last may_leave only_now is)

  -- a read
  pub read_moments : {E : Type 0} (disk : D) (old mid new : MemPeer D) (marked : IsMarkedNow old disk mid) (at : Moment)
      → new.marks ≡ mid.marks → new.last ≡ mid.last → new.sink ≡ mid.sink → (may_leave : D → List ℕ → Type 0)
      → ((c : List ℕ) → left_since disk (moment disk) c → may_leave disk c) → (result : Result ℕ E) (out : List ℕ)
      → IfOk result (λ n. Appends (Some (source_given mid.source)) (Some (source_given new.source)) (take n out))
      → OnErr result (source_given new.source ≡ source_given mid.source)
      → Told new disk at
      → Told old disk at ⊎ IsDuringRead may_leave (Some (peer_bytes old)) (Some (peer_given old)) (Some (peer_given new)) disk at
  read_moments disk old mid new marked at same_marks same_last same_sink may_leave only_now result out whole none is = ⊎_elim
      (λ was. inl was)
      (λ now. inr (
        subst (λ (s : MemSinkState). Some (bytes_taken s) ≡ Some at.put) (same_sink ∙ marked.sink) now.0.1,
        (let put : peer_given new ≡ at.given = cc now.0.0 in
            subst (λ (bytes : List ℕ). IsWithin (Some (peer_given old)) bytes (Some (peer_given new))) put
            (subst (λ (s : MemSourceState). IsWithin (Some (source_given s)) (peer_given new) (Some (peer_given new))) marked.source
            (read_within result (source_given mid.source) (peer_given new) out whole none))),
        now.1,
      ))
      (call_moments disk old mid marked at new same_marks same_last may_leave only_now is)
