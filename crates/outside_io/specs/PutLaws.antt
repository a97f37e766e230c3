-- How runs of puts follow one another.
use Rattle.std.specs.Prelude.{ℕ, ◌+◌, List, [], ◌∷◌, ◌++◌, length, take, Option}
use Rattle.std.specs.List.{concat}
use Rattle.std.specs.Io.KnownBytes.{Appends}
use Rattle.std.proofs.Common.{inl, inr, refl, sym, ap, subst, ◌∙◌, arith, append_assoc, append-nil}
use Rattle.std.proofs.KnownBytes.{Appends-nil, Appends-trans}
use Rattle.std.proofs.Math.Seq.{take-append-add, take-append_seam}
use Rattle.std.proofs.lemmas.Bool.{cases_lt}
use Rattle.std.proofs.lemmas.List.{take-append-le, take_all}
use Rattle.std.proofs.lemmas.List.Folds.{concat-append}
use Rattle.outside_io.specs.Puts.{WerePut, SinkTold, sink_told, TookAll, TookSome}
use Rattle.outside_io.specs.Sink.{AppendsPrefix}

module _ {S : Type 0} (taken : S → Option (List ℕ)) (was_put : S → List ℕ → S → Type 0) (faults : S → ℕ) where
  abbrev tells : S → S → SinkTold
  tells = sink_told taken was_put faults

  WerePut-append : (a b c : S) (first then : List (List ℕ)) → WerePut was_put a b first → WerePut was_put b c then
      → WerePut was_put a c (first ++ then)
  WerePut-append a b c [] then is puts = subst (λ (s : S). WerePut was_put s c then) is puts
  WerePut-append a b c (piece ∷ first) then puts more = (puts.0, puts.1, WerePut-append puts.0 b c first then puts.2 more)

  -- ---- whole pieces

  -- no piece
  pub took_none : (a : S) → TookAll (tells a a) []
  took_none a = record { put = refl; taken = Appends-nil (taken a) }

  -- one piece
  pub took_one : (a b : S) (piece : List ℕ) → was_put a piece b → Appends (taken a) (taken b) piece → TookAll (tells a b) (piece ∷ [])
  took_one a b piece put whole = record {
    put = (b, put, refl);
    taken = subst (Appends (taken a) (taken b)) (sym (append-nil piece)) whole;
  }

  -- pieces, and then more of them
  pub took_more : (a b c : S) (first then : List (List ℕ)) → TookAll (tells a b) first → TookAll (tells b c) then
      → TookAll (tells a c) (first ++ then)
  took_more a b c first then whole more = record {
    put = WerePut-append a b c first then whole.put more.put;
    taken = subst (Appends (taken a) (taken c)) (sym (concat-append first then))
        (Appends-trans (taken a) (taken b) (taken c) (concat first) (concat then) whole.taken more.taken);
  }

  -- ---- a first part

  -- one piece, of which a first part was taken
  pub failed_at : (a b : S) (piece : List ℕ) → was_put a piece b → AppendsPrefix (taken a) (taken b) piece
      → TookSome (tells a b) (piece ∷ [])
  failed_at a b piece put part = record {
    whole = [];
    last = piece;
    rest = [];
    parted = refl;
    put = (b, put, refl);
    taken = part;
  }

  -- the later pieces are of no matter
  pub failed_before : (a b : S) (first then : List (List ℕ)) → TookSome (tells a b) first → TookSome (tells a b) (first ++ then)
  failed_before a b first then some = record {
    whole = some.whole;
    last = some.last;
    rest = some.rest ++ then;
    parted = ap (λ (pieces : List (List ℕ)). pieces ++ then) some.parted
        ∙ append_assoc some.whole (some.last ∷ some.rest) then;
    put = some.put;
    taken = some.taken;
  }

  -- pieces that were taken whole, and then some
  pub failed_after : (a b c : S) (first then : List (List ℕ)) → TookAll (tells a b) first → TookSome (tells b c) then
      → TookSome (tells a c) (first ++ then)
  failed_after a b c first then whole some = record {
    whole = first ++ some.whole;
    last = some.last;
    rest = some.rest;
    parted = ap (λ (pieces : List (List ℕ)). first ++ pieces) some.parted
        ∙ sym (append_assoc first some.whole (some.last ∷ some.rest));
    put = subst (WerePut was_put a c) (sym (append_assoc first some.whole (some.last ∷ [])))
        (WerePut-append a b c first (some.whole ++ some.last ∷ []) whole.put some.put);
    taken = (
      some.taken.0,
      subst (Appends (taken a) (taken c))
          (sym (append_assoc (concat first) (concat some.whole) (take some.taken.0 some.last))
          ∙ ap (λ (bytes : List ℕ). bytes ++ take some.taken.0 some.last) (sym (concat-append first some.whole)))
          (Appends-trans (taken a) (taken b) (taken c) (concat first) (concat some.whole ++ take some.taken.0 some.last)
          whole.taken some.taken.1),
    );
  }

-- ---- texts

module _ (a b : Option (List ℕ)) where
  -- a prefix of a text is a prefix of a longer one
  part_of_more : (text more : List ℕ) → AppendsPrefix a b text → AppendsPrefix a b (text ++ more)
  part_of_more text more part = elim (cases_lt (length text) part.0) [
    | inl past ↦
        (length text, subst (Appends a b) (take_all part.0 text (omega (arith, past)) ∙ sym (take-append_seam text more)) part.1)
    | inr within ↦ (part.0, subst (Appends a b) (sym (take-append-le part.0 text more within)) part.1)
  ]

-- a text, and then a prefix of another, are a prefix of both
part_after : (a b : Option (List ℕ)) (text more : List ℕ) (n : ℕ) → Appends a b (text ++ take n more) → AppendsPrefix a b (text ++ more)
part_after a b text more n part = (length text + n, subst (Appends a b) (sym (take-append-add text more n)) part)

-- what was taken of some pieces is a prefix of their text
pub some_is_prefix : (told : SinkTold) (pieces : List (List ℕ)) → TookSome told pieces
    → AppendsPrefix told.taken told.taken_after (concat pieces)
some_is_prefix told pieces some =
    let rest : List ℕ = concat some.rest in
    subst (AppendsPrefix told.taken told.taken_after)
    (append_assoc (concat some.whole) some.last rest
    ∙ sym (concat-append some.whole (some.last ∷ some.rest)) ∙ ap concat (sym some.parted))
    (part_of_more told.taken told.taken_after (concat some.whole ++ some.last) rest
    (part_after told.taken told.taken_after (concat some.whole) some.last some.taken.0 some.taken.1))
