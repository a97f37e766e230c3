-- Pieces that a sink is given in turn, each by one put.
use Rattle.std.specs.Prelude.{◌≡◌, ℕ, List, [], ◌∷◌, ◌++◌, take, Option}
use Rattle.std.specs.List.{concat}
use Rattle.std.specs.Io.KnownBytes.{Appends}

-- one put of each piece, in this order and with no other between them, takes the sink from the old state to the new one
abbrev pub WerePut : {S : Type 0} → (S → List ℕ → S → Type 0) → S → S → List (List ℕ) → Type 0
WerePut was_put old new [] = new ≡ old
WerePut {S} was_put old new (piece ∷ pieces) = (mid : S) × was_put old piece mid × WerePut was_put mid new pieces

-- what a sink tells of a run of puts: which pieces it may have been given, the bytes taken and the counts of faults, before and after
pub record SinkTold : Type 1 where
  pub puts : List (List ℕ) → Type 0
  pub taken : Option (List ℕ)
  pub taken_after : Option (List ℕ)
  pub faults : ℕ
  pub faults_after : ℕ

-- the same, by the meanings of the sink
abbrev pub sink_told : {S : Type 0} → (S → Option (List ℕ)) → (S → List ℕ → S → Type 0) → (S → ℕ) → S → S → SinkTold
sink_told taken was_put faults old new = record {
  puts = WerePut was_put old new;
  taken = taken old;
  taken_after = taken new;
  faults = faults old;
  faults_after = faults new;
}

-- each piece was put and taken whole
pub record TookAll (told : SinkTold) (pieces : List (List ℕ)) : Type 0 where
  pub put : told.puts pieces
  pub taken : Appends told.taken told.taken_after (concat pieces)

-- Each of the first pieces was put and taken whole. The one after them was the last that was put, and of it a prefix
-- was taken.
pub record TookSome (told : SinkTold) (pieces : List (List ℕ)) : Type 0 where
  pub whole : List (List ℕ)
  pub last : List ℕ
  pub rest : List (List ℕ)
  pub parted : pieces ≡ whole ++ last ∷ rest
  pub put : told.puts (whole ++ last ∷ [])
  pub taken : (n : ℕ) × Appends told.taken told.taken_after (concat whole ++ take n last)
