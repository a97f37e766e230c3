-- The bytes of a frame, by their indices.
use Rattle.std.specs.Int.{to_be_bytes, w64}
use Rattle.std.specs.Option.{option_map}
use Rattle.std.proofs.Common.{◌≡◌, ℕ, zero, suc, ◌+◌, ◌<◌, ◌^◌, Some, List, [], ◌∷◌, ◌++◌, length, drop, get_or}
use Rattle.std.proofs.Common.{slice_index, refl, sym, ◌∙◌, ap, arith, drop-cons}
use Rattle.std.proofs.lemmas.List.{drop_all}
use Rattle.std.proofs.lemmas.Nat.{from_be_bytes-to_be_bytes_8, be_bytes_8}
use Rattle.entry_codec.specs.Decoding.{grant_of}
use Rattle.entry_codec.specs.Records.{record_of}
use Rattle.standby_link.specs.declared.frame.Frame.{Frame}
use Rattle.standby_link.specs.Frames.{framed, frame_of, frame_in, index_in}

-- the bytes of n indices from k on
abbrev pub bytes_from : ℕ → ℕ → List ℕ → List ℕ
bytes_from zero k bytes = []
bytes_from (suc n) k bytes = slice_index bytes k ∷ bytes_from n (suc k) bytes

pub bytes_from-drop : (n k : ℕ) (bytes : List ℕ) → k + n ≡ length bytes → bytes_from n k bytes ≡ drop k bytes
bytes_from-drop zero k bytes all = sym (drop_all k bytes (omega (arith, all)))
bytes_from-drop (suc n) k bytes all =
    ap (λ zs. slice_index bytes k ∷ zs) (bytes_from-drop n (suc k) bytes (omega (arith, all)))
    ∙ sym (drop-cons bytes k 0 (omega (arith, all)))

-- a frame is read back
pub frame_in-frame_of : (frame : Frame) → frame.index < 2 ^ 64 → grant_of (record_of frame.grant) ≡ Some frame.grant
    → frame_in (frame_of frame) ≡ Some frame
frame_in-frame_of frame fits is =
    ap (option_map (framed (index_in (frame_of frame)))) is
    ∙ ap (λ (i : ℕ). Some (framed i frame.grant)) (from_be_bytes-to_be_bytes_8 frame.index fits)

small : (bytes : List ℕ) → ((k : ℕ) → get_or bytes k 0 < 256) → (n k i : ℕ) → get_or (bytes_from n k bytes) i 0 < 256
small bytes each zero k i = omega arith
small bytes each (suc n) k zero = each k
small bytes each (suc n) k (suc i) = small bytes each n (suc k) i

-- bytes are those of their index, and what stands after it
pub index-bytes : (bytes : List ℕ) → length bytes ≡ 24 → ((k : ℕ) → get_or bytes k 0 < 256)
    → bytes ≡ to_be_bytes w64 (index_in bytes) ++ drop 8 bytes
index-bytes bytes all each =
    sym (bytes_from-drop 24 0 bytes (sym all))
    ∙ ap (λ zs. zs ++ bytes_from 16 8 bytes) (sym (be_bytes_8 (bytes_from 8 0 bytes) (index_in bytes) refl (small bytes each 8 0) refl))
    ∙ ap (λ zs. to_be_bytes w64 (index_in bytes) ++ zs) (bytes_from-drop 16 8 bytes (sym all))
