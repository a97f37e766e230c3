-- The two numbers stand side by side in the four bytes.
use Rattle.std.specs.Int.{byte_at, to_be_bytes, w16, w32}
use Rattle.std.proofs.Common.{◌≡◌, ℕ, ◌<◌, ◌^◌, ◌++◌, ◌*◌, ◌+◌, refl, ap, ◌∙◌, arith}
use Rattle.std.proofs.lemmas.Nat.{be_bytes_4, from_be_bytes-to_be_bytes_2}
use Rattle.entry_codec.proofs.Between.{four}
use Rattle.entry_codec.proofs.encoder.pair.Goals as goal

side_by_side : (high low : ℕ) → high < 2 ^ 16 → low < 2 ^ 16
    → to_be_bytes w32 (high * 65536 + low) ≡ to_be_bytes w16 high ++ to_be_bytes w16 low
side_by_side high low h l =
    be_bytes_4 (to_be_bytes w16 high ++ to_be_bytes w16 low) _ refl
    (four (byte_at 1 high) (byte_at 0 high) (byte_at 1 low) (byte_at 0 low) (omega arith) (omega arith) (omega arith) (omega arith))
    (omega (arith, from_be_bytes-to_be_bytes_2 high h, from_be_bytes-to_be_bytes_2 low l))

pub returns : goal.returns
returns c =
    ap (to_be_bytes w32) (omega (arith, c.from.ensures, c.from-2.ensures))
    ∙ side_by_side c.args.high c.args.low (omega (arith, c.ranges.high)) (omega (arith, c.ranges.low))
