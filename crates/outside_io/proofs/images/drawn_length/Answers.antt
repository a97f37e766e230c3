-- One more than the gap is no other bound of a draw where it is cut to 64 bits.
use Rattle.std.proofs.Common.{◌≡◌, ℕ, ◌+◌, ◌-◌, ◌^◌, min, length, ◌∙◌, arith}
use Rattle.outside_io.proofs.Drawing.{saturated}
use Rattle.outside_io.proofs.images.drawn_length.Goals as goal

pub returns-clause-drawn : goal.returns-clause-drawn
returns-clause-drawn c =
    let gap : ℕ = c.args.state.now.longest - length c.args.state.now.stable.items in
    let below : c.saturating_add.result ≡ min (gap + 1) (2 ^ 64 - 1) = omega (arith, c.saturating_add.ensures, c.len-stable.ensures) in
    let size : c.len-stable.result ≡ length c.args.state.now.stable.items = omega (arith, c.len-stable.ensures) in
    let drawn = c.draw.ensures.value ∙ saturated c.args.x.now gap c.saturating_add.result below in
    (λ i. size i + drawn i)
