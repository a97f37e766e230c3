-- A record that is whole in the window is whole in the file.
use Rattle.std.proofs.Common.{List, ℕ, ◌-◌, length, sym, ◌∙◌, ap, arith, take, drop, length-take, length-drop}
use Rattle.std.proofs.lemmas.List.{take_rest}
use Rattle.entry_codec.specs.Decoding.{grant_of}
use Rattle.journal_format.proofs.Windowed.{gate_whole}
use Rattle.shift_recovery.proofs.gates.gate_in.Goals as goal

pub returns-in-Some-decode-clause-found : goal.returns-in-Some-decode-clause-found
returns-in-Some-decode-clause-found c unread is_last =
    let window = c.args.window.now in
    gate_whole c.args.at window unread c.in-Some-decode.grant
    (omega (arith, c.if-rest.false, length-take (length window - 1) (drop 1 window), length-drop 1 window)) c.if-gate-ne1.false
    (ap (λ (l : List ℕ). grant_of (take 16 l)) (sym (take_rest window 1)) ∙ ap grant_of (sym c.in-Some.ensures.cases.same)
    ∙ sym c.in-Some-decode.ensures.grant)
