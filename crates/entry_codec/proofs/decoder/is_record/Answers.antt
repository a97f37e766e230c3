-- The bytes between the numbers tell whether the bytes are a record.
use Rattle.std.proofs.Common.{ap, sym, ◌∙◌, ◌≡◌, ◌&&◌, Bool, true, arith}
use Rattle.std.proofs.lemmas.Bool.{lt-ltb}
use Rattle.std.specs.Prelude.{nat_eq, nat_lt}
use Rattle.cell_base.specs.declared.limits.TheConstants.{MAX_BRANCHES}
use Rattle.entry_codec.specs.Decoding.{number_2}
use Rattle.entry_codec.proofs.Between.{plain, between, between-is_record}
use Rattle.entry_codec.proofs.decoder.is_record.Goals as goal

pub returns-in-Load : goal.returns-in-Load
returns-in-Load c = c.is_plain.ensures ∙ sym (ap (between c.args.bytes.now) c.in-Load.is)
    ∙ between-is_record c.args.bytes.now c.told-bytes c.fits-bytes c.args.request.now c.requires

pub returns-then-from-lt-MAX_BRANCHES : goal.returns-then-from-lt-MAX_BRANCHES
returns-then-from-lt-MAX_BRANCHES c =
    let few : true ≡ nat_lt c.in-Move.branch MAX_BRANCHES =
    sym (lt-ltb _ _ (omega (arith, c.from.ensures, c.if-from-lt-MAX_BRANCHES.true))) in
    c.is_plain-then-from-lt-MAX_BRANCHES.ensures ∙ ap (λ (b : Bool). b && plain c.args.bytes.now) few
    ∙ sym (ap (between c.args.bytes.now) c.in-Move.is)
    ∙ between-is_record c.args.bytes.now c.told-bytes c.fits-bytes c.args.request.now c.requires

pub returns-then-is_plain-2 : goal.returns-then-is_plain-2
returns-then-is_plain-2 c =
    let is_plain : true ≡ plain c.args.bytes.now = sym c.if-is_plain-2.true ∙ c.is_plain-in-Unload.ensures in
    ap (λ n. nat_eq n 0) c.number_2.ensures ∙ ap (λ (b : Bool). b && nat_eq (number_2 c.args.bytes.now 14) 0) is_plain
    ∙ sym (ap (between c.args.bytes.now) c.in-Unload.is)
    ∙ between-is_record c.args.bytes.now c.told-bytes c.fits-bytes c.args.request.now c.requires

pub returns-in-Place : goal.returns-in-Place
returns-in-Place c =
    sym (ap (between c.args.bytes.now) c.in-Place.is)
    ∙ between-is_record c.args.bytes.now c.told-bytes c.fits-bytes c.args.request.now c.requires
