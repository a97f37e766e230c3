-- Records of five grants, byte by byte.
use Rattle.std.proofs.Common.{◌≡◌, ℕ, true, List, [], ◌∷◌, refl}
use Rattle.cell_base.specs.declared.requests.Request.{Request}
use Rattle.cell_base.specs.declared.requests.Request.TheVariants.{Load, Process, Move, Unload, Place}
use Rattle.entry_codec.specs.Records.{record_of}

abbrev granted : ℕ → ℕ → Request → List ℕ
granted shift session request = record_of (record { shift = shift; session = session; request = request })

-- session 1 of shift 1 loads job 7 of the first type
a_load : granted 1 1 (Load (record { 0 = 7 }) (record { 0 = 0 })) ≡ 1 ∷ 0 ∷ 0 ∷ 1 ∷ 0 ∷ 0 ∷ 0 ∷ 1 ∷ 0 ∷ 0 ∷ 0 ∷ 7 ∷ 0 ∷ 0 ∷ 0 ∷ 0 ∷ []
a_load = refl

-- session 2 of shift 1 processes the second resource
a_process : granted 1 2 (Process (record { 0 = 1 })) ≡ 2 ∷ 0 ∷ 0 ∷ 2 ∷ 0 ∷ 0 ∷ 0 ∷ 1 ∷ 0 ∷ 0 ∷ 0 ∷ 0 ∷ 0 ∷ 0 ∷ 0 ∷ 1 ∷ []
a_process = refl

-- session 1 of shift 1 moves job 7
a_move : granted 1 1 (Move (record { 0 = 7 }) 0) ≡ 3 ∷ 0 ∷ 0 ∷ 1 ∷ 0 ∷ 0 ∷ 0 ∷ 1 ∷ 0 ∷ 0 ∷ 0 ∷ 7 ∷ 0 ∷ 0 ∷ 0 ∷ 0 ∷ []
a_move = refl

-- session 258 of shift 65,536 unloads job 16,909,060
an_unload : granted 65536 258 (Unload (record { 0 = 16909060 })) ≡ 4 ∷ 0 ∷ 1 ∷ 2 ∷ 0 ∷ 1 ∷ 0 ∷ 0 ∷ 1 ∷ 2 ∷ 3 ∷ 4 ∷ 0 ∷ 0 ∷ 0 ∷ 0 ∷ []
an_unload = refl

-- a part of job 7, done, of the type 258 at the place 3
a_place : granted 0 0 (Place true (record { 0 = 258 }) (record { 0 = 7 }) 3)
    ≡ 5 ∷ 1 ∷ 0 ∷ 0 ∷ 0 ∷ 0 ∷ 0 ∷ 0 ∷ 0 ∷ 0 ∷ 0 ∷ 7 ∷ 1 ∷ 2 ∷ 0 ∷ 3 ∷ []
a_place = refl
