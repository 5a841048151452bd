-- What single fields are laid down and read as. No exported contract cites this file.
use Rattle.std.specs.Prelude.{ℕ, zero, suc, ◌-◌, ◌%◌, List, [], ◌∷◌, take, drop, get_or}
use Rattle.transfer.specs.Constants.{expansion_limit}
use Rattle.transfer.specs.declared.dma.DmaState.{DmaState}
use Rattle.image.specs.Layout.{fields, kind, place_of, transfer_fields}
use Rattle.image.specs.Radix.{parted}
use Rattle.image.specs.Fields.{radices}
use Rattle.std.proofs.lemmas.List.Edits.{sets}

-- the transfer's fields
abbrev pub transfer_part : List (ℕ × ℕ)
transfer_part = take transfer_fields (drop kind fields)

-- a transfer as its fields hold it: of its expansion address three bytes
abbrev pub fitted : DmaState → DmaState
fitted d = record d { reu_addr = record { 0 = d.reu_addr.0 % expansion_limit } }

-- n elements of s, from i on
abbrev pub gets : ℕ → ℕ → List ℕ → List ℕ
gets i zero s = []
gets i (suc n) s = get_or s i 0 ∷ gets (suc i) n s

-- a number in the bytes of field k
abbrev pub stored : ℕ → List ℕ → ℕ → List ℕ
stored k l n = sets l (place_of k) (parted (radices (place_of (suc k) - place_of k)) n)
