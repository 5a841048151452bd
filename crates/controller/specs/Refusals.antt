-- "Refused, by who can cause it": the refusal numbers of a controller value, of the lengths that are lent with it, and of a size.
use Rattle.std.specs.Prelude.{◌&&◌, ◌∷◌}
use Rattle.controller.specs.Prelude.{ℕ, Bool, not, bool_eq, cond, List, [], eqb, leb, ltb, Reu}
use Rattle.transfer.specs.Constants.{bus_size, expansion_limit, status, version}
use Rattle.transfer.specs.Bytes.{bit}
use Rattle.transfer.specs.Memory.{is_size, chip_mark}
use Rattle.transfer.specs.Dma.{well_dma}
use Rattle.controller.specs.Reu.{reg}

-- L4: "an image whose bit 4 disagrees with its size falls under 2"
abbrev pub well_size : ℕ → ℕ → Bool
well_size size v = is_size size && bool_eq (bit v version) (chip_mark size)

-- "delay 0-2"; an expansion address has 24 bits
unfoldable pub well_formed : Reu → Bool
well_formed u =
    leb u.swap_read_delay 2
    && (ltb u.shadow_reu_addr expansion_limit && (well_dma u.attached u.dma && well_size u.size (reg u status)))

-- the number of the first test that fails, 0 if none does
abbrev pub first_refusal : List (Bool × ℕ) → ℕ
first_refusal [] = 0
first_refusal (t ∷ ts) = cond t.0 (first_refusal ts) t.1

-- "Tested in the order 1, 2, 3, 4, each only where the call lends that thing": a call that lends no bus or no storage has its
-- full size here. L4: "Refusal 4 speaks of the size set"
unfoldable pub refusal_of : Reu → ℕ → ℕ → ℕ
refusal_of u bus storage = first_refusal ((well_formed u, 2) ∷ (eqb bus bus_size, 3) ∷ (eqb storage u.size, 4) ∷ [])

-- L4: "Refusal 5 is another size, 6 setting one when attached; both follow 2, 5 first"
unfoldable pub size_refusal : Reu → ℕ → ℕ
size_refusal u size = first_refusal ((well_formed u, 2) ∷ (is_size size, 5) ∷ (not u.attached, 6) ∷ [])

-- what a call does that has the refusal number n, 0 for none
unfoldable pub checked {ℓ} : {A : Type ℓ} → ℕ → (ℕ → A) → A → A
checked n refused done = cond (eqb n 0) done (refused n)
