-- What the short ways of the calls leave of an image where it stands. No exported contract cites this file.
use Rattle.std.specs.Prelude.{◌≡◌, ◌&&◌, ◌%◌, Option, None, Some}
use Rattle.std.proofs.lemmas.List.Edits.{sets}
use Rattle.controller.specs.Prelude.{ℕ, Bool, true, false, not, List, length, cond, eqb, ltb, set, Store, Recall, Swap, Verify, SwapPhase, ReadC64, WriteC64, TransferType, DmaState}
use Rattle.controller.specs.declared.reu.Reu.{Reu}
use Rattle.controller.specs.Reu.{with_history, with_irq}
use Rattle.transfer.specs.Bytes.{bit}
use Rattle.transfer.specs.Constants.{status, command, execute, without_ff00, expansion_limit, register_count, unused_register}
use Rattle.regs.specs.Registers.{acknowledged, register_index, shown}
use Rattle.controller.specs.Calls.{step_number}
use Rattle.transfer.specs.Dma.{moved, passed, latched, with_latch}
use Rattle.transfer.specs.Memory.{seen_at, bus_byte, set_bus, storage_byte, set_storage}
use Rattle.regs.specs.FinishDma.{counters}
use Rattle.image.specs.Fields.{laid}
use Rattle.image.specs.Layout.{at, flag_bits, flags, flags_of, kind, place_of, reu_at, shadow_c64, shadow_exp, shadow_length, transfer_numbers}
use Rattle.image.specs.Inner.{fitted, stored, transfer_part}
use Rattle.image.specs.InPlace.{Moving, transfer_at}

-- what a short way answers: none is taken and nothing has changed, or what is answered and left is what the call says
abbrev pub Short : Option ℕ → (List ℕ × List ℕ × List ℕ) → (List ℕ × List ℕ × List ℕ) → (ℕ × List ℕ × List ℕ × List ℕ) → Type 0
Short None old left call = left ≡ old
Short (Some a) old left call = (a, left.0, left.1, left.2) ≡ call

-- the eight flags of a controller
abbrev pub flagged : List ℕ → Reu → List ℕ
flagged i u = stored flags i (flags_of (flag_bits u))

-- ---- a cycle of the image i, with the bus m and the storage s: when its short ways are taken. At rest it is `Resting`

-- the processor is held: a transfer moves, and BA at PHI1 was low and is
pub record Holds (i m s : List ℕ) (phi1 : Bool) : Type 0 where
  pub moving : Moving i (length m) (length s)
  pub was : (reu_at i).ba_was_high ≡ false
  pub low : phi1 ≡ false

-- a byte is done, or one half of a swap's exchange: BA at PHI1 was high and is, it is not the last byte, and of a verify the two bytes are equal
pub record Advances (i m s : List ℕ) (phi1 : Bool) : Type 0 where
  pub moving : Moving i (length m) (length s)
  pub was : (reu_at i).ba_was_high ≡ true
  pub high : phi1 ≡ true
  pub more : eqb (transfer_at i).remaining 1 ≡ false
  pub equal :
      (transfer_at i).transfer_type ≡ Verify
      → eqb (bus_byte m (transfer_at i).c64_addr) (storage_byte (reu_at i).size s (transfer_at i).reu_addr) ≡ true

-- ---- what they leave

-- the history of BA
abbrev pub remembered_in : List ℕ → Bool → Bool → List ℕ
remembered_in i high phi1 = flagged i (with_history (reu_at i) phi1 (phi1 && not high))

-- a transfer in its fields
abbrev pub transfer_in : List ℕ → DmaState → List ℕ
transfer_in i d = sets i (place_of kind) (laid transfer_part (transfer_numbers (Some (fitted d))))

-- a byte of d is completed: the answer, and the image with the counters shown
abbrev pub completed_in : List ℕ → DmaState → (ℕ × List ℕ)
completed_in i d =
    (step_number true (passed d), transfer_in (counters i (moved d).c64_addr.0 (moved d).reu_addr.0 (moved d).remaining) (moved d))

abbrev pub with_memory : (ℕ × List ℕ) → List ℕ → List ℕ → (ℕ × List ℕ × List ℕ × List ℕ)
with_memory x m s = (x.0, x.1, m, s)

-- a swap's two halves
abbrev pub half_in : SwapPhase → ℕ → DmaState → List ℕ → List ℕ → List ℕ → ℕ → (ℕ × List ℕ × List ℕ × List ℕ)
half_in ReadC64 size d i m s cycle =
    (1, transfer_in i (latched d (seen_at size d.c64_addr d.reu_addr m s) cycle), m, set_storage size s d.reu_addr (bus_byte m d.c64_addr))
half_in WriteC64 size d i m s cycle = with_memory (completed_in i d) (set_bus m d.c64_addr d.latch) s

-- a byte of each type
abbrev pub typed_in : TransferType → ℕ → DmaState → List ℕ → List ℕ → List ℕ → ℕ → (ℕ × List ℕ × List ℕ × List ℕ)
typed_in Store size d i m s cycle = with_memory (completed_in i d) m (set_storage size s d.reu_addr (bus_byte m d.c64_addr))
typed_in Recall size d i m s cycle =
    with_memory (completed_in i (with_latch d (storage_byte size s d.reu_addr))) (set_bus m d.c64_addr (storage_byte size s d.reu_addr)) s
typed_in Swap size d i m s cycle = half_in d.swap_phase size d i m s cycle
typed_in Verify size d i m s cycle = with_memory (completed_in i d) m s

-- ---- the registers

abbrev pub read_in : List ℕ → ℕ → (ℕ × List ℕ)
read_in i k =
    cond (ltb k register_count)
    (cond (eqb k status) (at i status, flagged (set i status (acknowledged (at i status))) (with_irq (reu_at i) false)) (shown k (at i k), i))
    (unused_register, i)

-- a write of v begins a command, or would if storage were attached
abbrev pub starts : ℕ → ℕ → Bool
starts addr v = eqb (register_index addr) command && (bit v execute && bit v without_ff00)

-- registers, and shadows of the C64 address, the expansion address and the length
abbrev pub registers_in : List ℕ → List ℕ → ℕ → ℕ → ℕ → List ℕ
registers_in i regs c e n = stored shadow_length (stored shadow_exp (stored shadow_c64 (sets i 0 regs) c) e) n

-- those of a controller
abbrev pub registered : List ℕ → Reu → List ℕ
registered i u = registers_in i u.regs u.shadow_c64_addr (u.shadow_reu_addr % expansion_limit) u.shadow_len
