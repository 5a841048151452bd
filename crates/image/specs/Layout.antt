-- The image record: one list of fields, from which packing, opening, the ranges and every place follow.
use Rattle.controller.specs.Prelude.{ℕ, Bool, cond, List, [], eqb, get_or, length, replicate}
use Rattle.transfer.specs.declared.dma.SwapPhase.{SwapPhase}
use Rattle.transfer.specs.declared.dma.SwapPhase.TheVariants.{ReadC64, WriteC64}
use Rattle.transfer.specs.declared.dma.DmaState.{DmaState}
use Rattle.std.specs.Prelude.{Option, None, Some, ◌++◌, map, take, ◌+◌, ◌-◌, ◌*◌, ◌/◌, ◌%◌, ◌^◌, ◌∷◌}
use Rattle.controller.specs.declared.reu.Reu.{Reu}
use Rattle.transfer.specs.Constants.{register_count, bus_size, expansion_limit, full_length}
use Rattle.transfer.specs.Bytes.{bit, bit_of}
use Rattle.transfer.specs.Dma.{type_number, type_of, length_of}
use Rattle.image.specs.Radix.{joined}
use Rattle.image.specs.Fields.{size, laid, lifted}

-- "low byte first: 0-10 registers; 11-12, 13-15, 16-17 the shadows C64, expansion, length; 18 from bit 0: ..; 19 ..; 20 delay 0-2; 21
-- transfer present 0/1; 22 type 0-3; 23 phase ..; 24-25 C64 address; 26-28 expansion address; 29-31 remaining; 32 latch; 33 from bit 0: ..".
-- L3: "Remaining goes into image bytes 29-30, .. and later fields move down by one. The image is 37 bytes, the count at 33-36". Of each field
-- its width in bytes, and how many values it has
abbrev pub fields : List (ℕ × ℕ)
fields =
    replicate register_count (1, 256)
    ++ ((2, bus_size)  -- shadow C64
    ∷ (3, expansion_limit)  -- shadow expansion
    ∷ (2, 65536)  -- shadow length
    ∷ (1, 2 ^ 8)  -- flags
    ∷ (1, 4 * 3)  -- more flags, and the size
    ∷ (1, 3)  -- delay
    ∷ (1, 2)  -- transfer present
    ∷ (1, 4)  -- type
    ∷ (1, 2)  -- phase
    ∷ (2, bus_size)  -- C64 address
    ∷ (3, expansion_limit)  -- expansion address
    ∷ (2, full_length)  -- remaining
    ∷ (1, 256)  -- latch
    ∷ (1, 2 ^ 6)  -- options
    ∷ (4, 2 ^ 32)  -- granted cycles
    ∷ [])

abbrev pub image_size : ℕ
image_size = size fields

-- ---- the fields after the registers by their rank in the list, and where a field starts

abbrev pub shadow_c64 : ℕ
shadow_c64 = register_count

abbrev pub shadow_exp : ℕ
shadow_exp = shadow_c64 + 1

abbrev pub shadow_length : ℕ
shadow_length = shadow_exp + 1

abbrev pub flags : ℕ
flags = shadow_length + 1

abbrev pub more_flags : ℕ
more_flags = flags + 1

abbrev pub delay : ℕ
delay = more_flags + 1

abbrev pub transfer : ℕ
transfer = delay + 1

abbrev pub kind : ℕ
kind = transfer + 1

abbrev pub phase : ℕ
phase = kind + 1

abbrev pub transfer_c64 : ℕ
transfer_c64 = phase + 1

abbrev pub transfer_exp : ℕ
transfer_exp = transfer_c64 + 1

abbrev pub remaining : ℕ
remaining = transfer_exp + 1

abbrev pub latch : ℕ
latch = remaining + 1

abbrev pub options : ℕ
options = latch + 1

abbrev pub granted_field : ℕ
granted_field = options + 1

abbrev pub place_of : ℕ → ℕ
place_of k = size (take k fields)

-- ---- packing: the number of each field

-- flags from bit 0
abbrev pub flags_of : List Bool → ℕ
flags_of bs = joined (replicate (length bs) 2) (map bit_of bs)

-- "23 phase 0 read, 1 write"
abbrev pub phase_number : SwapPhase → ℕ
phase_number ReadC64 = 0
phase_number WriteC64 = 1

-- "21 transfer present 0/1"
abbrev pub present : Option DmaState → ℕ
present None = 0
present (Some d) = 1

-- "18 from bit 0: enabled, interrupt, attached, armed, BA was high, recall repeat, terminal write, late fall"
abbrev pub flag_bits : Reu → List Bool
flag_bits r =
    r.enabled ∷ r.irq_pending ∷ r.attached ∷ r.waiting_ff00 ∷ r.ba_was_high ∷ r.recall_repeat ∷ r.terminal_swap_write
    ∷ r.late_ba_fall ∷ []

-- "19 bit 0 refresh, bit 1 release"
abbrev pub more_bits : Reu → List Bool
more_bits r = r.swap_refresh ∷ r.swap_release_pending ∷ []

-- L4: "Byte 19 bits 2-3 hold 0 for 512 KiB, 1 for 256, 2 for 128"
abbrev pub size_code : ℕ → ℕ
size_code size = cond (eqb size 524288) 0 (cond (eqb size 262144) 1 2)

abbrev pub more_number : Reu → ℕ
more_number r = flags_of (more_bits r) + 4 * size_code r.size

-- "from bit 0: fix C64, fix expansion, Autoload, first byte, odd parity, tail, others 0"
abbrev pub option_bits : DmaState → List Bool
option_bits d =
    d.fix_c64 ∷ d.fix_reu ∷ d.autoload ∷ d.first_byte ∷ d.read_clock_odd ∷ d.verify_tail ∷ []

-- the fields of a transfer, from the type to the options
abbrev pub transfer_fields : ℕ
transfer_fields = options - transfer

-- L3: "0 meaning 65,536"
abbrev pub remaining_number : ℕ → ℕ
remaining_number n = n % full_length

-- L3: "without a transfer 22-32 are 0"
abbrev pub transfer_numbers : Option DmaState → List ℕ
transfer_numbers None = replicate transfer_fields 0
transfer_numbers (Some d) =
    type_number d.transfer_type ∷ phase_number d.swap_phase ∷ d.c64_addr.0 ∷ d.reu_addr.0
    ∷ remaining_number d.remaining ∷ d.latch ∷ flags_of (option_bits d) ∷ []

-- the numbers behind the registers, of a controller that runs m
abbrev pub other_with : Reu → Option DmaState → List ℕ
other_with r m =
    r.shadow_c64_addr ∷ r.shadow_reu_addr ∷ r.shadow_len ∷ flags_of (flag_bits r) ∷ more_number r ∷ r.swap_read_delay
    ∷ present m ∷ (transfer_numbers m ++ (r.granted_cycles ∷ []))

abbrev pub other_numbers : Reu → List ℕ
other_numbers r = other_with r r.dma

abbrev pub numbers_of : Reu → List ℕ
numbers_of r = r.regs ++ other_numbers r

unfoldable pub pack_image : Reu → List ℕ
pack_image r = laid fields (numbers_of r)

-- ---- opening: the controller of the numbers

-- element i of a list, and 0 past its end
abbrev pub at : List ℕ → ℕ → ℕ
at s i = get_or s i 0

abbrev pub phase_of : ℕ → SwapPhase
phase_of n = cond (eqb n 0) ReadC64 WriteC64

-- the size of a code; 3 is outside the range
abbrev pub size_of : ℕ → ℕ
size_of code = cond (eqb code 0) 524288 (cond (eqb code 1) 262144 131072)

-- a remaining of 0 means 65,536 as a length of 0 does
abbrev pub transfer_of : List ℕ → DmaState
transfer_of ns = record {
  transfer_type = type_of (at ns kind);
  swap_phase = phase_of (at ns phase);
  c64_addr = record { 0 = at ns transfer_c64 };
  reu_addr = record { 0 = at ns transfer_exp };
  remaining = length_of (at ns remaining);
  fix_c64 = bit (at ns options) 0;
  fix_reu = bit (at ns options) 1;
  autoload = bit (at ns options) 2;
  latch = at ns latch;
  first_byte = bit (at ns options) 3;
  read_clock_odd = bit (at ns options) 4;
  verify_tail = bit (at ns options) 5;
}

abbrev pub dma_in : List ℕ → Option DmaState
dma_in ns = cond (eqb (at ns transfer) 0) None (Some (transfer_of ns))

abbrev pub controller_of : List ℕ → Reu
controller_of ns = record {
  regs = take register_count ns;
  shadow_c64_addr = at ns shadow_c64;
  shadow_reu_addr = at ns shadow_exp;
  shadow_len = at ns shadow_length;
  enabled = bit (at ns flags) 0;
  irq_pending = bit (at ns flags) 1;
  attached = bit (at ns flags) 2;
  waiting_ff00 = bit (at ns flags) 3;
  ba_was_high = bit (at ns flags) 4;
  recall_repeat = bit (at ns flags) 5;
  terminal_swap_write = bit (at ns flags) 6;
  late_ba_fall = bit (at ns flags) 7;
  swap_refresh = bit (at ns more_flags) 0;
  swap_release_pending = bit (at ns more_flags) 1;
  swap_read_delay = at ns delay;
  dma = dma_in ns;
  granted_cycles = at ns granted_field;
  size = size_of (at ns more_flags / 4);
}

unfoldable pub reu_at : List ℕ → Reu
reu_at s = controller_of (lifted fields s)
