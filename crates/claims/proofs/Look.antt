-- What the image's bytes and the answers of read and debug_register show of the controller.
use Prim.Native.Nat.{ℕ, ◌/◌, ◌%◌, ◌^◌, ◌<◌}
use mathlib.Core.Bool.{Bool, true, false, cond}
use mathlib.Core.Path.{◌≡◌, refl, sym, ap, ◌∙◌, subst}
use mathlib.Core.Logic.{inl, inr}
use mathlib.Core.List.{List, ◌++◌}
use lib.ListN.{length, get_or, drop, get_or-append}
use lib.Seq.{get_or-append-add, get_or-take}
use lib.Dec.{eqb}
use lib.Bits.{or_mod, or_zero_r, and_mask}
use native.Mathlib.Omega.{arith}
use borrow.Author.Tests.{eq-eqb, lt-ltb}
use Rattle.std.specs.Prelude.{Option}
use Rattle.std.specs.Prelude.{None, Some}
use Rattle.transfer.specs.Bytes.{bit}
use Rattle.controller.specs.Reu.{reg}
use Rattle.transfer.proofs.Bits.{bit_div, bit_zero, zero_bit}
use Rattle.controller.specs.Registers.{read_at, read_register, debug_register as core_debug_register}
use Rattle.controller.specs.declared.reu.Reu.{Reu}
use Rattle.image.specs.Open.{Opened}
use Rattle.image.specs.Fields.{laid, lifted}
use Rattle.image.specs.Open.{open_image}
use Rattle.image.specs.Layout.{fields, image_size, at, flags, granted_field, size_of, pack_image, reu_at, present, other_numbers}
use Rattle.reu.specs.Exports.{reu_debug_register}
use Rattle.claims.specs.Calls.{Held, debug_register, read, other}
use Rattle.claims.specs.SwapTwice.{byte, size_set, CanStart, Start, OfBlock, Shown, Ended}
use Rattle.image.proofs.Opening.{opened_is as opening-is, opened_long}
use Rattle.image.proofs.Packed.{open_pack, pack_is, pack_long}
use Rattle.image.proofs.ByBytes.{listed, registers_are, flags_byte_lem, more_byte, dma_none}
use Rattle.image.proofs.Sound.{Sound, SoundDma, SoundTransfer}
use Rattle.image.proofs.Valid.{open_sound, pack_back, sound_bytes, sound_well, sound_typed}
use Rattle.claims.proofs.States.{St, held, Ready, ready_of}
use Rattle.claims.proofs.Accepted.{alone, answer_is}
use Rattle.claims.specs.Constants.{flags_byte, transfer_byte}
use Rattle.claims.specs.GrantedCycles.{number}
use Rattle.claims.specs.RemainingBytes.{remaining_of, pair_in}
use Rattle.claims.specs.SwapOnScreen.{left}
use Rattle.claims.proofs.RemainingBytes.{back, packed}
use Rattle.claims.proofs.RegisterLaw.{Value, Seven, two, three, four, five, six, seven, eight, is_seven}
use Rattle.transfer.specs.declared.dma.DmaState.{DmaState}

upper_bits : (v : ℕ) → v < 256 → v / 64 % 2 ≡ 0 → v / 128 % 2 ≡ 0 → v / 64 ≡ 0
upper_bits v h a b =
    let half : v / 128 ≡ v / 64 / 2 = omega arith in
    two_bits (v / 64) (omega arith) a (ap (λ (q : ℕ). q % 2) (sym half) ∙ b)
  where
    two_bits : (q : ℕ) → q < 4 → q % 2 ≡ 0 → q / 2 % 2 ≡ 0 → q ≡ 0
    two_bits q h a b = omega arith

pub one_bit : (v i : ℕ) → v / 2 ^ i % 2 ≡ 1 → bit v i ≡ true
one_bit v i h = bit_div v i ∙ eq-eqb (v / 2 ^ i % 2) 1 h

module _ (x : St) (sound : Sound x.u) where
  regs_11 : length x.u.regs ≡ 11
  regs_11 = sound.regs.len

  abbrev others : List ℕ
  others = laid (drop 11 fields) (other_numbers x.u)

  pub reg_byte : (i : ℕ) → i < 11 → byte (held x) i ≡ reg x.u i
  reg_byte i h =
      ap (λ (l : List ℕ). get_or l i 0) (pack_is x.u regs_11) ∙ get_or-append x.u.regs others 0 i (omega (arith, regs_11))

  pub present_byte : byte (held x) transfer_byte ≡ present x.u.dma
  present_byte =
      ap (λ (l : List ℕ). get_or l transfer_byte 0) (pack_is x.u regs_11)
      ∙ ap (λ (i : ℕ). get_or (x.u.regs ++ others) i 0) (omega (arith, regs_11)) ∙ get_or-append-add x.u.regs others 10 0

  -- what the image opens as
  reopened : reu_at (pack_image x.u) ≡ x.u
  reopened = ap (λ (o : Opened). o.reu) (sym (opening-is (pack_image x.u) accepted) ∙ again)
    where
      again : open_image (pack_image x.u) ≡ record { refusal = 0; reu = x.u }
      again = open_pack x.u (sound_typed x.u sound) (sound_well x.u sound)

      accepted : (open_image (pack_image x.u)).refusal ≡ 0
      accepted = ap (λ (o : Opened). o.refusal) again

  whole : length (pack_image x.u) ≡ image_size
  whole = pack_long x.u (sound_typed x.u sound) (sound_well x.u sound)

  -- bits of the flags
  flag_bit : (i : ℕ) → bit (byte (held x) flags_byte) i ≡ bit (at (lifted fields (pack_image x.u)) flags) i
  flag_bit i = ap (λ (v : ℕ). bit v i) (sym (flags_byte_lem (pack_image x.u) whole))

  pub irq_bit : bit (byte (held x) flags_byte) 1 ≡ x.u.irq_pending
  unfolding reu_at
  irq_bit = flag_bit 1 ∙ ap (λ (u : Reu). u.irq_pending) reopened

  pub attached_bit : bit (byte (held x) flags_byte) 2 ≡ x.u.attached
  unfolding reu_at
  attached_bit = flag_bit 2 ∙ ap (λ (u : Reu). u.attached) reopened

  pub armed_bit : bit (byte (held x) flags_byte) 3 ≡ x.u.waiting_ff00
  unfolding reu_at
  armed_bit = flag_bit 3 ∙ ap (λ (u : Reu). u.waiting_ff00) reopened

  pub late_bit : bit (byte (held x) flags_byte) 7 ≡ x.u.late_ba_fall
  unfolding reu_at
  late_bit = flag_bit 7 ∙ ap (λ (u : Reu). u.late_ba_fall) reopened

  -- the size that is set
  pub size_byte : size_set (held x) ≡ x.u.size
  unfolding reu_at
  size_byte =
      ap (λ (v : ℕ). size_of (v / 4)) (sym (more_byte (pack_image x.u) whole)) ∙ ap (λ (u : Reu). u.size) reopened

  -- the count of granted cycles, from its four bytes
  pub count_number : number (held x) ≡ x.u.granted_cycles
  unfolding reu_at
  count_number =
      omega (arith, ap (λ (l : List ℕ). at (lifted fields l) granted_field) (listed (pack_image x.u) whole), ap (λ (u : Reu). u.granted_cycles) reopened)

  pub idle_byte : byte (held x) transfer_byte ≡ 0 → x.u.dma ≡ None
  idle_byte e = go x.u.dma (sym present_byte ∙ e)
    where
      go : (d : Option DmaState) → present d ≡ 0 → d ≡ None
      go None p = refl
      go (Some d) p = absurd (omega arith)

  -- bit 7 of COMMAND
  pub ended_reg : Ended (held x) → reg x.u 1 / 128 % 2 ≡ 0
  ended_reg e = bit_zero (reg x.u 1) 7 (ap (λ (v : ℕ). bit v 7) (sym (reg_byte 1 (omega arith))) ∙ e)

  pub reg_ended : reg x.u 1 / 128 % 2 ≡ 0 → Ended (held x)
  reg_ended e = ap (λ (v : ℕ). bit v 7) (reg_byte 1 (omega arith)) ∙ zero_bit (reg x.u 1) 7 e

  -- the values shown of a register
  read_shows : {r : ℕ} → Seven r → (v : ℕ) → v ≡ (read_at x.u r).value → Value (reg x.u) r v
  read_shows two v e = (ap (λ (y : ℕ). y % 8) e, λ ne. e)
  read_shows three v e = (ap (λ (y : ℕ). y % 8) e, λ ne. e)
  read_shows four v e = (ap (λ (y : ℕ). y % 8) e, λ ne. e)
  read_shows five v e = (ap (λ (y : ℕ). y % 8) e, λ ne. e)
  read_shows six v e = (ap (λ (y : ℕ). y % 8) e ∙ or_mod (reg x.u 6) 248 3 ∙ or_zero_r (reg x.u 6 % 8), λ ne. absurd (ne refl))
  read_shows seven v e = (ap (λ (y : ℕ). y % 8) e, λ ne. e)
  read_shows eight v e = (ap (λ (y : ℕ). y % 8) e, λ ne. e)

  pub debug_value : (r : ℕ) → r < 11 → reu_debug_register (pack_image x.u) r ≡ reg x.u r
  unfolding core_debug_register
  debug_value r h = answer_is x sound (other (debug_register r)) (alone x sound) ∙ ap (λ (b : Bool). cond b (reg x.u r) 255) (lt-ltb r 11 h)

  pub shown_value : (r v : ℕ) → OfBlock r → Shown (held x) r v → Value (reg x.u) r v
  unfolding read_register
  shown_value r v (lo, hi) (inl e) =
      let small : r % 32 ≡ r = omega arith in
      read_shows (is_seven r lo hi) v
      (e ∙ answer_is x sound (read r) (alone x sound) ∙ ap (λ (i : ℕ). (read_at x.u i).value) (and_mask r 5 ∙ small))
  shown_value r v (lo, hi) (inr e) =
      let z : v ≡ reg x.u r = e ∙ debug_value r (omega arith) in
      (ap (λ (y : ℕ). y % 8) z, λ ne. z)

  -- the bytes that are left of a transfer
  pub left_none : x.u.dma ≡ None → left (held x) ≡ 0
  left_none e = ap (λ (v : ℕ). cond (eqb v 0) 0 (remaining_of (pair_in (pack_image x.u)))) (present_byte ∙ ap present e)

  pub left_some : (d : DmaState) → x.u.dma ≡ Some d → left (held x) ≡ d.remaining
  left_some d e =
      let fits : SoundTransfer x.u.attached d = subst (SoundDma x.u.attached) e sound.dma in
      ap (λ (v : ℕ). cond (eqb v 0) 0 (remaining_of (pair_in (pack_image x.u)))) (present_byte ∙ ap present e)
      ∙ ap remaining_of (packed x.u d (sound_typed x.u sound) e) ∙ (back d.remaining (fits.low, fits.high)).1

-- ---- starts

-- an idle controller that a command can start, no address fixed
pub record Idling (x : St) : Type 0 where
  pub idle : x.u.dma ≡ None
  pub attached : x.u.attached ≡ true
  pub free : reg x.u 10 / 64 ≡ 0

abbrev pub opened : Held → St
opened k = record { u = reu_at k.image; m = k.bus; s = k.storage }

-- a state that no call refuses, from which a swap can start
pub can_start : (x : St) → Ready x → x.u.attached ≡ true → reg x.u 10 / 64 ≡ 0 → CanStart (held x)
can_start x r att free =
    let control : (i : ℕ) → reg x.u 10 / 2 ^ i % 2 ≡ 0 → bit (byte (held x) 10) i ≡ false
    = λ i h. ap (λ (v : ℕ). bit v i) (reg_byte x r.sound 10 (omega arith)) ∙ zero_bit (reg x.u 10) i h in
    record {
      memories =
          record {
            bus_bytes = r.bus.bytes;
            storage_bytes = r.storage.bytes;
            bus_length = r.bus.size;
            storage_size = r.storage.size ∙ sym (size_byte x r.sound);
          };
      image_bytes = sound_bytes x.u r.sound;
      accepted = ap (λ (o : Opened). o.refusal) (open_pack x.u (sound_typed x.u r.sound) (sound_well x.u r.sound));
      exp_unfixed = control 6 (omega arith);
      c64_unfixed = control 7 (omega arith);
      attached = attached_bit x r.sound ∙ att;
    }

module _ (k : Held) (st : CanStart k) where
  long : length k.image ≡ image_size
  long = opened_long k.image st.accepted

  pub size_is : size_set k ≡ (opened k).u.size
  unfolding reu_at
  size_is = ap (λ (v : ℕ). size_of (v / 4)) (sym (more_byte k.image long))

  pub opened_ready : Ready (opened k)
  opened_ready =
      let mem = st.memories in
      ready_of (opened k) (record { sound = open_sound k.image st.image_bytes st.accepted; bus = mem.bus_bytes; storage = mem.storage_bytes })
      mem.bus_length (mem.storage_size ∙ size_is)

  pub opened_is : held (opened k) ≡ k
  opened_is = λ i. record { image = pack_back k.image st.image_bytes st.accepted i; bus = k.bus; storage = k.storage }

  control : reg (reu_at k.image) 10 ≡ byte k 10
  unfolding reu_at
  control = ap (λ (l : List ℕ). get_or l 10 0) (registers_are k.image long) ∙ get_or-take 11 k.image 10 0 (omega arith)

  unfixed : byte k 10 / 64 ≡ 0
  unfixed =
      upper_bits (byte k 10) (st.image_bytes.below 10) (bit_zero (byte k 10) 6 st.exp_unfixed) (bit_zero (byte k 10) 7 st.c64_unfixed)

  pub opened_attached : (opened k).u.attached ≡ true
  unfolding reu_at
  opened_attached = ap (λ (v : ℕ). bit v 2) (flags_byte_lem k.image long) ∙ st.attached

  pub opened_free : reg (opened k).u 10 / 64 ≡ 0
  opened_free = ap (λ (v : ℕ). v / 64) control ∙ unfixed

pub opened_idling : (k : Held) → Start k → Idling (opened k)
unfolding reu_at
opened_idling k st =
    record {
      idle = dma_none k.image (opened_long k.image st.can.accepted) st.idle;
      attached = opened_attached k st.can;
      free = opened_free k st.can;
    }
