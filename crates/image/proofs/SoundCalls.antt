-- Each call keeps a controller sound, and what it writes to the bus or the storage is a byte.
use Prim.Native.Nat.{ℕ, zero, suc, ◌+◌, ◌-◌, ◌<◌, ◌≤◌}
use mathlib.Core.Bool.{Bool, true, false, cond, not, ◌&&◌, ◌||◌}
use mathlib.Core.Path.{◌≡◌, refl, ap, ◌∙◌}
use mathlib.Core.List.{List}
use lib.Bits.{bit_and, bit_or, or_lt}
use lib.ListN.{length, get_or, set, replicate}
use lib.Dec.{eqb, leb, ltb}
use native.Mathlib.Omega.{arith}
use borrow.Author.Tests.{eqb-false, leb-true}
use Rattle.controller.specs.declared.reu.Reu.{Reu}
use Rattle.controller.specs.declared.reu.Answered.{Answered}
use Rattle.controller.specs.declared.reu.BusAnswer.{BusAnswer}
use Rattle.controller.specs.declared.reu.TickAnswer.{TickAnswer}
use Rattle.transfer.specs.declared.dma.DmaState.{DmaState}
use Rattle.std.specs.Prelude.{Option, None, Some}
use Rattle.transfer.specs.declared.dma.TransferType.{TransferType}
use Rattle.transfer.specs.declared.dma.TransferType.TheVariants.{Store, Recall, Swap, Verify}
use Rattle.transfer.specs.declared.dma.SwapPhase.{SwapPhase}
use Rattle.transfer.specs.declared.dma.SwapPhase.TheVariants.{ReadC64, WriteC64}
use Rattle.transfer.specs.declared.memory.C64Address.{C64Address}
use Rattle.transfer.specs.declared.memory.ExpansionAddress.{ExpansionAddress}
use Rattle.transfer.specs.declared.memory.Seen.{Seen}
use Rattle.transfer.specs.declared.memory.Put.{Put}
use Rattle.transfer.specs.declared.memory.Put.TheVariants.{Nothing, Bus, Storage}
use Rattle.transfer.specs.declared.timing.ReuBusAction.{ReuBusAction}
use Rattle.transfer.specs.declared.timing.ReuBusAction.TheVariants.{Cpu, Hold, Transfer}
use Rattle.transfer.specs.Constants.{new_size}
use Rattle.transfer.specs.Bytes.{bit, word}
use Rattle.controller.specs.Reu.{reg, set_reg, with_regs, with_armed, with_dma, with_history, with_repeat, with_release}
use Rattle.transfer.specs.declared.dma.Passed.{Passed}
use Rattle.transfer.specs.Dma.{with_latch, is_type, length_of, moved, neither, recalled, is_first_byte, is_last_byte, seen_by}
use Rattle.controller.specs.Registers.{read_register, write_register, write_command}
use Rattle.transfer.specs.Memory.{is_size, next_c64, next_exp, put_bus, put_storage, zeros}
use Rattle.controller.specs.Timing.{c64_access}
use Rattle.transfer.specs.Timing.{reads, writes, read_again, restored, resumes, swap_reads, swap_writes}
use Rattle.regs.specs.StartDma.{requested}
use Rattle.controller.specs.StartDma.{start_dma, trigger_ff00}
use Rattle.regs.specs.FinishDma.{irq_due, stores_at_end, finished, finished_command}
use Rattle.regs.specs.Stores.{listed, made}
use Rattle.controller.specs.FinishDma.{update_irq, publish_live_counters, finish_dma, with_stores}
use Rattle.controller.specs.Enable.{fresh, new_reu, set_size, set_enabled}
use Rattle.controller.specs.BusAction.{repeated, plain, fall_on_read, fall_on_swap_write, fall_on_write, fall, decide, resumed, next_action, bus_action}
use Rattle.controller.specs.TickDma.{advance, ends, shown_last, tick_store, tick_recall, swap_read, swap_write, tick_swap, differs, with_error, tick_verify, tick_by_type, tick_refresh, tick_tail, tick_running, tick_of, tick_dma}
use Rattle.controller.specs.Cycle.{counted, most_granted, cycle_by, run_reu_cycle}
use Rattle.transfer.proofs.Pick.{by_test, fst, snd}
use Rattle.transfer.proofs.Sizes.{size_512}
use Rattle.image.specs.Valid.{Bytes}
use Rattle.image.proofs.Sound.{SoundRegs, fresh_regs, and_byte, set_each, store, plain_fits, cleared_fits, mask_fits, control_fits, raise, count_pair, count_all, SoundTransfer, SoundDma, with_step_lem, Sound, with_regs_lem, with_shadows_lem, with_delay_lem, with_dma_lem, with_granted_lem, with_size_lem}

-- ---- read and write

pub sound_read : (u : Reu) (a : ℕ) → Sound u → Sound (read_register u a).reu
unfolding read_register
sound_read u a s =
    by_test (λ (r : Answered ℕ). Sound r.reu) (ltb (bit_and a 31) 11) _ _
    (λ _. by_test (λ (r : Answered ℕ). Sound r.reu) (eqb (bit_and a 31) 0) _ _
    (λ _. with_regs_lem s (store 0 s.regs (cleared_fits 31 refl (s.regs.fits 0))))
    (λ _. s))
    (λ _. s)

sound_irq : (u : Reu) → Sound u → Sound (update_irq u)
unfolding update_irq
sound_irq u s = with_regs_lem s (raise 128 (omega arith) (irq_due u.regs) s.regs)

pub length_range : (q : ℕ) → q < 65536 → (1 ≤ length_of q) × (length_of q ≤ 65536)
unfolding length_of
length_range q h = by_test (λ (n : ℕ). (1 ≤ n) × (n ≤ 65536)) (eqb q 0) 65536 q (λ _. omega arith) (λ ne. omega (arith, eqb-false q 0 ne))

sound_requested : (u : Reu) → Sound u → u.attached ≡ true → SoundTransfer u.attached (requested u.regs)
unfolding requested
sound_requested u s att =
    let b = s.regs.fits in
    let r = length_range (word (reg u 7) (reg u 8)) (omega (arith, (b 7).byte, (b 8).byte)) in
    record {
      present = att;
      c64 = omega (arith, (b 2).byte, (b 3).byte);
      exp = omega (arith, (b 4).byte, (b 5).byte, (b 6).byte);
      low = r.0;
      high = r.1;
      latch = omega arith;
      phase = refl;
      tail = refl;
    }

sound_start : (u : Reu) → Sound u → Sound (start_dma u)
unfolding start_dma
sound_start u s =
    by_test Sound u.attached _ _
    (λ att. with_granted_lem (with_dma_lem (with_regs_lem (with_delay_lem s (omega arith)) (store 0 s.regs (cleared_fits 16 refl (s.regs.fits 0)))) (sound_requested u s att)) (omega arith))
    (λ _. with_regs_lem (with_delay_lem s (omega arith)) (store 1 s.regs (plain_fits 1 refl (and_byte (reg u 1) 127 (s.regs.fits 1).byte))))

sound_command : (u : Reu) (v : ℕ) → Sound u → v < 256 → Sound (write_command u v)
unfolding write_command
sound_command u v s h =
    let w : Sound (set_reg u 1 v) = with_regs_lem s (store 1 s.regs (plain_fits 1 refl h)) in
    by_test Sound (bit v 7) _ _ (λ _. by_test Sound (bit v 4) _ _ (λ _. sound_start (with_armed (set_reg u 1 v) false) w) (λ _. w)) (λ _. w)

-- soundness as a record of the controller, so that a chain of choices is compared choice by choice
record Chosen (u : Reu) : Type 0 where
  sound : Sound u

choose : (b : Bool) (x y : Reu) → Sound x → Chosen y → Chosen (cond b x y)
choose b x y h k = by_test Chosen b x y (λ _. record { sound = h }) (λ _. k)

pub sound_write : (u : Reu) (a v : ℕ) → Sound u → v < 256 → Sound (write_register u a v)
unfolding write_register
sound_write u a v s h =
    let i = bit_and a 31 in
    let c = s.c64 in
    let e = s.exp in
    let n = s.len in
    let bank : bit_or v 248 < 256 = or_lt 8 v 248 h (omega arith) in
    let w : Chosen (write_register u a v)
    = choose (eqb i 1) _ _ (sound_command u v s h)
    (choose (eqb i 2) _ _ (with_regs_lem (with_shadows_lem s (omega arith) e n) (count_pair 2 3 _ refl refl s.regs))
    (choose (eqb i 3) _ _ (with_regs_lem (with_shadows_lem s (omega arith) e n) (count_pair 2 3 _ refl refl s.regs))
    (choose (eqb i 4) _ _ (with_regs_lem (with_shadows_lem s c (omega arith) n) (count_pair 4 5 _ refl refl s.regs))
    (choose (eqb i 5) _ _ (with_regs_lem (with_shadows_lem s c (omega arith) n) (count_pair 4 5 _ refl refl s.regs))
    (choose (eqb i 6) _ _ (with_regs_lem (with_shadows_lem s c (omega arith) n) (store 6 s.regs (plain_fits 6 refl bank)))
    (choose (eqb i 7) _ _ (with_regs_lem (with_shadows_lem s c e (omega arith)) (count_pair 7 8 _ refl refl s.regs))
    (choose (eqb i 8) _ _ (with_regs_lem (with_shadows_lem s c e (omega arith)) (count_pair 7 8 _ refl refl s.regs))
    (choose (eqb i 9) _ _ (sound_irq (set_reg u 9 (bit_or v 31)) (with_regs_lem s (store 9 s.regs (mask_fits h))))
    (choose (eqb i 10) _ _ (with_regs_lem s (store 10 s.regs (control_fits h))) (record { sound = s })))))))))) in
    w.sound

pub sound_trigger : (u : Reu) → Sound u → Sound (trigger_ff00 u)
unfolding trigger_ff00
sound_trigger u s = by_test Sound (u.waiting_ff00 && bit (reg u 1) 7) (start_dma u) u (λ _. sound_start u s) (λ _. s)

-- ---- new, reset, the size, the enable switch

pub sound_fresh : (e a : Bool) (size : ℕ) → is_size size ≡ true → Sound (fresh e a size)
sound_fresh e a size h =
    record { regs = fresh_regs e a size; c64 = omega arith; exp = omega arith; len = omega arith; delay = omega arith; dma = tt; granted = omega arith; size = h }

pub sound_new : Sound new_reu
sound_new = sound_fresh false false new_size size_512

pub sound_size : (u : Reu) (size : ℕ) → Sound u → is_size size ≡ true → Sound (set_size u size)
unfolding set_size
sound_size u size s h = with_size_lem s size h

attach : (a : Bool) (d : Option DmaState) → SoundDma a d → SoundDma true d
attach a None h = tt
attach a (Some d) h =
    record { present = refl; c64 = h.c64; exp = h.exp; low = h.low; high = h.high; latch = h.latch; phase = h.phase; tail = h.tail }

pub sound_switch : (u : Reu) (s : List ℕ) (e : Bool) → Sound u → Sound (set_enabled u s e).0
unfolding set_enabled
sound_switch u s true h = with_dma_lem h (attach u.attached u.dma h.dma)
sound_switch u s false h = with_dma_lem (with_delay_lem h (omega arith)) tt

-- ---- the grant

-- what is written is a byte
abbrev pub FitsPut : Put → Type 0
FitsPut Nothing = Unit {0}
FitsPut (Bus a v) = v < 256
FitsPut (Storage a v) = v < 256

pub record SoundGrant (g : BusAnswer) : Type 0 where
  pub sound : Sound g.reu
  pub put : FitsPut g.put

grant : {g : BusAnswer} → Sound g.reu → FitsPut g.put → SoundGrant g
grant s p = record { sound = s; put = p }

-- the controller with its stores made
record SoundTick (t : TickAnswer) : Type 0 where
  sound : Sound (with_stores t.reu t.stores)
  put : FitsPut t.put

tick : {t : TickAnswer} → Sound (with_stores t.reu t.stores) → FitsPut t.put → SoundTick t
tick s p = record { sound = s; put = p }

again : (a : Bool) (d : Option DmaState) → SoundDma a d → SoundDma a (read_again d) × FitsPut (restored d)
again a None h = (tt, tt)
again a (Some d) h = (with_step_lem h h.latch refl h.tail, h.latch)

module _ (u : Reu) (s : Sound u) where
  on_fall : (late : Bool) → SoundGrant (fall u late)
  unfolding fall plain fall_on_read fall_on_swap_write fall_on_write
  on_fall late =
      by_test SoundGrant (swap_reads u.dma) _ _
      (λ _. by_test SoundGrant (is_first_byte u.dma) _ _ (λ _. grant s tt)
      (λ _. by_test SoundGrant (is_last_byte u.dma) _ _ (λ _. grant s tt) (λ _. grant (with_delay_lem s (omega arith)) tt)))
      (λ _. by_test SoundGrant (reads (c64_access u)) _ _ (λ _. grant s tt)
      (λ _. by_test SoundGrant (swap_writes u.dma) _ _
      (λ _. by_test SoundGrant late _ _ (λ _. grant (with_delay_lem s (omega arith)) tt)
      (λ _. let g = again u.attached u.dma s.dma in grant (with_dma_lem s g.0) g.1))
      (λ _. by_test SoundGrant (writes (c64_access u)) _ _
      (λ _. by_test SoundGrant (is_last_byte u.dma) _ _ (λ _. grant s tt) (λ _. grant s tt)) (λ _. grant s tt))))

  sound_decide : (high falling late : Bool) → SoundGrant (decide u high falling late)
  unfolding decide plain
  sound_decide high falling late =
      by_test SoundGrant u.terminal_swap_write _ _ (λ _. grant s tt)
      (λ _. by_test SoundGrant (eqb u.swap_read_delay 0) _ _ (λ _. by_test SoundGrant falling _ _ (λ _. on_fall late) (λ _. grant s tt))
      (λ _. grant (with_delay_lem s (omega (arith, s.delay))) tt))

pub sound_next : (u : Reu) (high phi1 : Bool) (cycle : ℕ) → Sound u → SoundGrant (next_action u high phi1 cycle)
unfolding next_action repeated
sound_next u high phi1 cycle s =
    let falling = u.ba_was_high && not phi1 in
    let resume = resumes u.dma (not u.ba_was_high && phi1) cycle in
    let now = with_history u phi1 (phi1 && not high) in
    let g = again u.attached u.dma s.dma in
    let ready : Sound (resumed now resume) = by_test Sound resume (with_dma now (read_again u.dma)) now (λ _. with_dma_lem s g.0) (λ _. s) in
    let decided = sound_decide (repeated (resumed now resume) falling) ready phi1 falling u.late_ba_fall in
    grant decided.sound (by_test FitsPut resume (restored u.dma) _ (λ _. g.1) (λ _. decided.put))

-- ---- a tick

abbrev FitsSeen : Seen → Type 0
FitsSeen b = (b.bus < 256) × (b.storage < 256)

sound_publish : (u : Reu) (d : DmaState) → Sound u → Sound (publish_live_counters u d)
unfolding publish_live_counters
sound_publish u d s = with_regs_lem s (count_all d.c64_addr.0 d.reu_addr.0 d.remaining s.regs)

stored_regs : {k : Bool} (b : Bool) (c e n : ℕ) {l : List ℕ} → SoundRegs k l → SoundRegs k (made (listed (stores_at_end b c e n)) l)
stored_regs true c e n r = count_all c e n r
stored_regs false c e n r = r

finished_command_lem : {k : Bool} (l : List ℕ) → SoundRegs k l → SoundRegs k (finished_command l)
finished_command_lem l r =
    store 1 r
    (plain_fits 1 refl (or_lt 8 (bit_and (get_or l 1 0) 127) 16 (and_byte (get_or l 1 0) 127 (r.fits 1).byte) (omega arith)))

sound_error : (u : Reu) (error : Bool) → Sound u → Sound (with_error u error)
sound_error u error s = with_regs_lem s (raise 32 (omega arith) error s.regs)

sound_finish : (u : Reu) (done : Bool) → Sound u → Sound (finish_dma u done)
unfolding finish_dma
sound_finish u done s =
    sound_irq (with_dma (with_regs u (finished u.regs done)) None)
    (with_dma_lem (with_regs_lem s (finished_command_lem _ (raise 64 (omega arith) done s.regs))) tt)

sound_ends : (u : Reu) (p : Passed) (d : DmaState) (error done : Bool) (put : Put) → Sound u → FitsPut put → SoundTick (ends u p d error done put)
sound_ends u p d error done put s f =
    let w = sound_finish (with_error u error) done (sound_error u error s) in
    tick
    (with_regs_lem w
    (stored_regs d.autoload u.shadow_c64_addr u.shadow_reu_addr u.shadow_len w.regs))
    f

sound_moved : (att : Bool) (d : DmaState) → SoundTransfer att d → d.verify_tail ≡ false → SoundTransfer att (moved d)
sound_moved att d h e =
    let lo = h.low in
    let hi = h.high in
    record {
      present = h.present;
      c64 = by_test (λ (a : C64Address). a.0 < 65536) d.fix_c64 d.c64_addr (next_c64 d.c64_addr) (λ _. h.c64) (λ _. omega arith);
      exp = by_test (λ (a : ExpansionAddress). a.0 < 16777216) d.fix_reu d.reu_addr (next_exp d.reu_addr) (λ _. h.exp) (λ _. omega arith);
      low = by_test (λ (q : ℕ). 1 ≤ q) (eqb d.remaining 1) d.remaining (d.remaining - 1) (λ _. lo) (λ ne. omega (arith, eqb-false d.remaining 1 ne));
      high = by_test (λ (q : ℕ). q ≤ 65536) (eqb d.remaining 1) d.remaining (d.remaining - 1) (λ _. hi) (λ ne. omega arith);
      latch = h.latch;
      phase = refl;
      tail = ap (λ (b : Bool). not b || (is_type d.transfer_type Verify && eqb (moved d).remaining 1)) e;
    }

-- an error is a verify's
sound_advance : (u : Reu) (d : DmaState) (error low : Bool) (put : Put) → Sound u → SoundTransfer u.attached d → d.verify_tail ≡ false
    → (error ≡ true → is_type d.transfer_type Verify ≡ true) → FitsPut put → SoundTick (advance u d error low put)
unfolding advance publish_live_counters
sound_advance u d error low put s h e v p =
    let mv = sound_moved u.attached d h e in
    let pu = sound_publish (with_error u error) (moved d) (sound_error u error s) in
    let last : Sound (shown_last u (moved d)) = by_test Sound d.autoload _ _ (λ _. s) (λ _. sound_publish u (moved d) s) in
    let left = (moved d).remaining in
    by_test SoundTick (error && (not (eqb d.remaining 1) && eqb left 1)) _ _
    (λ q.
    let now = snd error (not (eqb d.remaining 1) && eqb left 1) q in
    let of-verify = v (fst error (not (eqb d.remaining 1) && eqb left 1) q) in
    tick (with_dma_lem pu (with_step_lem mv mv.latch refl (ap (λ (b : Bool). b && eqb left 1) of-verify ∙ snd (not (eqb d.remaining 1)) (eqb left 1) now))) p)
    (λ _. by_test SoundTick (eqb d.remaining 1 || error) _ _
    (λ _. sound_ends (with_release (shown_last u (moved d)) (eqb d.remaining 1 && (is_type d.transfer_type Swap && not low))) _ d error (eqb d.remaining 1) put last p)
    (λ _. tick (with_dma_lem pu mv) p))

never : {A : Type 0} → false ≡ true → A
never e = absurd (let z : ◌≡◌ {A = ℕ} 0 1 = cc in omega arith)

module _ (u : Reu) (d : DmaState) (b : Seen) (s : Sound u) (h : SoundTransfer u.attached d) (see : FitsSeen b) where
  module _ (e : d.verify_tail ≡ false) (cycle : ℕ) (low : Bool) where
    sound_by_phase : (p : SwapPhase) → d.transfer_type ≡ Swap → SoundTick (tick_swap p u d b cycle low)
    unfolding tick_swap swap_read swap_write
    sound_by_phase ReadC64 et = tick (with_dma_lem s (with_step_lem h see.1 (ap (λ (t : TransferType). is_type t Swap) et) h.tail)) see.0
    sound_by_phase WriteC64 et = sound_advance u d false low _ s h e never h.latch

    sound_by_type : (t : TransferType) → d.transfer_type ≡ t → SoundTick (tick_by_type t u d b cycle low)
    unfolding tick_by_type tick_store tick_recall tick_verify
    sound_by_type Store et = sound_advance u d false low _ s h e never see.0
    sound_by_type Recall et =
        let v : recalled d u.recall_repeat b < 256
        = by_test (λ (x : ℕ). x < 256) (u.recall_repeat && not d.first_byte) d.latch b.storage (λ _. h.latch) (λ _. see.1) in
        sound_advance (with_repeat u (u.recall_repeat && d.first_byte)) (with_latch d (recalled d u.recall_repeat b)) false low _ s (with_step_lem h v h.phase h.tail) e never v
    sound_by_type Swap et = sound_by_phase d.swap_phase et
    sound_by_type Verify et =
        sound_advance u d (differs b) low Nothing s h e (λ _. ap (λ (t : TransferType). is_type t Verify) et) tt

  sound_running : (cycle : ℕ) (low : Bool) → SoundTick (tick_running u d b cycle low)
  unfolding tick_running tick_refresh tick_tail
  sound_running cycle low =
      by_test SoundTick u.swap_refresh _ _ (λ _. tick (with_dma_lem s h) see.0)
      (λ _. by_test SoundTick d.verify_tail _ _ (λ _. sound_ends u neither d false (not (differs b)) Nothing s tt)
      (λ e. sound_by_type e cycle low d.transfer_type refl))

sound_of_dma : (x : Option DmaState) (u : Reu) (b : Seen) (cycle : ℕ) (low : Bool) → Sound u → SoundDma u.attached x → FitsSeen b → SoundTick (tick_of x u b cycle low)
unfolding tick_of
sound_of_dma None u b cycle low s h see = tick s tt
sound_of_dma (Some d) u b cycle low s h see =
    by_test SoundTick u.attached _ _ (λ _. sound_running u d b s h see cycle low) (λ _. tick (with_dma_lem s tt) tt)

-- ---- on a bus and a storage

-- what may be known of a memory: that it holds bytes, and what a stored byte and clearing keep besides
pub record Memory (P : List ℕ → Type 0) : Type 0 where
  pub bytes : (l : List ℕ) → P l → Bytes l
  pub stored : (l : List ℕ) (i v : ℕ) → v < 256 → P l → P (set l i v)
  pub cleared : (l : List ℕ) → P l → P (zeros l)

zero_bytes : (n j : ℕ) → get_or (replicate n 0) j 0 < 256
zero_bytes zero j = omega arith
zero_bytes (suc n) zero = omega arith
zero_bytes (suc n) (suc j) = zero_bytes n j

pub bytes_memory : Memory Bytes
unfolding zeros
bytes_memory =
    record {
      bytes = λ l h. h;
      stored = λ l i v hv h. record { below = set_each (λ j x. x < 256) l i v h.below hv };
      cleared = λ l h. record { below = zero_bytes (length l) };
    }

pub record SoundState (P Q : List ℕ → Type 0) (u : Reu) (m s : List ℕ) : Type 0 where
  pub sound : Sound u
  pub bus : P m
  pub storage : Q s

-- one more granted cycle still fits
sound_counted : (u : Reu) → Sound u → Sound (counted u)
unfolding counted
sound_counted u s =
    let n = u.granted_cycles + 1 in
    with_granted_lem s (by_test (λ (g : ℕ). g < 4294967296) (leb n most_granted) n most_granted (λ e. omega (arith, leb-true n most_granted e)) (λ _. omega arith))

module _ (P Q : List ℕ → Type 0) (p : Memory P) (q : Memory Q) where
  put_bus_lem : (put : Put) (m : List ℕ) → FitsPut put → P m → P (put_bus put m)
  put_bus_lem Nothing m h b = b
  put_bus_lem (Bus a v) m h b = p.stored m _ v h b
  put_bus_lem (Storage a v) m h b = b

  put_storage_lem : (size : ℕ) (put : Put) (s : List ℕ) → FitsPut put → Q s → Q (put_storage size put s)
  put_storage_lem size Nothing s h b = b
  put_storage_lem size (Bus a v) s h b = b
  put_storage_lem size (Storage a v) s h b = q.stored s _ v h b

  seen_fits : (size : ℕ) (x : Option DmaState) (m s : List ℕ) → P m → Q s → FitsSeen (seen_by size x m s)
  seen_fits size None m s bm bs = omega arith
  seen_fits size (Some d) m s bm bs = ((p.bytes m bm).below _, (q.bytes s bs).below _)

  module _ (u : Reu) (m s : List ℕ) (h : SoundState P Q u m s) where
    pub sound_enabled : (e : Bool) → SoundState P Q (set_enabled u s e).0 m (set_enabled u s e).1
    unfolding set_enabled
    sound_enabled true =
        record {
          sound = sound_switch u s true h.sound;
          bus = h.bus;
          storage = by_test Q u.attached s (zeros s) (λ _. h.storage) (λ _. q.cleared s h.storage);
        }
    sound_enabled false = record { sound = sound_switch u s false h.sound; bus = h.bus; storage = h.storage }

    pub sound_grant : (high phi1 : Bool) (cycle : ℕ) → SoundState P Q (bus_action u s high phi1 cycle).0.reu m (bus_action u s high phi1 cycle).1
    unfolding bus_action
    sound_grant high phi1 cycle =
        let g = sound_next u high phi1 cycle h.sound in
        record { sound = g.sound; bus = h.bus; storage = put_storage_lem u.size (next_action u high phi1 cycle).put s g.put h.storage }

    pub sound_tick_dma : (cycle : ℕ) (low : Bool)
        → SoundState P Q (tick_dma u m s cycle low).0.reu (tick_dma u m s cycle low).1 (tick_dma u m s cycle low).2
    unfolding tick_dma
    sound_tick_dma cycle low =
        let b = seen_by u.size u.dma m s in
        let t = tick_of u.dma u b cycle low in
        let g = sound_of_dma u.dma u b cycle low h.sound h.sound.dma (seen_fits u.size u.dma m s h.bus h.storage) in
        record { sound = g.sound; bus = put_bus_lem t.put m g.put h.bus; storage = put_storage_lem u.size t.put s g.put h.storage }

  cycle_by_lem : (a : ReuBusAction) (u : Reu) (m s : List ℕ) (cycle : ℕ) (low : Bool) → SoundState P Q u m s
      → SoundState P Q (cycle_by a u m s cycle low).0.reu (cycle_by a u m s cycle low).1 (cycle_by a u m s cycle low).2
  unfolding cycle_by
  cycle_by_lem Cpu u m s cycle low h = h
  cycle_by_lem Hold u m s cycle low h = h
  cycle_by_lem Transfer u m s cycle low h =
      let t = sound_tick_dma u m s h cycle low in
      record { sound = sound_counted (tick_dma u m s cycle low).0.reu t.sound; bus = t.bus; storage = t.storage }

  pub sound_cycle : (u : Reu) (m s : List ℕ) → SoundState P Q u m s → (high phi1 : Bool) (cycle : ℕ) (low : Bool)
      → SoundState P Q (run_reu_cycle u m s high phi1 cycle low).0.reu (run_reu_cycle u m s high phi1 cycle low).1 (run_reu_cycle u m s high phi1 cycle low).2
  unfolding run_reu_cycle
  sound_cycle u m s h high phi1 cycle low =
      cycle_by_lem (bus_action u s high phi1 cycle).0.action _ m _ cycle low (sound_grant u m s h high phi1 cycle)
