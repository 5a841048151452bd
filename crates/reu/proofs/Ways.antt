-- The short ways of a cycle are the cycle: what they leave of an image, of bus and storage, and what they answer.
use mathlib.Core.Path.{◌≡◌, refl, sym, ap, ◌∙◌, subst}
use mathlib.Core.Bool.{Bool, true, false, not, ◌&&◌}
use mathlib.Core.List.{List}
use Prim.Native.Nat.{ℕ, ◌+◌, ◌<◌, min}
use native.Mathlib.Nat.{min-eq_left, min-eq_right, le_of_lt}
use Rattle.std.proofs.lemmas.Bool.{leb-false}
use native.Mathlib.Omega.{arith}
use lib.ListN.{length}
use lib.Dec.{eqb, leb}
use Rattle.std.specs.Prelude.{None}
use Rattle.transfer.specs.Dma.{moved, passed, neither, latched, with_latch, is_type}
use Rattle.transfer.specs.Memory.{seen_at, bus_byte, storage_byte, set_storage}
use Rattle.transfer.specs.declared.dma.DmaState.{DmaState}
use Rattle.transfer.specs.declared.dma.TransferType.{TransferType}
use Rattle.transfer.specs.declared.dma.TransferType.TheVariants.{Store, Recall, Swap, Verify}
use Rattle.transfer.specs.declared.dma.SwapPhase.{SwapPhase}
use Rattle.transfer.specs.declared.dma.SwapPhase.TheVariants.{ReadC64, WriteC64}
use Rattle.controller.specs.declared.reu.Reu.{Reu}
use Rattle.controller.specs.Calls.{cycle_call, step_number}
use Rattle.controller.specs.Cycle.{capped, counted, run_reu_cycle}
use Rattle.controller.specs.FinishDma.{publish_live_counters}
use Rattle.controller.specs.TickDma.{ticked}
use Rattle.transfer.proofs.Pick.{by_test}
use Rattle.transfer.specs.Constants.{expansion_limit}
use Rattle.transfer.specs.Memory.{next_exp}
use Rattle.transfer.specs.declared.memory.ExpansionAddress.{ExpansionAddress}
use Rattle.transfer.specs.declared.dma.Passed.{Passed}
use Rattle.regs.specs.FinishDma.{counters}
use Rattle.image.specs.InPlace.{Resting, Moving, transfer_at}
use Rattle.image.specs.Inner.{fitted, stored}
use Rattle.image.proofs.Unpacked.{opened_well}
use Rattle.controller.proofs.Rest.{rest_step}
use Rattle.controller.proofs.WellFormed.{well_range}
use Rattle.controller.specs.Inner.{InRange, InRangeDma}
use Rattle.controller.specs.Prelude.{bool_eq}
use borrow.Author.Tests.{leb-true}
use Rattle.image.specs.Layout.{granted_field, image_size, reu_at}
use Rattle.image.specs.Valid.{Bytes}
use Rattle.reu.specs.Exports.{change_both}
use Rattle.reu.specs.Direct.{Advances, Holds, remembered_in, transfer_in, half_in, typed_in}
use Rattle.reu.proofs.CycleLaws.{went_on, hold_step, store_step, recall_step, swap_read_step, swap_write_step, verify_step}
use Rattle.reu.proofs.InPlace.{settled, history_laid, half_laid, byte_laid}

-- three bytes hold the expansion address
abbrev Room : DmaState → Type 0
Room d = d.reu_addr.0 < expansion_limit

-- such a transfer is as its fields hold it
fits : (d : DmaState) → Room d → fitted d ≡ d
fits d h = ap (λ (n : ℕ). record d { reu_addr = record { 0 = n } }) (omega (arith, h))

-- one that moves stays so
moved_room : (d : DmaState) → Room d → Room (moved d)
moved_room d h =
    by_test (λ (a : ExpansionAddress). a.0 < expansion_limit) d.fix_reu d.reu_addr (next_exp d.reu_addr) (λ _. h) (λ _. omega arith)

-- BA's level is what it was
pub same_level : (a b : Bool) → not (bool_eq a b) ≡ false → a ≡ b
same_level true true h = refl
same_level true false h = h
same_level false true h = sym h
same_level false false h = refl

-- a verify that goes on has found its byte
pub agrees : (k : TransferType) (t : Bool) → is_type k Verify && not t ≡ false → k ≡ Verify → t ≡ true
agrees k true h e = refl
agrees k false h e = sym (ap (λ (x : TransferType). is_type x Verify && true) (sym e) ∙ h)

-- the count is held at its most
pub held_count : (n : ℕ) → min n 4294967295 ≡ capped n
held_count n =
    by_test (λ (x : ℕ). min n 4294967295 ≡ x) (leb n 4294967295) n 4294967295 (λ e. min-eq_left (leb-true n 4294967295 e))
    (λ e. min-eq_right (le_of_lt (leb-false n 4294967295 e)))

module _ (i : List ℕ) (whole : Bytes i) (long : length i ≡ image_size) (m s : List ℕ) (high : Bool) (n : ℕ) (low : Bool) where
  abbrev u : Reu
  u = reu_at i

  -- the call with this level of BA at PHI1
  abbrev pub called : Bool → (ℕ × List ℕ × List ℕ × List ℕ)
  called phi1 = change_both (λ v b t. cycle_call v b t high phi1 n low) i m s

  -- an image that rests
  pub rest_way : (phi1 : Bool) → Resting i (length m) (length s) → (0, remembered_in i high phi1, m, s) ≡ called phi1
  rest_way phi1 r =
      ap (λ (l : List ℕ). (0, l, m, s)) (history_laid i whole long r.lent.ok phi1 (phi1 && not high))
      ∙ settled i whole long m s r.lent high phi1 n low false neither None _ m s (rest_step u m s high n low phi1 r.rests)

  module _ (r : Moving i (length m) (length s)) where
    abbrev d : DmaState
    d = transfer_at i

    room : Room d
    room = in_range (subst InRangeDma r.moves.runs (well_range u (opened_well i whole long r.lent.ok)))
      where
        in_range : InRange d → Room d
        in_range k = k.addr

    held : u.ba_was_high ≡ false → (1, remembered_in i high false, m, s) ≡ called false
    held q =
        ap (λ (l : List ℕ). (1, l, m, s)) (history_laid i whole long r.lent.ok false false)
        ∙ settled i whole long m s r.lent high false n low true neither None _ m s (hold_step u m s high n low d r.moves q)

    -- the image with BA's history and one more granted cycle
    abbrev pub granted_in : List ℕ
    granted_in = stored granted_field (remembered_in i high true) (capped (u.granted_cycles + 1))

    module _ (q : u.ba_was_high ≡ true) where
      -- a swap's read half
      read_way : d.transfer_type ≡ Swap → d.swap_phase ≡ ReadC64 → half_in ReadC64 u.size d granted_in m s n ≡ called true
      unfolding counted
      read_way k p =
          let e : DmaState = latched d (seen_at u.size d.c64_addr d.reu_addr m s) n in
          let t : List ℕ = set_storage u.size s d.reu_addr (bus_byte m d.c64_addr) in
          ap (λ (l : List ℕ). (1, l, m, t)) (half_laid i whole long r.lent.ok true (not high) (capped (u.granted_cycles + 1)) d e r.moves.runs (fits e room))
          ∙ settled i whole long m s r.lent high true n low true neither None _ m t (swap_read_step u m s high n low d r.moves q k p)

      -- a byte is completed, and the command goes on as e
      onward : (e : DmaState) → Room e → (p : Passed) (b t : List ℕ) → run_reu_cycle u m s high true n low ≡ (ticked true p None (went_on u e high), b, t)
          → (step_number true p, transfer_in (counters granted_in e.c64_addr.0 e.reu_addr.0 e.remaining) e, b, t) ≡ called true
      unfolding counted publish_live_counters
      onward e k p b t h =
          ap (λ (l : List ℕ). (step_number true p, l, b, t))
          (byte_laid i whole long r.lent.ok true (not high) (capped (u.granted_cycles + 1)) e.c64_addr.0 e.reu_addr.0 e.remaining d e r.moves.runs (fits e k))
          ∙ settled i whole long m s r.lent high true n low true p None _ b t h

      module _ (more : eqb d.remaining 1 ≡ false) where
        swap_way : (p : SwapPhase) → d.transfer_type ≡ Swap → d.swap_phase ≡ p → half_in p u.size d granted_in m s n ≡ called true
        swap_way ReadC64 k p = read_way k p
        swap_way WriteC64 k p = onward (moved d) (moved_room d room) (passed d) _ _ (swap_write_step u m s high n low d r.moves q more k p)

        typed_way : (k : TransferType) → d.transfer_type ≡ k → (k ≡ Verify → eqb (bus_byte m d.c64_addr) (storage_byte u.size s d.reu_addr) ≡ true)
            → typed_in k u.size d granted_in m s n ≡ called true
        typed_way Store k v = onward (moved d) (moved_room d room) (passed d) _ _ (store_step u m s high n low d r.moves q more k)
        typed_way Recall k v =
            let e : DmaState = with_latch d (storage_byte u.size s d.reu_addr) in
            onward (moved e) (moved_room e room) (passed d) _ _ (recall_step u m s high n low d r.moves q more k)
        typed_way Swap k v = swap_way d.swap_phase k refl
        typed_way Verify k v = onward (moved d) (moved_room d room) (passed d) _ _ (verify_step u m s high n low d r.moves q more k (v refl))

  -- the processor is held
  pub hold_way : (phi1 : Bool) → Holds i m s phi1 → (1, remembered_in i high false, m, s) ≡ called phi1
  hold_way phi1 h = held h.moving h.was ∙ ap called (sym h.low)

  -- a byte is done, or one half of a swap's exchange
  pub byte_way : (phi1 : Bool) → (h : Advances i m s phi1) → typed_in (transfer_at i).transfer_type u.size (transfer_at i) (granted_in h.moving) m s n ≡ called phi1
  byte_way phi1 h = typed_way h.moving h.was h.more (transfer_at i).transfer_type refl h.equal ∙ ap called (sym h.high)
