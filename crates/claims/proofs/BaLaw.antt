-- What one cycle does to a swap, whatever BA is and was, in each way that the swap can stand.
use Prim.Native.Nat.{ℕ, ◌+◌, ◌-◌, ◌%◌, ◌^◌}
use mathlib.Core.Bool.{Bool, true, false, not, cond, beq as bool_eq}
use mathlib.Core.Path.{◌≡◌, refl, sym, ap, subst}
use mathlib.Core.Logic.{◌≢◌}
use mathlib.Core.List.{List}
use lib.ListN.{length, get_or, set}
use lib.Bits.{bit_and, bit_or}
use lib.Dec.{eqb}
use native.Mathlib.Decide.{ℕ_discrete}
use borrow.Author.Tests.{ne_eqb, eqb-true}
use Rattle.std.specs.Prelude.{Some, None}
use Rattle.transfer.specs.declared.dma.SwapPhase.{SwapPhase}
use Rattle.transfer.specs.declared.dma.SwapPhase.TheVariants.{ReadC64, WriteC64}
use Rattle.transfer.specs.declared.timing.ReuBusAction.{ReuBusAction}
use Rattle.transfer.specs.Bytes.{bit}
use Rattle.transfer.specs.Dma.{neither}
use Rattle.transfer.specs.Memory.{lines, put_storage}
use Rattle.transfer.specs.Timing.{restored}
use Rattle.controller.specs.declared.reu.Reu.{Reu}
use Rattle.controller.specs.Reu.{reg, with_history}
use Rattle.controller.specs.BusAction.{decide, repeated, resumed}
use Rattle.controller.specs.TickDma.{Ticked, ticked}
use Rattle.controller.specs.Cycle.{run_reu_cycle, cycle_by}
use Rattle.claims.proofs.CycleLaw.{cycle_computed, swap_state, form, Stands, form_stands, stands_is, ReadStep, LastStep, Quiet, read_step, write_step, last_step, last_tick}

-- what a cycle leaves: the bus m, the storage s, COMMAND v as it was, and the swap standing so
pub record After (v : ℕ) (phi1 : Bool) (m s : List ℕ) (p : SwapPhase) (t f : Bool) (d c e r l : ℕ) (z : Ticked) : Type 0 where
  pub bus : z.1 ≡ m
  pub storage : z.2 ≡ s
  pub history : z.0.reu.ba_was_high ≡ phi1
  pub command : reg z.0.reu 1 ≡ v
  pub stands : Stands z.0.reu p t f d c e r l

-- the command has ended
pub record Ends (v : ℕ) (m s : List ℕ) (z : Ticked) : Type 0 where
  pub bus : z.1 ≡ m
  pub storage : z.2 ≡ s
  pub command : reg z.0.reu 1 ≡ bit_or (bit_and v 127) 16
  pub quiet : Quiet z.0.reu

-- a cycle that changes flags, the delay, the count and the transfer
stood : {flag was repeat t late f : Bool} {delay count : ℕ} (u : Reu) (p : SwapPhase) (c e r l : ℕ) (auto one odd : Bool) (m s : List ℕ)
    → After (reg u 1) was m s p t f delay c e r l (
      ticked flag neither None
          (record u {
            attached = true;
            ba_was_high = was;
            recall_repeat = repeat;
            terminal_swap_write = t;
            late_ba_fall = late;
            swap_refresh = f;
            swap_read_delay = delay;
            dma = Some (swap_state p c e r l auto one odd);
            granted_cycles = count;
          }),
      m,
      s,
    )
stood u p c e r l auto one odd m s =
    record {
      bus = refl;
      storage = refl;
      history = refl;
      command = refl;
      stands = record { terminal = refl; refresh = refl; delay = refl; attached = refl; auto = auto; one = one; odd = odd; transfer = refl };
    }

-- with BA high the read, and the write of the last byte
of_read : (u : Reu) (c e r : ℕ) (m s : List ℕ) (z : Ticked) (a : ReuBusAction) → ReadStep u c e r m s z a
    → After (reg u 1) true m (set s (e % 2 ^ lines u.size) (get_or m c 0)) WriteC64 false false 0 c e r (get_or s (e % 2 ^ lines u.size) 0) z
of_read u c e r m s z a h =
    record { bus = h.bus; storage = h.storage; history = h.phase.high; command = ap (λ (l : List ℕ). get_or l 1 0) h.regs; stands = h.phase.stands }

of_last : (u : Reu) (c l : ℕ) (m s : List ℕ) (z : Ticked) (a : ReuBusAction) → LastStep u c l m s z a → Ends (reg u 1) (set m c l) s z
of_last u c l m s z a h = record { bus = h.bus; storage = h.storage; command = h.command; quiet = h.quiet }

module _ (u : Reu) (c e r : ℕ) (m s : List ℕ) (high : Bool) (n : ℕ) (low : Bool) where
  -- the place in the storage, what stands there, and the storage with the bus's byte there
  abbrev at : ℕ
  at = e % 2 ^ lines u.size

  abbrev there : ℕ
  there = get_or s at 0

  abbrev stored : List ℕ
  stored = set s at (get_or m c 0)

  abbrev cycled : Reu → Bool → Ticked
  cycled v phi1 = run_reu_cycle v m s high phi1 n low

  -- ---- before a read

  pub data Reads (was phi1 : Bool) (l : ℕ) (z : Ticked) : Type 0 where
    reads : phi1 ≡ true → After (reg u 1) phi1 m stored WriteC64 false false 0 c e r there z → Reads was phi1 l z
    waits : phi1 ≡ false → After (reg u 1) phi1 m s ReadC64 false false 0 c e r l z → Reads was phi1 l z
    delays : was ≡ true → phi1 ≡ false → After (reg u 1) phi1 m s ReadC64 false false 2 c e r l z → Reads was phi1 l z
    pairs : was ≡ true → phi1 ≡ false → r ≡ 1 → After (reg u 1) phi1 m stored WriteC64 true false 0 c e r there z → Reads was phi1 l z

  -- BA low: it waits; and where it falls the first byte waits, the last is read, and any other is delayed
  read_low : (l : ℕ) (auto one odd late was : Bool) → Reads was false l (cycled (form u ReadC64 false false 0 c e r l auto one odd was late) false)
  unfolding cycle_computed
  read_low l auto one odd late false = waits refl (stood u ReadC64 c e r l auto one odd m s)
  read_low l auto true odd late true = waits refl (stood u ReadC64 c e r l auto true odd m s)
  read_low l auto false odd late true = go (eqb r 1) refl
    where
      go : (b : Bool) → eqb r 1 ≡ b → Reads true false l (cycled (form u ReadC64 false false 0 c e r l auto false odd true late) false)
      go true q = rw q (pairs refl refl (eqb-true r 1 q) (stood u WriteC64 c e r there auto false (bit n 0) m stored))
      go false q = rw q (delays refl refl (stood u ReadC64 c e r l auto false odd m s))

  pub before_read : (l : ℕ) (was phi1 : Bool) → u.ba_was_high ≡ was → Stands u ReadC64 false false 0 c e r l → Reads was phi1 l (cycled u phi1)
  before_read l was true q h = reads refl (of_read u c e r m s _ _ (read_step u c e r (record { latch = l; stands = h }) m s high n low))
  before_read l was false q h =
      subst (λ (v : Reu). Reads was false l (cycled v false)) (sym (stands_is h was q)) (read_low l h.auto h.one h.odd u.late_ba_fall was)

  -- the delay that a fall sets runs down whatever BA is
  delay_two : (l : ℕ) (auto one odd late was phi1 : Bool)
      → After (reg u 1) phi1 m s ReadC64 false false 1 c e r l (cycled (form u ReadC64 false false 2 c e r l auto one odd was late) phi1)
  unfolding cycle_computed
  delay_two l auto one odd late true true = stood u ReadC64 c e r l auto one odd m s
  delay_two l auto one odd late true false = stood u ReadC64 c e r l auto one odd m s
  delay_two l auto one odd late false true = stood u ReadC64 c e r l auto one odd m s
  delay_two l auto one odd late false false = stood u ReadC64 c e r l auto one odd m s

  delay_one : (l : ℕ) (auto one odd late was phi1 : Bool)
      → After (reg u 1) phi1 m stored WriteC64 false false 0 c e r there (cycled (form u ReadC64 false false 1 c e r l auto one odd was late) phi1)
  unfolding cycle_computed
  delay_one l auto one odd late true true = stood u WriteC64 c e r there auto one (bit n 0) m stored
  delay_one l auto one odd late true false = stood u WriteC64 c e r there auto one (bit n 0) m stored
  delay_one l auto one odd late false true = stood u WriteC64 c e r there auto one (bit n 0) m stored
  delay_one l auto one odd late false false = stood u WriteC64 c e r there auto one (bit n 0) m stored

  pub delayed_two : (l : ℕ) (phi1 : Bool) → Stands u ReadC64 false false 2 c e r l → After (reg u 1) phi1 m s ReadC64 false false 1 c e r l (cycled u phi1)
  delayed_two l phi1 h =
      subst (λ (v : Reu). After (reg u 1) phi1 m s ReadC64 false false 1 c e r l (cycled v phi1)) (sym (stands_is h u.ba_was_high refl))
      (delay_two l h.auto h.one h.odd u.late_ba_fall u.ba_was_high phi1)

  pub delayed_one : (l : ℕ) (phi1 : Bool) → Stands u ReadC64 false false 1 c e r l → After (reg u 1) phi1 m stored WriteC64 false false 0 c e r there (cycled u phi1)
  delayed_one l phi1 h =
      subst (λ (v : Reu). After (reg u 1) phi1 m stored WriteC64 false false 0 c e r there (cycled v phi1)) (sym (stands_is h u.ba_was_high refl))
      (delay_one l h.auto h.one h.odd u.late_ba_fall u.ba_was_high phi1)

  -- ---- before a write

  pub data Writes (was phi1 : Bool) (l : ℕ) (z : Ticked) : Type 0 where
    writes :
        (k : ℕ) → phi1 ≡ true → r ≢ 1 → After (reg u 1) phi1 (set m c l) s ReadC64 false false 0 ((c + 1) % 65536) ((e + 1) % 16777216) (r - 1) k z
        → Writes was phi1 l z
    finishes : phi1 ≡ true → r ≡ 1 → Ends (reg u 1) (set m c l) s z → Writes was phi1 l z
    again :
        was ≡ false → phi1 ≡ true
        → After (reg u 1) phi1 m (set (set s at l) at (get_or m c 0)) WriteC64 false false 0 c e r (get_or (set s at l) at 0) z → Writes was phi1 l z
    stays : phi1 ≡ false → After (reg u 1) phi1 m s WriteC64 false false 0 c e r l z → Writes was phi1 l z
    refreshes : was ≡ true → phi1 ≡ false → After (reg u 1) phi1 m s WriteC64 false true 1 c e r l z → Writes was phi1 l z
    gives_up : phi1 ≡ false → After (reg u 1) phi1 m (set s at l) ReadC64 false false 0 c e r l z → Writes was phi1 l z

  -- BA low: it waits; and where it falls late the read is to be made once more, and else the write is given up
  write_low : (l : ℕ) (auto one odd late was : Bool) → Writes was false l (cycled (form u WriteC64 false false 0 c e r l auto one odd was late) false)
  unfolding cycle_computed
  write_low l auto one odd late false = stays refl (stood u WriteC64 c e r l auto one odd m s)
  write_low l auto one odd true true = refreshes refl refl (stood u WriteC64 c e r l auto one odd m s)
  write_low l auto one odd false true = gives_up refl (stood u ReadC64 c e r l auto one odd m (set s at l))

  -- BA rises: by parity the read comes once more, from the storage as it was, or the write, each as if BA had been high
  rise : (P : Ticked → Type 0) (l : ℕ) (auto one odd late : Bool)
      → P (run_reu_cycle (form u ReadC64 false false 0 c e r l auto one odd true late) m (set s at l) high true n low)
      → P (cycled (form u WriteC64 false false 0 c e r l auto one odd true late) true)
      → P (cycled (form u WriteC64 false false 0 c e r l auto one odd false late) true)
  unfolding cycle_computed
  rise P l auto one odd late a w = go (bool_eq odd (bit n 0))
    where
      by_parity : Bool → Ticked
      by_parity b =
          let now = with_history (form u WriteC64 false false 0 c e r l auto one odd false late) true (not high) in
          let g = decide (repeated (resumed now b) false) true false late in
          cycle_by g.action g.reu m (put_storage u.size (cond b (restored (Some (swap_state WriteC64 c e r l auto one odd))) g.put) s) n low

      go : (b : Bool) → P (by_parity b)
      go true = a
      go false = w

  module _ (len : length u.regs ≡ 11) where
    -- as if BA had been high
    write_now : (l : ℕ) (auto one odd late was : Bool) → Writes was true l (cycled (form u WriteC64 false false 0 c e r l auto one odd true late) true)
    write_now l auto one odd late was = go (ℕ_discrete r 1)
      where
        v : Reu
        v = form u WriteC64 false false 0 c e r l auto one odd true late

        stands : Stands v WriteC64 false false 0 c e r l
        stands = form_stands u WriteC64 false false 0 c e r l auto one odd true late

        go : Dec (r ≡ 1) → Writes was true l (cycled v true)
        go (yes q) =
            let last = subst (λ (k : ℕ). Stands v WriteC64 false false 0 c e k l) q stands in
            finishes refl q (of_last v c l m s _ _ (last_step v c e l (record { high = refl; stands = last }) len m s high n low))
        go (no q) =
            let h = write_step v c e r l (record { high = refl; stands = stands }) (ne_eqb r 1 q) m s high n low in
            writes h.phase.latch refl q
            (record { bus = h.bus; storage = h.storage; history = h.history; command = h.command; stands = h.phase.stands })

    write_high : (l : ℕ) (auto one odd late was : Bool) → Writes was true l (cycled (form u WriteC64 false false 0 c e r l auto one odd was late) true)
    write_high l auto one odd late true = write_now l auto one odd late true
    write_high l auto one odd late false = rise (Writes false true l) l auto one odd late read_again (write_now l auto one odd late false)
      where
        v : Reu
        v = form u ReadC64 false false 0 c e r l auto one odd true late

        read_again : Writes false true l (run_reu_cycle v m (set s at l) high true n low)
        read_again =
            let h = form_stands u ReadC64 false false 0 c e r l auto one odd true late in
            again refl refl (of_read v c e r m (set s at l) _ _ (read_step v c e r (record { latch = l; stands = h }) m (set s at l) high n low))

    pub before_write : (l : ℕ) (was phi1 : Bool) → u.ba_was_high ≡ was → Stands u WriteC64 false false 0 c e r l → Writes was phi1 l (cycled u phi1)
    before_write l was true q h =
        subst (λ (v : Reu). Writes was true l (cycled v true)) (sym (stands_is h was q)) (write_high l h.auto h.one h.odd u.late_ba_fall was)
    before_write l was false q h =
        subst (λ (v : Reu). Writes was false l (cycled v false)) (sym (stands_is h was q)) (write_low l h.auto h.one h.odd u.late_ba_fall was)

    -- the second call of the terminal pair, BA still low
    pair_low : (l : ℕ) (auto one odd late : Bool) → Ends (reg u 1) (set m c l) s (cycled (form u WriteC64 true false 0 c e 1 l auto one odd false late) false)
    unfolding cycle_computed
    pair_low l auto one odd late = of_last u c l m s _ _ (last_tick u c e l auto one odd false false m s n low len)

    pub in_pair : (l : ℕ) → r ≡ 1 → u.ba_was_high ≡ false → Stands u WriteC64 true false 0 c e r l → Ends (reg u 1) (set m c l) s (cycled u false)
    in_pair l last q h =
        subst (λ (v : Reu). Ends (reg u 1) (set m c l) s (cycled v false)) (sym (stands_is h false q))
        (subst (λ (x : ℕ). Ends (reg u 1) (set m c l) s (cycled (form u WriteC64 true false 0 c e x l h.auto h.one h.odd false u.late_ba_fall) false)) (sym last)
        (pair_low l h.auto h.one h.odd u.late_ba_fall))

  -- the refresh, BA still low: the storage takes the bus's byte once more, and the latch stays
  refresh_low : (l : ℕ) (auto one odd late : Bool)
      → After (reg u 1) false m stored WriteC64 false false 0 c e r l (cycled (form u WriteC64 false true 1 c e r l auto one odd false late) false)
  unfolding cycle_computed
  refresh_low l auto one odd late = stood u WriteC64 c e r l auto one (bit n 0) m stored

  pub refreshed : (l : ℕ) → u.ba_was_high ≡ false → Stands u WriteC64 false true 1 c e r l
      → After (reg u 1) false m stored WriteC64 false false 0 c e r l (cycled u false)
  refreshed l q h =
      subst (λ (v : Reu). After (reg u 1) false m stored WriteC64 false false 0 c e r l (cycled v false)) (sym (stands_is h false q))
      (refresh_low l h.auto h.one h.odd u.late_ba_fall)
