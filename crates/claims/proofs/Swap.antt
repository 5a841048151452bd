-- A swap with BA high: how far it is after k granted cycles, and what is exchanged by then.
use Prim.Native.Nat.{ℕ, suc, ◌+◌, ◌-◌, ◌*◌, ◌/◌, ◌%◌, ◌<◌, ◌≤◌}
use native.Mathlib.Nat.{zero-add}
use mathlib.Core.Bool.{Bool, true, false, not}
use mathlib.Core.Path.{◌≡◌, refl, sym, ap, ◌∙◌, subst, subst₂, subst₃, fun_ext}
use mathlib.Core.Logic.{◌≢◌}
use mathlib.Core.List.{List}
use lib.ListN.{length, get_or}
use lib.Bits.{bit_and, bit_or, or_lt, and_le_r}
use lib.Dec.{eqb}
use native.Mathlib.Omega.{arith}
use native.Mathlib.Decide.{ℕ_discrete}
use borrow.Author.Tests.{ne_eqb}
use Rattle.controller.specs.declared.reu.Reu.{Reu}
use Rattle.std.specs.Prelude.{None}
use Rattle.transfer.specs.declared.timing.ReuBusAction.{ReuBusAction}
use Rattle.transfer.specs.declared.timing.ReuBusAction.TheVariants.{Cpu, Transfer}
use Rattle.transfer.specs.declared.dma.SwapPhase.TheVariants.{ReadC64}
use Rattle.transfer.specs.Bytes.{word, bit_of, long}
use Rattle.transfer.proofs.Bits.{bit_one}
use Rattle.controller.specs.Reu.{reg, with_dma}
use Rattle.controller.specs.Registers.{read_register, write_register}
use Rattle.transfer.specs.Dma.{length_of}
use Rattle.transfer.specs.Memory.{lines}
use Rattle.transfer.proofs.Sizes.{Lines, size_lines}
use Rattle.controller.specs.BusAction.{bus_action as core_bus_action}
use Rattle.controller.specs.TickDma.{Ticked}
use Rattle.controller.specs.Cycle.{run_reu_cycle}
use Rattle.transfer.specs.Timing.{action_number}
use Rattle.reu.specs.Exports.{flag}
use Rattle.claims.specs.Calls.{Held, Kind, bus_action, write, cycle, other, NumbersFit, grant_of, Call}
use Rattle.claims.specs.SwapTwice.{Step, cycles, reads, writes, register, writes_to, High, OfBlock, SwapsAtOnce, swaps, Ended, OnceEnded}
use Rattle.image.proofs.Sound.{Sound}
use Rattle.image.proofs.SoundCalls.{length_range}
use Rattle.claims.proofs.CycleLaw.{Stands, Reading, Writing, Quiet, Kept, ReadStep, WriteStep, LastStep, IdleStep, read_step, write_step, last_step, idle_step, quiet_step_lem}
use Rattle.claims.proofs.RegisterLaw.{Begun, start_law, Rewritten, rewritten_none, rewritten_keep, Value, rewrite_law, read_law, read_stays_quiet}
use Rattle.claims.proofs.Exchange.{exch_zero}
use Rattle.claims.proofs.Places.{next_bus, next_storage, Block, bus_at, storage_at, exp_at, latched, Clean, Half, folds, folds_to, clean_latch, clean_read, half_write}
use Rattle.claims.proofs.States.{St, held, on, step_of, number_of, Steady, keeps_size, Ready}
use Rattle.claims.proofs.Accepted.{without_bus, answer_is}
use Rattle.claims.proofs.Look.{ended_reg, reg_ended, Idling}

pub command_ends : (v : ℕ) → bit_or (bit_and v 127) 16 / 128 % 2 ≡ 0
command_ends v =
    let a : bit_and v 127 ≤ 127 = and_le_r v 127 in
    let b : bit_or (bit_and v 127) 16 < 128 = or_lt 7 (bit_and v 127) 16 (omega arith) (omega arith) in
    omega arith

flag_high : (h : ℕ) → h ≢ 0 → flag h ≡ true
flag_high h ne = ap not (ne_eqb h 0 ne)

-- a cycle with BA high on an idle controller
pub idle_high : (x : St) (h n l p : ℕ) → High (cycle h n l p) → x.u.dma ≡ None
    → IdleStep x.u x.m x.s (run_reu_cycle x.u x.m x.s (flag h) (flag p) n (flag l))
idle_high x h n l p hi e =
    subst₂ (λ (b q : Bool). IdleStep x.u x.m x.s (run_reu_cycle x.u x.m x.s b q n (flag l))) (sym (flag_high h hi.0)) (sym (flag_high p hi.1))
    (idle_step x.u e x.m x.s n (flag l))

-- whether an accepted cycle is granted is what its action says
pub granted_bit : (x : St) → Sound x.u → (h i l p : ℕ) → number_of (cycle h i l p) x ≡ 0
    → bit_of (eqb (grant_of (cycle h i l p) (held x)) 2) ≡ bit_of (eqb (action_number (core_bus_action x.u x.s (flag h) (flag p) i).0.action) 2)
granted_bit x sound h i l p z =
    ap (λ (n : ℕ). bit_of (eqb n 2))
    (answer_is x sound (other (bus_action h p i)) (without_bus x.u (length x.m) (length x.s) z))

abbrev pub after_tick : Ticked → St
after_tick t = record { u = t.0.reu; m = t.1; s = t.2 }

kept_of : (u w : Reu) → u.dma ≡ None → Kept (with_dma u None) w → Kept u w
kept_of u w e k =
    record { regs = k.regs; c64 = k.c64; exp = k.exp; len = k.len; attached = k.attached; dma = k.dma ∙ sym e }

-- ---- progress

-- a write that may come between the swaps: of one of the seven registers, with its value
abbrev pub Allowed : (ℕ → ℕ) → ℕ → ℕ → Type 0
Allowed W a v = OfBlock (register a) × Value W (register a) v

-- the counters of a byte that is done are the next one's
pub next_byte : (b : Block) (j : ℕ) {u : Reu} {l : ℕ}
    → Stands u ReadC64 false false 0 ((bus_at b j + 1) % 65536) ((exp_at b j + 1) % 16777216) (b.n - j - 1) l
    → Stands u ReadC64 false false 0 (bus_at b (suc j)) (exp_at b (suc j)) (b.n - suc j) l
next_byte b j {u} {l} h =
    let left : b.n - j - 1 ≡ b.n - suc j = omega arith in
    subst₃ (λ (c e r : ℕ). Stands u ReadC64 false false 0 c e r l) (next_bus b.c j) (next_storage b.e j) left h

-- of a block with any number of address lines from 16 on: one argument for every size
module _ (W : ℕ → ℕ) (b : Block) where
  pub data Progress (k : ℕ) (g : ℕ → ℕ) (x : St) : Type 0 where
    reading :
        (j : ℕ) → j < b.n → k ≡ 2 * j → ((r : ℕ) → g r ≡ 0) → Reading x.u (bus_at b j) (exp_at b j) (b.n - j)
        → Clean b j x.m x.s → reg x.u 1 / 128 % 2 ≡ 1 → reg x.u 10 / 64 ≡ 0 → Progress k g x
    writing :
        (j : ℕ) → j < b.n → k ≡ 2 * j + 1 → ((r : ℕ) → g r ≡ 0)
        → Writing x.u (bus_at b j) (exp_at b j) (b.n - j) (latched b j) → Half b j x.m x.s
        → reg x.u 1 / 128 % 2 ≡ 1 → reg x.u 10 / 64 ≡ 0 → Progress k g x
    over :
        k ≡ 2 * b.n → Quiet x.u → Rewritten W g x.u → Clean b b.n x.m x.s
        → reg x.u 1 / 128 % 2 ≡ 0 → reg x.u 10 / 64 ≡ 0 → Progress k g x

  -- one granted cycle of the read phase
  cycle_reads : (k : ℕ) (g : ℕ → ℕ) (x : St) → lines x.u.size ≡ b.L → (j : ℕ) → j < b.n → k ≡ 2 * j → ((r : ℕ) → g r ≡ 0)
      → Clean b j x.m x.s → reg x.u 1 / 128 % 2 ≡ 1 → reg x.u 10 / 64 ≡ 0
      → (t : Ticked) (a : ReuBusAction) → ReadStep x.u (bus_at b j) (exp_at b j) (b.n - j) x.m x.s t a
      → Progress (1 + k) g (after_tick t)
  cycle_reads k g x same j lt ek zero' ex one free t a st =
      writing j lt (omega arith) zero'
      (subst (λ (v : ℕ). Writing t.0.reu (bus_at b j) (exp_at b j) (b.n - j) v)
      (clean_latch b j lt x.m (folds b x.u.size j) (folds_to b x.u.size same j) x.s ex)
      st.phase)
      (subst₂ (Half b j) (sym st.bus) (sym st.storage)
      (clean_read b j lt x.m (folds b x.u.size j) (folds_to b x.u.size same j) x.s ex))
      (ap (λ (l : List ℕ). get_or l 1 0 / 128 % 2) st.regs ∙ one)
      (ap (λ (l : List ℕ). get_or l 10 0 / 64) st.regs ∙ free)

  -- one granted cycle of the write phase, of a byte that is not the last
  cycle_writes : (k : ℕ) (g : ℕ → ℕ) (x : St) (j : ℕ) → suc j < b.n → k ≡ 2 * j + 1 → ((r : ℕ) → g r ≡ 0) → Half b j x.m x.s
      → reg x.u 1 / 128 % 2 ≡ 1 → reg x.u 10 / 64 ≡ 0
      → (t : Ticked) (a : ReuBusAction) → WriteStep x.u (bus_at b j) (exp_at b j) (b.n - j) (latched b j) x.m x.s t a
      → Progress (1 + k) g (after_tick t)
  cycle_writes k g x j lt ek zero' half one free t a st =
      reading (suc j) lt (omega arith) zero' (record { latch = st.phase.latch; stands = next_byte b j st.phase.stands })
      (subst₂ (Clean b (suc j)) (sym st.bus) (sym st.storage)
      (half_write b j (omega arith) x.m x.s half))
      (ap (λ (q : ℕ). q / 128 % 2) st.command ∙ one) (ap (λ (q : ℕ). q / 64) st.control ∙ free)

  -- of the last byte
  cycle_lasts : (k : ℕ) (g : ℕ → ℕ) (x : St) (j : ℕ) → suc j ≡ b.n → k ≡ 2 * j + 1 → ((r : ℕ) → g r ≡ 0) → Half b j x.m x.s
      → reg x.u 10 / 64 ≡ 0
      → (t : Ticked) (a : ReuBusAction) → LastStep x.u (bus_at b j) (latched b j) x.m x.s t a
      → Progress (1 + k) g (after_tick t)
  cycle_lasts k g x j last ek zero' half free t a st =
      over (omega arith) st.quiet
      (subst (λ (f : ℕ → ℕ). Rewritten W f t.0.reu) (fun_ext (λ r. sym (zero' r))) (rewritten_none W t.0.reu))
      (subst (λ (q : ℕ). Clean b q t.1 t.2) last
      (subst₂ (Clean b (suc j)) (sym st.bus) (sym st.storage)
      (half_write b j (omega arith) x.m x.s half)))
      (ap (λ (q : ℕ). q / 128 % 2) st.command ∙ command_ends (reg x.u 1))
      (ap (λ (q : ℕ). q / 64) st.control ∙ free)

  -- a cycle is granted until the swap is over, and then no more
  data Cycled (k : ℕ) (g : ℕ → ℕ) (t : Ticked) (a : ReuBusAction) : Type 0 where
    moves : a ≡ Transfer → Progress (1 + k) g (after_tick t) → Cycled k g t a
    rests : a ≡ Cpu → k ≡ 2 * b.n → Progress k g (after_tick t) → Cycled k g t a

  cycled : (k : ℕ) (g : ℕ → ℕ) (x : St) (low : Bool) (i : ℕ) → Sound x.u → lines x.u.size ≡ b.L → Progress k g x
      → Cycled k g (run_reu_cycle x.u x.m x.s true true i low) (core_bus_action x.u x.s true true i).0.action
  cycled k g x low i sound same (reading j lt ek zero' rd ex one free) =
      let st = read_step x.u (bus_at b j) (exp_at b j) (b.n - j) rd x.m x.s true i low in
      moves st.granted (cycle_reads k g x same j lt ek zero' ex one free _ _ st)
  cycled k g x low i sound same (writing j lt ek zero' wr half one free) = go (ℕ_discrete (b.n - j) 1)
    where
      latch : ℕ
      latch = latched b j

      go : Dec (b.n - j ≡ 1) → Cycled k g (run_reu_cycle x.u x.m x.s true true i low) (core_bus_action x.u x.s true true i).0.action
      go (yes q) =
          let st = last_step x.u (bus_at b j) (exp_at b j) latch (subst (λ (r : ℕ). Writing x.u (bus_at b j) (exp_at b j) r latch) q wr)
          sound.regs.len x.m x.s true i low in
          moves st.granted (cycle_lasts k g x j (omega arith) ek zero' half free _ _ st)
      go (no q) =
          let st = write_step x.u (bus_at b j) (exp_at b j) (b.n - j) latch wr (ne_eqb (b.n - j) 1 q) x.m x.s true i low in
          moves st.granted (cycle_writes k g x j (omega arith) ek zero' half one free _ _ st)
  cycled k g x low i sound same (over ek q re ex ended free) =
      let st = quiet_step_lem x.u q x.m x.s true true i low in
      let ke = kept_of x.u _ q.idle st.step.kept in
      rests st.granted ek
      (over ek st.quiet (rewritten_keep W g g x.u _ ke (λ r. refl) re) (rw (st.step.bus, st.step.storage) ex)
      (ap (λ (v : ℕ). v / 128 % 2) (ke.regs 1 (omega arith)) ∙ ended) (ap (λ (v : ℕ). v / 64) (ke.regs 10 (omega arith)) ∙ free))

  counted : (k : ℕ) (g : ℕ → ℕ) (t : Ticked) (a : ReuBusAction) → Cycled k g t a → Progress (bit_of (eqb (action_number a) 2) + k) g (after_tick t)
  counted k g t a (moves e p) = subst (λ (q : ReuBusAction). Progress (bit_of (eqb (action_number q) 2) + k) g (after_tick t)) (sym e) p
  counted k g t a (rests e ek p) =
      subst (λ (q : ReuBusAction). Progress (bit_of (eqb (action_number q) 2) + k) g (after_tick t)) (sym e)
      (subst (λ (q : ℕ). Progress q g (after_tick t)) (sym (zero-add k)) p)

  until : (k : ℕ) (g : ℕ → ℕ) (t : Ticked) (a : ReuBusAction) → k < 2 * b.n → Cycled k g t a → a ≡ Transfer
  until k g t a h (moves e p) = e
  until k g t a h (rests e ek p) = absurd (omega arith)

  -- COMMAND's bit 7 tells whether it is over, and so does the count
  pub record Over (k : ℕ) (g : ℕ → ℕ) (x : St) : Type 0 where
    pub total : k ≡ 2 * b.n
    pub quiet : Quiet x.u
    pub rewritten : Rewritten W g x.u
    pub exch : Clean b b.n x.m x.s
    pub ended : reg x.u 1 / 128 % 2 ≡ 0
    pub free : reg x.u 10 / 64 ≡ 0

  pub over_of : (k : ℕ) (g : ℕ → ℕ) (x : St) → Sound x.u → Progress k g x → Ended (held x) → Over k g x
  over_of k g x sound (reading j lt ek zero' rd ex one free) en =
      absurd (omega (arith, ended_reg x sound en))
  over_of k g x sound (writing j lt ek zero' wr half one free) en =
      absurd (omega (arith, ended_reg x sound en))
  over_of k g x sound (over ek q re ex ended free) en =
      record { total = ek; quiet = q; rewritten = re; exch = ex; ended = ended; free = free }

  pub ended_of : (k : ℕ) (g : ℕ → ℕ) (x : St) → Sound x.u → Progress k g x → k ≡ 2 * b.n → Ended (held x)
  ended_of k g x sound (reading j lt ek zero' rd ex one free) t = absurd (omega arith)
  ended_of k g x sound (writing j lt ek zero' wr half one free) t = absurd (omega arith)
  ended_of k g x sound (over ek q re ex ended free) t = reg_ended x sound ended

  -- any call that may come
  pub step : (k : ℕ) (g : ℕ → ℕ) (x : St) {d : Kind} → Sound x.u → lines x.u.size ≡ b.L → number_of d x ≡ 0 → NumbersFit d → High d
      → Step (Ended (held x)) (λ a v. Ended (held x) × Allowed W a v) d → Progress k g x
      → Progress (bit_of (eqb (grant_of d (held x)) 2) + k) (λ r. bit_of (writes_to r d) + g r) (step_of d x)
  step k g x sound same z fi hi (reads {address = a} en) pr =
      let o = over_of k g x sound pr en in
      let ke = read_law x.u a in
      over (omega (arith, o.total)) (read_stays_quiet x.u a o.quiet)
      (rewritten_keep W g (λ r. 0 + g r) x.u (read_register x.u a).reu ke (λ r. zero-add (g r)) o.rewritten)
      o.exch (ap (λ (v : ℕ). v / 128 % 2) (ke.regs 1 (omega arith)) ∙ o.ended) (ap (λ (v : ℕ). v / 64) (ke.regs 10 (omega arith)) ∙ o.free)
  step k g x sound same z fi hi (writes {address = a} {value = v} (en, al)) pr =
      let o = over_of k g x sound pr en in
      let w = rewrite_law W g x.u a v al.0.0 al.0.1 sound.regs.len fi.1 al.1 o.rewritten in
      over (omega (arith, o.total)) (w.1.quiet o.quiet) w.0
      o.exch (ap (λ (q : ℕ). q / 128 % 2) w.1.command ∙ o.ended) (ap (λ (q : ℕ). q / 64) w.1.control ∙ o.free)
  step k g x sound same z fi hi (cycles {high = h} {number = i} {low = l} {phi1 = p}) pr =
      subst₂ (λ (q : ℕ) (f : ℕ → ℕ). Progress (q + k) f (step_of (cycle h i l p) x)) (sym (granted_bit x sound h i l p z)) (fun_ext (λ r. sym (zero-add (g r))))
      (counted k g _ _
      (subst₂ (λ (b q : Bool). Cycled k g (run_reu_cycle x.u x.m x.s b q i (flag l)) (core_bus_action x.u x.s b q i).0.action)
      (sym (flag_high h hi.0)) (sym (flag_high p hi.1)) (cycled k g x (flag l) i sound same pr)))

  -- before it is over each cycle is granted
  granted_until : (k : ℕ) (g : ℕ → ℕ) (x : St) (i : ℕ) → Sound x.u → lines x.u.size ≡ b.L → Progress k g x → k < 2 * b.n
      → (core_bus_action x.u x.s true true i).0.action ≡ Transfer
  granted_until k g x i sound same pr h = until k g _ _ h (cycled k g x false i sound same pr)

-- ---- the swap that starts from a state

abbrev pub c64_of : Reu → ℕ
c64_of u = word (reg u 2) (reg u 3)

abbrev pub exp_of : Reu → ℕ
exp_of u = long (reg u 4) (reg u 5) (reg u 6)

abbrev pub len_of : Reu → ℕ
len_of u = length_of (word (reg u 7) (reg u 8))

-- what is known of each accepted call after the start of a swap
abbrev pub Swapping : St → Held → Call → Type 0
Swapping x h c = High c.kind × OnceEnded (Allowed (reg x.u)) h c

-- reads, writes and cycles set no size
step_steady : {R : Type 0} {W : ℕ → ℕ → Type 0} {d : Kind} → Step R W d → Steady d
step_steady cycles = tt
step_steady (reads r) = tt
step_steady (writes w) = tt

module _ (x : St) (ready : Ready x) where
  pub small_word : (i j : ℕ) → word (reg x.u i) (reg x.u j) < 65536
  small_word i j =
      let a : reg x.u i < 256 = (ready.sound.regs.fits i).byte in
      let b : reg x.u j < 256 = (ready.sound.regs.fits j).byte in
      omega arith

  pub one_byte : 1 ≤ len_of x.u
  one_byte = (length_range (word (reg x.u 7) (reg x.u 8)) (small_word 7 8)).0

  -- the lines of the size that is set
  abbrev pub connected_lines : ℕ
  connected_lines = lines x.u.size

  pub sized : Lines x.u.size
  sized = size_lines x.u.size ready.sound.size

  -- the block that the registers show
  abbrev pub block : Block
  block =
      record {
        L = connected_lines;
        wide = omega (arith, sized.fewest);
        within = omega (arith, sized.most);
        c = c64_of x.u;
        e = exp_of x.u;
        n = len_of x.u;
        few = (length_range (word (reg x.u 7) (reg x.u 8)) (small_word 7 8)).1;
        bus = x.m;
        storage = x.s;
        bus_length = ready.bus.size;
        storage_long = ready.storage.size ∙ sym sized.power;
      }

  -- what a swap from x has come to, with the same size, and once it is over
  abbrev pub SwapFrom : ℕ → (ℕ → ℕ) → St → Type 0
  SwapFrom k g y = Progress (reg x.u) block k g y × (y.u.size ≡ x.u.size)

  abbrev pub OverFrom : ℕ → (ℕ → ℕ) → St → Type 0
  OverFrom = Over (reg x.u) block

  pub over_from : (k : ℕ) (g : ℕ → ℕ) (y : St) → Sound y.u → SwapFrom k g y → Ended (held y) → OverFrom k g y
  over_from k g y sound (pr, sz) en = over_of (reg x.u) block k g y sound pr en

  pub ended_from : (k : ℕ) (g : ℕ → ℕ) (y : St) → Sound y.u → SwapFrom k g y → k ≡ 2 * len_of x.u → Ended (held y)
  ended_from k g y sound (pr, sz) all = ended_of (reg x.u) block k g y sound pr all

  pub granted_from : (k : ℕ) (g : ℕ → ℕ) (y : St) (i : ℕ) → Sound y.u → SwapFrom k g y → k < 2 * len_of x.u
      → (core_bus_action y.u y.s true true i).0.action ≡ Transfer
  granted_from k g y i sound (pr, sz) h = granted_until (reg x.u) block k g y i sound (ap lines sz) pr h

  pub step_from : (k : ℕ) (g : ℕ → ℕ) (y : St) (d : Kind) → Sound y.u → number_of d y ≡ 0 → NumbersFit d → Swapping x (held y) (on y d) → SwapFrom k g y
      → SwapFrom (bit_of (eqb (grant_of d (held y)) 2) + k) (λ r. bit_of (writes_to r d) + g r) (step_of d y)
  step_from k g y d sound z fi p (pr, sz) = (
    step (reg x.u) block k g y sound (ap lines sz) z fi p.0 p.1 pr,
    keeps_size d y (step_steady p.1) ∙ sz,
  )

  -- a swap that is to read its first byte
  pub first_stands : {w : Reu} → Reading w (c64_of x.u) (exp_of x.u) (len_of x.u) → Reading w (bus_at block 0) (exp_at block 0) (block.n - 0)
  first_stands {w} h =
      let small : word (reg x.u 2) (reg x.u 3) < 65536 = small_word 2 3 in
      let small' : word (reg x.u 4) (reg x.u 5) < 65536 = small_word 4 5 in
      let bank : reg x.u 6 < 256 = (ready.sound.regs.fits 6).byte in
      let ec : c64_of x.u ≡ bus_at block 0 = omega arith in
      let ee : exp_of x.u ≡ exp_at block 0 = omega arith in
      let er : len_of x.u ≡ block.n - 0 = omega arith in
      subst₃ (Reading w) ec ee er h

  -- the start
  pub begins : Idling x → {d : Kind} → SwapsAtOnce d → SwapFrom 0 (λ r. 0) (step_of d x)
  begins i (swaps {address = a} {value = v} one type now go) =
      let go' : v / 128 % 2 ≡ 1 = bit_one v 7 go in
      let b : Begun x.u v (write_register x.u a v)
      = start_law x.u v ready.sound.regs.len i.attached i.free type now go a one in (
        reading 0 one_byte refl (λ r. refl) (first_stands b.reading) (exch_zero (bus_at block) (storage_at block) x.m x.s)
            (ap (λ (q : ℕ). q / 128 % 2) b.command ∙ go') (ap (λ (q : ℕ). q / 64) b.control ∙ i.free),
        keeps_size (write a v) x tt,
      )
