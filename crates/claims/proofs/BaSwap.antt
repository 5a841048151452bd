-- A swap while BA falls and rises: how it stands before each call, and what bus, storage and latch hold then.
use Prim.Native.Nat.{ℕ, zero, suc, ◌+◌, ◌-◌, ◌/◌, ◌%◌, ◌<◌, ◌≤◌}
use mathlib.Core.Bool.{Bool, true, false}
use mathlib.Core.Path.{◌≡◌, refl, sym, ap, ◌∙◌, subst, subst₂}
use mathlib.Core.Logic.{◌≢◌, ◌⊎◌, inl, inr}
use mathlib.Core.List.{List}
use lib.ListN.{length, get_or, set}
use native.Mathlib.Omega.{arith}
use borrow.Author.Tests.{both_ways}
use Rattle.std.specs.Prelude.{Some}
use Rattle.transfer.specs.declared.dma.DmaState.{DmaState}
use Rattle.transfer.specs.declared.dma.SwapPhase.{SwapPhase}
use Rattle.transfer.specs.declared.dma.SwapPhase.TheVariants.{ReadC64, WriteC64}
use Rattle.transfer.specs.Memory.{lines}
use Rattle.controller.specs.Reu.{reg}
use Rattle.controller.specs.TickDma.{Ticked}
use Rattle.controller.specs.Cycle.{run_reu_cycle}
use Rattle.claims.proofs.CycleLaw.{Quiet, Stands, swap_state, quiet_step_lem}
use Rattle.claims.proofs.BaLaw.{After, Ends, Reads, reads, waits, delays, pairs, Writes, writes, finishes, again, stays, refreshes, gives_up, before_read, delayed_two, delayed_one, before_write, in_pair, refreshed}
use Rattle.claims.proofs.Places.{Block, bus_at, exp_at, latched, Clean, Half, folds, folds_to, clean_latch, clean_read, half_back, half_again, again_latch, half_refresh, half_write, Partly, clean_part, half_part}
use Rattle.claims.proofs.States.{St}
use Rattle.claims.proofs.Swap.{after_tick, command_ends, next_byte}

-- what BA was at the call before the i-th, from the history flag at the start
abbrev pub previous : Bool → (ℕ → Bool) → ℕ → Bool
previous w B zero = w
previous w B (suc i) = B i

abbrev pub Going : St → Type 0
Going x = reg x.u 1 / 128 % 2 ≡ 1

-- the block; what BA was before the start, and is at each call
module _ (block : Block) (w₀ : Bool) (B : ℕ → Bool) where
  -- ---- before call i, with j bytes done

  pub record At (j i : ℕ) (x : St) (p : SwapPhase) (t f : Bool) (d l : ℕ) : Type 0 where
    pub lt : j < block.n
    pub history : x.u.ba_was_high ≡ previous w₀ B i
    pub going : Going x
    pub stands : Stands x.u p t f d (bus_at block j) (exp_at block j) (block.n - j) l

  -- after a fall BA stays low for this call
  pub record Low (i : ℕ) : Type 0 where
    pub now : B i ≡ false
    pub was : previous w₀ B i ≡ false

  pub data Progress (j i : ℕ) (x : St) : Type 0 where
    reading : (l : ℕ) → At j i x ReadC64 false false 0 l → Clean block j x.m x.s → Progress j i x
    delayed_by_two : (l : ℕ) → Low i → At j i x ReadC64 false false 2 l → Clean block j x.m x.s → Progress j i x
    delayed_by_one : (l : ℕ) → At j i x ReadC64 false false 1 l → Clean block j x.m x.s → Progress j i x
    writing : At j i x WriteC64 false false 0 (latched block j) → Half block j x.m x.s → Progress j i x
    refreshing : Low i → At j i x WriteC64 false true 1 (latched block j) → Half block j x.m x.s → Progress j i x
    terminal : Low i → block.n - j ≡ 1 → At j i x WriteC64 true false 0 (latched block j) → Half block j x.m x.s → Progress j i x
    over : j ≡ block.n → Quiet x.u → Clean block block.n x.m x.s → reg x.u 1 / 128 % 2 ≡ 0 → Progress j i x

  -- it runs, or it is over
  pub record Live (j : ℕ) (x : St) : Type 0 where
    pub lt : j < block.n
    pub going : Going x
    pub state : DmaState
    pub transfer : x.u.dma ≡ Some state
    pub remaining : state.remaining ≡ block.n - j
    pub part : Partly block j x.m x.s

  pub record Over (j : ℕ) (x : St) : Type 0 where
    pub total : j ≡ block.n
    pub quiet : Quiet x.u
    pub exch : Clean block block.n x.m x.s
    pub ended : reg x.u 1 / 128 % 2 ≡ 0

  live : {j i : ℕ} {x : St} {p : SwapPhase} {t f : Bool} {d l : ℕ} → At j i x p t f d l → Partly block j x.m x.s → Live j x
  live {j} {p = p} {l = l} a part =
      record {
        lt = a.lt;
        going = a.going;
        state = swap_state p (bus_at block j) (exp_at block j) (block.n - j) l a.stands.auto a.stands.one a.stands.odd;
        transfer = a.stands.transfer;
        remaining = refl;
        part = part;
      }

  pub view : (j i : ℕ) (x : St) → Progress j i x → Live j x ⊎ Over j x
  view j i x (reading l a h) = inl (live a (clean_part block j x.m x.s h))
  view j i x (delayed_by_two l b a h) = inl (live a (clean_part block j x.m x.s h))
  view j i x (delayed_by_one l a h) = inl (live a (clean_part block j x.m x.s h))
  view j i x (writing a h) = inl (live a (half_part block j a.lt x.m x.s h))
  view j i x (refreshing b a h) = inl (live a (half_part block j a.lt x.m x.s h))
  view j i x (terminal b r a h) = inl (live a (half_part block j a.lt x.m x.s h))
  view j i x (over q k h o) = inr (record { total = q; quiet = k; exch = h; ended = o })

  -- its write comes next
  abbrev pub IsWriting : {j i : ℕ} {x : St} → Progress j i x → Type 0
  IsWriting (reading l a h) = ⊥
  IsWriting (delayed_by_two l b a h) = ⊥
  IsWriting (delayed_by_one l a h) = ⊥
  IsWriting (writing a h) = Unit {0}
  IsWriting (refreshing b a h) = ⊥
  IsWriting (terminal b r a h) = ⊥
  IsWriting (over q k h o) = ⊥

  -- ---- one call

  pub record Stepped {j i : ℕ} {x : St} (p : Progress j i x) (y : St) : Type 0 where
    pub to : ℕ
    pub more : j ≤ to
    pub here : Progress to (suc i) y
    -- a high call completes a byte, or a write comes next
    pub moves : B i ≡ true → j < block.n → (j < to) ⊎ IsWriting here
    -- a write that comes next is done if BA stays high
    pub fires : IsWriting p → previous w₀ B i ≡ true → B i ≡ true → j < to

  -- a low call that completes no byte; a call that reads; one that completes a byte
  waited : {j i : ℕ} {x y : St} {p : Progress j i x} → B i ≡ false → Progress j (suc i) y → Stepped p y
  waited {j} {i} b here =
      record {
        to = j;
        more = omega arith;
        here = here;
        moves = λ hi lt. absurd (both_ways (B i) b hi);
        fires = λ f w hi. absurd (both_ways (B i) b hi);
      }

  read_now : {j i : ℕ} {x y : St} {p : Progress j i x} → (IsWriting p → ⊥)
      → At j (suc i) y WriteC64 false false 0 (latched block j) × Half block j y.m y.s → Stepped p y
  read_now {j} not_write w =
      record { to = j; more = omega arith; here = writing w.0 w.1; moves = λ hi lt. inr tt; fires = λ f. absurd (not_write f) }

  completed : {j i : ℕ} {x y : St} {p : Progress j i x} → Progress (suc j) (suc i) y → Stepped p y
  completed {j} here =
      record { to = suc j; more = omega arith; here = here; moves = λ hi lt. inl (omega arith); fires = λ f w hi. omega arith }

  module _ (j i : ℕ) (x : St) (same : lines x.u.size ≡ block.L) where
    -- where byte j is folded to, the storage after its read, and the bus after its write
    abbrev at : ℕ
    at = folds block x.u.size j

    abbrev stored : List ℕ
    stored = set x.s at (get_or x.m (bus_at block j) 0)

    abbrev written : List ℕ
    written = set x.m (bus_at block j) (latched block j)

    next_at : {p p' : SwapPhase} {t f t' f' : Bool} {d d' l l' : ℕ} {m s : List ℕ} {z : Ticked} → At j i x p t f d l
        → After (reg x.u 1) (B i) m s p' t' f' d' (bus_at block j) (exp_at block j) (block.n - j) l' z → At j (suc i) (after_tick z) p' t' f' d' l'
    next_at h a =
        record { lt = h.lt; history = a.history; going = ap (λ (v : ℕ). v / 128 % 2) a.command ∙ h.going; stands = a.stands }

    -- the read is done
    has_read : {p : SwapPhase} {t f t' : Bool} {d l : ℕ} {z : Ticked} → At j i x p t f d l → Clean block j x.m x.s
        → After (reg x.u 1) (B i) x.m stored WriteC64 t' false 0 (bus_at block j) (exp_at block j) (block.n - j) (get_or x.s at 0) z
        → At j (suc i) (after_tick z) WriteC64 t' false 0 (latched block j) × Half block j z.1 z.2
    has_read {t' = t'} {z = z} h cl a = (
      subst (λ (q : ℕ). At j (suc i) (after_tick z) WriteC64 t' false 0 q)
          (clean_latch block j h.lt x.m at (folds_to block x.u.size same j) x.s cl) (next_at h a),
      subst₂ (Half block j) (sym a.bus) (sym a.storage)
          (clean_read block j h.lt x.m at (folds_to block x.u.size same j) x.s cl),
    )

    -- the byte is done
    has_written : {l : ℕ} {z : Ticked} → At j i x WriteC64 false false 0 (latched block j) → Half block j x.m x.s → block.n - j ≢ 1
        → After (reg x.u 1) (B i) written x.s ReadC64 false false 0 ((bus_at block j + 1) % 65536) ((exp_at block j + 1) % 16777216) (block.n - j - 1) l z
        → Progress (suc j) (suc i) (after_tick z)
    has_written {l} {z} h hf more a =
        reading l
        (record {
          lt = omega (arith, h.lt);
          history = a.history;
          going = ap (λ (v : ℕ). v / 128 % 2) a.command ∙ h.going;
          stands = next_byte block j a.stands;
        })
        (subst₂ (Clean block (suc j)) (sym a.bus) (sym a.storage) (half_write block j h.lt x.m x.s hf))

    has_ended : {z : Ticked} → j < block.n → Half block j x.m x.s → block.n - j ≡ 1 → Ends (reg x.u 1) written x.s z
        → Progress (suc j) (suc i) (after_tick z)
    has_ended {z} lt hf last a =
        let all : suc j ≡ block.n = omega arith in
        over all a.quiet
        (subst (λ (q : ℕ). Clean block q z.1 z.2) all
        (subst₂ (Clean block (suc j)) (sym a.bus) (sym a.storage) (half_write block j lt x.m x.s hf)))
        (ap (λ (v : ℕ). v / 128 % 2) a.command ∙ command_ends (reg x.u 1))

    module _ (two : Going x → previous w₀ B i ≡ true → B i ≡ false → B (suc i) ≡ false) (len : length x.u.regs ≡ 11) (high low : Bool) (num : ℕ) where
      from_reading : {l : ℕ} (h : At j i x ReadC64 false false 0 l) (cl : Clean block j x.m x.s) (z : Ticked)
          → Reads x.u (bus_at block j) (exp_at block j) (block.n - j) x.m x.s high num low (previous w₀ B i) (B i) l z
          → Stepped (reading l h cl) (after_tick z)
      from_reading h cl z (reads b a) = read_now (λ f. f) (has_read h cl a)
      from_reading {l} h cl z (waits b a) = waited b (reading l (next_at h a) (subst₂ (Clean block j) (sym a.bus) (sym a.storage) cl))
      from_reading {l} h cl z (delays w b a) =
          waited b (delayed_by_two l (record { now = two h.going w b; was = b }) (next_at h a) (subst₂ (Clean block j) (sym a.bus) (sym a.storage) cl))
      from_reading h cl z (pairs w b last a) =
          let r = has_read h cl a in
          waited b (terminal (record { now = two h.going w b; was = b }) last r.0 r.1)

      from_writing : (h : At j i x WriteC64 false false 0 (latched block j)) (hf : Half block j x.m x.s) (z : Ticked)
          → Writes x.u (bus_at block j) (exp_at block j) (block.n - j) x.m x.s high num low (previous w₀ B i) (B i) (latched block j) z
          → Stepped (writing h hf) (after_tick z)
      from_writing h hf z (writes k b ne a) = completed (has_written h hf ne a)
      from_writing h hf z (finishes b last a) = completed (has_ended h.lt hf last a)
      from_writing h hf z (again w b a) =
          record {
            to = j;
            more = omega arith;
            here =
                writing
                (subst (λ (q : ℕ). At j (suc i) (after_tick z) WriteC64 false false 0 q)
                (again_latch block j h.lt x.m at (folds_to block x.u.size same j) x.s hf) (next_at h a))
                (subst₂ (Half block j) (sym a.bus) (sym a.storage)
                (half_again block j h.lt x.m at (folds_to block x.u.size same j) x.s hf));
            moves = λ hi lt. inr tt;
            fires = λ f w' hi. absurd (both_ways (previous w₀ B i) w w');
          }
      from_writing h hf z (stays b a) = waited b (writing (next_at h a) (subst₂ (Half block j) (sym a.bus) (sym a.storage) hf))
      from_writing h hf z (refreshes w b a) =
          waited b (refreshing (record { now = two h.going w b; was = b }) (next_at h a) (subst₂ (Half block j) (sym a.bus) (sym a.storage) hf))
      from_writing h hf z (gives_up b a) =
          waited b
          (reading (latched block j) (next_at h a)
          (subst₂ (Clean block j) (sym a.bus) (sym a.storage) (half_back block j h.lt x.m at (folds_to block x.u.size same j) x.s hf)))

      abbrev turned : Bool → Ticked
      turned phi1 = run_reu_cycle x.u x.m x.s high phi1 num low

      -- whatever the swap has come to
      pub step : (p : Progress j i x) → Stepped p (after_tick (turned (B i)))
      step (reading l h cl) =
          from_reading h cl (turned (B i))
          (before_read x.u (bus_at block j) (exp_at block j) (block.n - j) x.m x.s high num low l (previous w₀ B i) (B i) h.history h.stands)
      step (delayed_by_two l b h cl) =
          let a = delayed_two x.u (bus_at block j) (exp_at block j) (block.n - j) x.m x.s high num low l (B i) h.stands in
          waited b.now (delayed_by_one l (next_at h a) (subst₂ (Clean block j) (sym a.bus) (sym a.storage) cl))
      step (delayed_by_one l h cl) =
          read_now (λ f. f) (has_read h cl (delayed_one x.u (bus_at block j) (exp_at block j) (block.n - j) x.m x.s high num low l (B i) h.stands))
      step (writing h hf) =
          from_writing h hf (turned (B i))
          (before_write x.u (bus_at block j) (exp_at block j) (block.n - j) x.m x.s high num low len (latched block j) (previous w₀ B i) (B i) h.history h.stands)
      step (refreshing b h hf) =
          let a =
          subst
          (λ (y : Bool). After (reg x.u 1) y x.m stored WriteC64 false false 0 (bus_at block j) (exp_at block j) (block.n - j) (latched block j) (turned y))
          (sym b.now)
          (refreshed x.u (bus_at block j) (exp_at block j) (block.n - j) x.m x.s high num low (latched block j) (h.history ∙ b.was) h.stands) in
          waited b.now
          (writing (next_at h a)
          (subst₂ (Half block j) (sym a.bus) (sym a.storage) (half_refresh block j h.lt x.m at (folds_to block x.u.size same j) x.s hf)))
      step (terminal b last h hf) =
          completed
          (has_ended h.lt hf last
          (subst (λ (y : Bool). Ends (reg x.u 1) written x.s (turned y)) (sym b.now)
          (in_pair x.u (bus_at block j) (exp_at block j) (block.n - j) x.m x.s high num low len (latched block j) last (h.history ∙ b.was) h.stands)))
      step (over q k cl o) =
          let a = quiet_step_lem x.u k x.m x.s high (B i) num low in
          record {
            to = j;
            more = omega arith;
            here =
                over q a.quiet (subst₂ (Clean block block.n) (sym a.step.bus) (sym a.step.storage) cl)
                (ap (λ (v : ℕ). v / 128 % 2) (a.step.kept.regs 1 (omega arith)) ∙ o);
            moves = λ hi lt. absurd (omega arith);
            fires = λ f. absurd f;
          }
