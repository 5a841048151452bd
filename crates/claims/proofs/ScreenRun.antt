-- A swap's run, call by call: how many bytes are done before each call, what holds once it has ended, and that it ends.
use Prim.Native.Nat.{ℕ, zero, suc, ◌+◌, ◌-◌, ◌*◌, ◌/◌, ◌%◌, ◌<◌, ◌≤◌}
use mathlib.Core.Bool.{Bool, true, false}
use mathlib.Core.Path.{◌≡◌, refl, sym, ap, ◌∙◌, subst, subst₂}
use mathlib.Core.Logic.{◌⊎◌, inl, inr}
use mathlib.Core.List.{List}
use lib.ListN.{get_or}
use native.Mathlib.Nat.{mul-suc, mul-add, mod-lt, mod-eq_of_lt, div-add-mod, mul-add-mod_self_left, lt-mul-div-succ}
use lib.Dec.{leb}
use native.Mathlib.Omega.{arith}
use native.Mathlib.Decide.{ℕ_discrete}
use borrow.Author.Tests.{both_ways, leb-true, leb-false, le-leb}
use Rattle.transfer.specs.Bytes.{bit}
use Rattle.transfer.specs.Memory.{lines}
use Rattle.controller.specs.Reu.{reg}
use Rattle.controller.specs.Cycle.{run_reu_cycle}
use Rattle.reu.specs.Exports.{flag}
use Rattle.claims.specs.Calls.{Held}
use Rattle.claims.specs.SwapTwice.{byte, size_set, ShownAll, block_length, Exchanged, Ended}
use Rattle.claims.specs.SwapOnScreen.{SwapStart, ScreenTime, held_at, Runs, high_at, TwoLow, left, occurrences, Midway, turns}
use Rattle.claims.proofs.CycleLaw.{read_step}
use Rattle.claims.proofs.Exchange.{exch_zero}
use Rattle.claims.proofs.Places.{Block, bus_at, storage_at, Clean, Partly, clean_part, clean_count}
use Rattle.claims.proofs.States.{St, Ready}
use Rattle.claims.proofs.Look.{one_bit, reg_byte, reg_ended, left_none, left_some, size_is}
use Rattle.claims.proofs.Swap.{one_byte, block, first_stands}
use Rattle.claims.proofs.BaSwap.{previous, Going, Progress, reading, Live, Over, view, IsWriting, Stepped, step}
use Rattle.claims.proofs.Outcome.{block_length_lem, shown_block, shown_part}
use Rattle.claims.proofs.ScreenStart.{opens, opens_ready, opens_is, first, began, first_going, state, state_ready, state_size, state_is}

module _ (t : ScreenTime) (st : SwapStart t.before t.start) (tl : TwoLow t) where
  abbrev x : St
  x = opens t.before t.start st

  abbrev r : Ready x
  r = opens_ready t.before t.start st

  -- the block, and what BA was before the first call
  abbrev blk : Block
  blk = block x r

  abbrev n : ℕ
  n = blk.n

  abbrev w₀ : Bool
  w₀ = (first t.before t.start st).u.ba_was_high

  abbrev now : ℕ → St
  now = state t st

  abbrev ready : (i : ℕ) → Ready (now i)
  ready = state_ready t st

  abbrev Standing : ℕ → ℕ → St → Type 0
  Standing = Progress blk w₀ (high_at t)

  abbrev Seen : ℕ → St → Type 0
  Seen j y =
      Live blk w₀ (high_at t) j y
      ⊎ Over blk w₀ (high_at t) j y

  abbrev Turned : (j i : ℕ) (y : St) → Standing j i y → St → Type 0
  Turned j i y p z =
      Stepped blk w₀ (high_at t) p z

  abbrev WritesNext : (j i : ℕ) (y : St) → Standing j i y → Type 0
  WritesNext j i y p =
      IsWriting blk w₀ (high_at t) p

  -- how many bytes are done before call i, and how the swap stands
  record Reached (i : ℕ) : Type 0 where
    pub j : ℕ
    pub here : Standing j i (now i)

  command_is : (i : ℕ) → byte (held_at t i) 1 ≡ reg (now i).u 1
  command_is i = ap (λ (h : Held). byte h 1) (state_is t st i) ∙ reg_byte (now i) (ready i).sound 1 (omega arith)

  live_runs : (i : ℕ) → Going (now i) → Runs (held_at t i)
  live_runs i g = ap (λ (v : ℕ). bit v 7) (command_is i) ∙ one_bit (reg (now i).u 1) 7 g

  previous_high : (i b : ℕ) → previous w₀ (high_at t) i ≡ true → i ≡ suc b → high_at t b ≡ true
  previous_high zero b p q = absurd (omega arith)
  previous_high (suc i) b p q = let s : i ≡ b = omega arith in subst (λ (y : ℕ). high_at t y ≡ true) s p

  -- a fall while the command runs is followed by another low call
  second_low : (i : ℕ) → Going (now i) → previous w₀ (high_at t) i ≡ true → high_at t i ≡ false → high_at t (suc i) ≡ false
  second_low i g p b = go (high_at t (suc i)) refl
    where
      low : (y : ℕ) → i ≤ y → y < i + 1 → high_at t y ≡ false
      low y lo hi = let s : i ≡ y = omega arith in subst (λ (z : ℕ). high_at t z ≡ false) s b

      next : suc i ≡ i + 1
      next = omega arith

      go : (h : Bool) → high_at t (suc i) ≡ h → high_at t (suc i) ≡ false
      go false s = s
      go true s =
          let two =
          tl i 1
          (record { some = omega arith; low = low; before = λ y q. previous_high i y p q; behind = subst (λ (y : ℕ). high_at t y ≡ true) next s })
          (i, omega arith, omega arith, live_runs i g) in
          absurd (omega (arith, two))

  turned : (i : ℕ) (p : Reached i) → Turned p.j i (now i) p.here (now (suc i))
  unfolding state
  turned i p =
      step blk w₀ (high_at t) p.j i (now i)
      (ap lines (state_size t st i)) (second_low i) (ready i).sound.regs.len (flag (t.told i).high) (flag (t.told i).low) (t.told i).number p.here

  first_reached : Reached 0
  unfolding state first
  first_reached =
      let b = began t.before t.start st in
      let h = first_stands x r b.begun.reading in
      record {
        j = 0;
        here =
            reading h.latch (record { lt = omega (arith, one_byte x r); history = refl; going = first_going t.before t.start st; stands = h.stands })
            (subst₂ (Clean blk 0) (sym b.bus) (sym b.storage) (exch_zero (bus_at blk) (storage_at blk) x.m x.s));
      }

  reach : (i : ℕ) → Reached i
  reach zero = first_reached
  reach (suc i) = record { j = (turned i (reach i)).to; here = (turned i (reach i)).here }

  -- the bytes done before call i
  abbrev bytes : ℕ → ℕ
  bytes i = (reach i).j

  seen : (i : ℕ) → Seen (bytes i) (now i)
  seen i =
      view blk w₀ (high_at t)
      (bytes i) i (now i) (reach i).here

  -- ---- COMMAND's bit 7, and the bytes that are left

  over_ended : (i : ℕ) → reg (now i).u 1 / 128 % 2 ≡ 0 → Ended (held_at t i)
  over_ended i o = subst Ended (sym (state_is t st i)) (reg_ended (now i) (ready i).sound o)

  runs_few : (i : ℕ) → Runs (held_at t i) → bytes i < n
  runs_few i r = go (seen i)
    where
      go : Seen (bytes i) (now i) → bytes i < n
      go (inl v) = v.lt
      go (inr v) = absurd (both_ways _ (over_ended i v.ended) r)

  all_ended : (i : ℕ) → n ≤ bytes i → Ended (held_at t i)
  all_ended i h = go (seen i)
    where
      go : Seen (bytes i) (now i) → Ended (held_at t i)
      go (inl v) = absurd (omega (arith, h, v.lt))
      go (inr v) = over_ended i v.ended

  counted : (i : ℕ) → (bytes i ≤ n) × (left (held_at t i) ≡ n - bytes i)
  counted i = go (seen i)
    where
      go : Seen (bytes i) (now i) → (bytes i ≤ n) × (left (held_at t i) ≡ n - bytes i)
      go (inl v) = (
        omega (arith, v.lt),
        ap left (state_is t st i) ∙ left_some (now i) (ready i).sound v.state v.transfer ∙ v.remaining,
      )
      go (inr v) = (
        omega (arith, v.total),
        ap left (state_is t st i) ∙ left_none (now i) (ready i).sound v.quiet.idle ∙ omega (arith, v.total),
      )

  part : (i : ℕ) → Partly blk (bytes i) (now i).m (now i).s
  part i = go (seen i)
    where
      go : Seen (bytes i) (now i) → Partly blk (bytes i) (now i).m (now i).s
      go (inl v) = v.part
      go (inr v) = subst (λ (q : ℕ). Partly blk q (now i).m (now i).s) (sym v.total) (clean_part blk n (now i).m (now i).s v.exch)

  pub shown_midway : (w : ℕ → ℕ) → ShownAll t.before w → (i : ℕ) → Midway (block_length w - left (held_at t i)) w t.before (held_at t i)
  unfolding opens
  shown_midway w shown i =
      let long = block_length_lem t.before x (sym (opens_is t.before t.start st)) r.sound w shown (size_set t.before) (sym (size_is t.before st.can)) in
      subst (λ (d : ℕ). Midway d w t.before (held_at t i)) (omega (arith, counted i, long))
      (shown_part t.before x (sym (opens_is t.before t.start st)) r.sound w shown (size_set t.before) (sym (size_is t.before st.can))
      (bytes i) t.before (held_at t i) refl
      (subst (λ (h : Held). Partly blk (bytes i) h.bus h.storage) (sym (state_is t st i)) (part i)))

  -- ---- when it has ended

  pub exchanged : (i : ℕ) → Ended (held_at t i)
      → Clean blk n (held_at t i).bus (held_at t i).storage
  exchanged i en =
      subst (λ (h : Held). Clean blk n h.bus h.storage) (sym (state_is t st i)) (go (seen i))
    where
      go : Seen (bytes i) (now i) → Clean blk n (now i).m (now i).s
      go (inl v) = absurd (both_ways _ en (live_runs i v.going))
      go (inr v) = v.exch

  pub shown_exchanged : (w : ℕ → ℕ) → ShownAll t.before w → (i : ℕ) → Ended (held_at t i) → Exchanged w t.before (held_at t i)
  unfolding opens
  shown_exchanged w shown i en =
      shown_block t.before x (sym (opens_is t.before t.start st)) r.sound w shown (size_set t.before) (sym (size_is t.before st.can))
      t.before (held_at t i) refl (exchanged i en)

  pub same_count : (i v : ℕ) → Ended (held_at t i) → occurrences v (held_at t i) ≡ occurrences v t.before
  unfolding opens
  same_count i v en = clean_count blk v (held_at t i).bus (held_at t i).storage (exchanged i en)

  -- ---- two high calls in a row complete a byte

  more : (i : ℕ) → bytes i ≤ bytes (suc i)
  unfolding reach
  more i = (turned i (reach i)).more

  later : (i m : ℕ) → bytes i ≤ bytes (m + i)
  later i zero = let q : i ≡ 0 + i = omega arith in subst (λ (y : ℕ). bytes i ≤ bytes y) q (omega arith)
  later i (suc m) =
      let q : suc (m + i) ≡ suc m + i = omega arith in
      subst (λ (y : ℕ). bytes i ≤ bytes y) q (omega (arith, later i m, more (m + i)))

  upwards : (a b : ℕ) → a ≤ b → bytes a ≤ bytes b
  upwards a b h = let q : b - a + a ≡ b = omega arith in subst (λ (y : ℕ). bytes a ≤ bytes y) q (later a (b - a))

  two_high : (i : ℕ) → bytes i < n → high_at t i ≡ true → high_at t (suc i) ≡ true → bytes i < bytes (suc (suc i))
  unfolding reach
  two_high i lt h h' = go ((turned i (reach i)).moves h lt)
    where
      go : (bytes i < (turned i (reach i)).to) ⊎ WritesNext (turned i (reach i)).to (suc i) (now (suc i)) (turned i (reach i)).here
          → bytes i < bytes (suc (suc i))
      go (inl l) = omega (arith, l, more (suc i))
      go (inr w) = omega (arith, (turned i (reach i)).more, (turned (suc i) (reach (suc i))).fires w h h')

  pub completes : (a m : ℕ) → 2 ≤ m → Runs (held_at t a) → ((i : ℕ) → a ≤ i → i < a + m → high_at t i ≡ true)
      → left (held_at t (a + m)) < left (held_at t a)
  completes a m two r hi =
      let lt = runs_few a r in
      let b = two_high a lt (hi a (omega arith) (omega arith)) (hi (suc a) (omega arith) (omega arith)) in
      omega (arith, lt, b, upwards (suc (suc a)) (a + m) (omega arith), (counted a).1, (counted (a + m)).1, (counted (a + m)).0)

  -- ---- it ends

  one_more : (y b : ℕ) → b ≤ n → b - 1 ≤ bytes y → high_at t y ≡ true → high_at t (suc y) ≡ true → b ≤ bytes (suc (suc y))
  one_more y b all h hi hi' = go (ℕ_discrete (bytes y) n)
    where
      go : Dec (bytes y ≡ n) → b ≤ bytes (suc (suc y))
      go (yes q) = omega (arith, all, q, more y, more (suc y))
      go (no ne) = let lt : bytes y < n = omega (arith, (counted y).0, ne) in omega (arith, h, two_high y lt hi hi')

  -- 2m high calls from call a on complete m bytes, or all that are left
  high_run : (a m : ℕ) → ((i : ℕ) → a ≤ i → i < a + 2 * m → high_at t i ≡ true) → (b : ℕ) → b ≤ n → b ≤ bytes a + m → b ≤ bytes (a + 2 * m)
  high_run a zero hi b all h = let q : a ≡ a + 2 * 0 = omega arith in subst (λ (y : ℕ). b ≤ bytes y) q (omega arith)
  high_run a (suc m) hi b all h =
      let before : b - 1 ≤ bytes (a + 2 * m) = high_run a m (λ i lo lt. hi i lo (omega arith)) (b - 1) (omega arith) (omega arith) in
      let next : suc (suc (a + 2 * m)) ≡ a + 2 * suc m = omega arith in
      subst (λ (z : ℕ). b ≤ bytes z) next
      (one_more (a + 2 * m) b all before (hi (a + 2 * m) (omega arith) (omega arith)) (hi (suc (a + 2 * m)) (omega arith) (omega arith)))

  pub ends_high : (a : ℕ) → ((i : ℕ) → a ≤ i → i < a + 2 * n → high_at t i ≡ true) → Ended (held_at t (a + 2 * n))
  ends_high a hi = all_ended (a + 2 * n) (high_run a n hi n (omega arith) (omega arith))

  -- where BA is high in turns, at least
  module _ (every low o : ℕ) (room : low + 2 ≤ every) (on : (i : ℕ) → turns every low o i ≡ true → high_at t i ≡ true) where
    -- the bytes that the high calls of a turn complete
    abbrev m : ℕ
    m = (every - low) / 2

    -- the first call of a high stretch, and in which turn it is
    record Rise : Type 0 where
      s : ℕ
      turn : ℕ
      near : s ≤ every
      is : o + s ≡ every * turn + low

    rise : Rise
    rise = go (leb (o % every) low) refl
      where
        q : every * (o / every) + o % every ≡ o
        q = div-add-mod o every

        small : o % every < every
        small = mod-lt o (omega arith)

        go : (b : Bool) → leb (o % every) low ≡ b → Rise
        go true h = record { s = low - o % every; turn = o / every; near = omega arith; is = omega (arith, q, leb-true (o % every) low h) }
        go false h =
            record {
              s = low + every - o % every;
              turn = suc (o / every);
              near = omega (arith, leb-false (o % every) low h);
              is = omega (arith, q, small, mul-suc every (o / every));
            }

    abbrev s : ℕ
    s = rise.s

    high_there : (q i : ℕ) → s + every * q ≤ i → i < s + every * q + 2 * m → high_at t i ≡ true
    high_there q i lo hi = on i (le-leb low ((o + i) % every) (omega (arith, same)))
      where
        past : ℕ
        past = low + (i - (s + every * q))

        whole : o + i ≡ every * (rise.turn + q) + past
        whole = omega (arith, rise.is, mul-add every rise.turn q)

        same : (o + i) % every ≡ past
        same = ap (λ (k : ℕ). k % every) whole ∙ mul-add-mod_self_left every (rise.turn + q) past ∙ mod-eq_of_lt (omega arith)

    after_turns : (q b : ℕ) → b ≤ n → b ≤ m * q → b ≤ bytes (s + every * q)
    after_turns zero b all h = omega (arith, h)
    after_turns (suc q) b all h =
        let before : b - m ≤ bytes (s + every * q) = after_turns q (b - m) (omega arith) (omega (arith, mul-suc m q)) in
        let run : b ≤ bytes (s + every * q + 2 * m) = high_run (s + every * q) m (high_there q) b all (omega (arith, before)) in
        omega (arith, run, upwards (s + every * q + 2 * m) (s + every * suc q) (omega (arith, mul-suc every q)))

    -- a turn for what is over, and one up to the first that is whole
    pub ends_turns : (i : ℕ) → every * (n / m + 2) ≤ i → Ended (held_at t i)
    ends_turns i h =
        let q : ℕ = n / m + 1 in
        let most : n < m * q = lt-mul-div-succ n (omega arith) in
        let all : n ≤ bytes (s + every * q) = after_turns q n (omega arith) (omega (arith, most)) in
        let next : every * (n / m + 2) ≡ every * q + every = ap (λ (k : ℕ). every * k) (omega arith) ∙ mul-suc every q in
        all_ended i (omega (arith, all, upwards (s + every * q) i (omega (arith, next, rise.near))))

  -- a first call with BA high reads, so a command of any length runs on
  pub second_runs : high_at t 0 ≡ true → Runs (held_at t 1)
  unfolding state first
  second_runs hi =
      let y = now 0 in
      let c = t.told 0 in
      let h = read_step y.u _ _ _ (began t.before t.start st).begun.reading y.m y.s (flag c.high) c.number (flag c.low) in
      live_runs 1
      (subst (λ (b : Bool). reg (run_reu_cycle y.u y.m y.s (flag c.high) b c.number (flag c.low)).0.reu 1 / 128 % 2 ≡ 1) (sym hi)
      (ap (λ (l : List ℕ). get_or l 1 0 / 128 % 2) h.regs ∙ first_going t.before t.start st))
