-- L6's claim: courses of BA and calls that follow them, what a run comes to by what the registers show, and R16.
use Prim.Native.Nat.{ℕ, zero, suc, ◌+◌, ◌-◌, ◌*◌, ◌/◌, ◌%◌, ◌^◌, ◌<◌, ◌≤◌}
use native.Mathlib.Nat.{mod-lt}
use lib.Pow.{pow_pos}
use mathlib.Core.Bool.{Bool, true, false, cond}
use mathlib.Core.Path.{◌≡◌, refl, sym, ap, ◌∙◌, subst}
use mathlib.Core.List.{List, [], ◌∷◌, ◌++◌}
use lib.ListN.{get_or, set, take}
use lib.Seq.{get_or-set_same, get_or-set_other}
use lib.Dec.{eqb}
use native.Mathlib.Omega.{arith}
use native.Mathlib.Decide.{ℕ_discrete}
use borrow.Author.Tests.{both_ways, ne_eqb, leb-true, leb-false, lt-leb}
use Rattle.transfer.specs.Bytes.{bit}
use Rattle.transfer.specs.Memory.{is_size}
use Rattle.controller.specs.Enable.{new_reu, set_size as core_set_size, connected}
use Rattle.image.specs.Layout.{pack_image}
use Rattle.controller.specs.Reu.{reg}
use Rattle.controller.specs.Registers.{write_register, write_command}
use Rattle.reu.specs.Exports.{flag}
use Rattle.transfer.specs.Constants.{new_size}
use Rattle.claims.specs.Constants.{flags_byte}
use Rattle.claims.specs.Calls.{Held, Memories, trigger_ff00, Kind, write, cycle, other, does}
use Rattle.claims.specs.SwapTwice.{byte, size_set, CanStart, ShownAll, bus_place, storage_place, block_length, swaps, Ended}
use Rattle.claims.specs.Sessions.{begin, r16, run}
use Rattle.claims.specs.SwapOnScreen.{by_command, by_ff00, SwapStart, LateClear, ScreenTime, held_at, Runs, high_at, LowStretch, Touches, TwoLow, Besides, left, Swaps, Course, Follows, enough, turns, turns_calls, screen, screen_calls, r16_time, Alone, SwapOnScreen}
use Rattle.claims.proofs.States.{St, held, step_of, Ready}
use Rattle.claims.proofs.Accepted.{leaves_is, ready_number, ready_step}
use Rattle.claims.proofs.Look.{reg_byte, armed_bit, late_bit, size_byte, can_start, opened, size_is, opened_ready, opened_is, opened_attached, opened_free}
use Rattle.claims.proofs.Swap.{len_of}
use Rattle.claims.proofs.Outcome.{block_length_lem, bus_place_lem, storage_place_lem}
use Rattle.claims.proofs.SomeRuns.{enabled_new, enabled_sound, some_start as idle_start}
use Rattle.claims.proofs.Sessions.{AllFit, to, start, calls_computed, late_fall, played, ready_played}
use Rattle.claims.proofs.ScreenStart.{opens, opens_ready, opens_is, first_is, first_runs, first_left, accepted}
use Rattle.claims.proofs.ScreenRun.{shown_exchanged, shown_midway, same_count, completes, ends_high, ends_turns, second_runs}

-- ---- courses of BA

-- a stretch that is one call long would be a low call alone
courses : (t : ScreenTime) (high : ℕ → Bool) → Course high → Follows t high → TwoLow t
courses t high c on a n l touches = go (ℕ_discrete n 1)
  where
    here : high a ≡ false
    here = sym (on a) ∙ l.low a (omega arith) (omega (arith, l.some))

    none : (b : ℕ) → a ≡ b → n ≡ 1 → ⊥
    none zero q one = both_ways (high 0) (subst (λ (y : ℕ). high y ≡ false) q here) c.first
    none (suc b) q one =
        let next : a + n ≡ suc (suc b) = omega arith in
        both_ways (high (suc (suc b))) (c.pairs b (sym (on b) ∙ l.before b q) (subst (λ (y : ℕ). high y ≡ false) q here))
        (subst (λ (y : ℕ). high y ≡ true) next (sym (on (a + n)) ∙ l.behind))

    go : Dec (n ≡ 1) → 2 ≤ n
    go (yes one) = absurd (none a refl one)
    go (no ne) = omega (arith, l.some)

-- the call behind a screen's first low one is low
screens : (o : ℕ) → screen o 0 ≡ true → Course (screen o)
screens o h = record { first = h; pairs = pairs }
  where
    pairs : (i : ℕ) → screen o i ≡ true → screen o (suc i) ≡ false → screen o (suc (suc i)) ≡ false
    pairs i hi lo =
        let a = leb-true _ ((o + i) % 504) hi in
        let b = leb-false _ ((o + suc i) % 504) lo in
        lt-leb _ ((o + suc (suc i)) % 504) (omega (arith, a, b))

-- ---- there are such calls

number_of : Bool → ℕ
number_of b = cond b 1 0

flag_of : (b : Bool) → flag (number_of b) ≡ b
unfolding number_of
flag_of true = refl
flag_of false = refl

number_fits : (b : Bool) → number_of b < 2 ^ 32
unfolding number_of
number_fits true = omega arith
number_fits false = omega arith

-- calls that follow a course
along : Held → Kind → (ℕ → Bool) → ScreenTime
along k d high =
    record {
      before = k;
      start = d;
      told = λ i. record { high = number_of (high (suc i)); number = i % 2 ^ 64; low = 0; phi1 = number_of (high i) };
    }

along_follows : (k : Held) (d : Kind) (high : ℕ → Bool) → Follows (along k d high) high
unfolding along
along_follows k d high i = flag_of (high i)

along_besides : (k : Held) (d : Kind) → LateClear k → (high : ℕ → Bool) → Course high → Besides (along k d high)
unfolding along
along_besides k d late high c =
    record {
      late_clear = late;
      consecutive = λ i. omega arith;
      numbers = λ i. (number_fits (high (suc i)), mod-lt i (pow_pos 64), omega arith, number_fits (high i));
      first_high = flag_of (high 0) ∙ c.first;
      ahead = λ i. flag_of (high (suc i)) ∙ sym (flag_of (high (suc i)));
    }

some_calls : (k : Held) (d : Kind) → LateClear k → (high : ℕ → Bool) → Course high
    → (t : ScreenTime) × (t.before ≡ k) × (t.start ≡ d) × Besides t × Follows t high
unfolding along
some_calls k d late high c = (along k d high, refl, refl, along_besides k d late high c, along_follows k d high)

-- BA low at calls 1 and 2
dip : ℕ → Bool
dip zero = true
dip (suc zero) = false
dip (suc (suc zero)) = false
dip (suc (suc (suc i))) = true

dip_course : Course dip
unfolding dip
dip_course = record { first = refl; pairs = pairs }
  where
    pairs : (i : ℕ) → dip i ≡ true → dip (suc i) ≡ false → dip (suc (suc i)) ≡ false
    pairs zero h l = refl
    pairs (suc zero) h l = absurd (both_ways false refl h)
    pairs (suc (suc zero)) h l = absurd (both_ways false refl h)
    pairs (suc (suc (suc i))) h l = absurd (both_ways true l refl)

dip_high : (i : ℕ) → 3 ≤ i → dip i ≡ true
unfolding dip
dip_high zero h = absurd (omega arith)
dip_high (suc zero) h = absurd (omega arith)
dip_high (suc (suc zero)) h = absurd (omega arith)
dip_high (suc (suc (suc i))) h = refl

dip_low : (i : ℕ) → 1 ≤ i → i < 3 → dip i ≡ false
unfolding dip
dip_low zero lo hi = absurd (omega arith)
dip_low (suc zero) lo hi = refl
dip_low (suc (suc zero)) lo hi = refl
dip_low (suc (suc (suc i))) lo hi = absurd (omega arith)

dip_first : (i : ℕ) → 1 ≡ suc i → dip i ≡ true
unfolding dip
dip_first zero e = refl
dip_first (suc i) e = absurd (omega arith)

-- ---- by what the registers show

module _ (t : ScreenTime) (w : ℕ → ℕ) (st : SwapStart t.before t.start) (shown : ShownAll t.before w) where
  abbrev x : St
  x = opens t.before t.start st

  length_is : len_of x.u ≡ block_length w
  unfolding opens
  length_is =
      block_length_lem t.before x (sym (opens_is t.before t.start st)) (opens_ready t.before t.start st).sound w shown (size_set t.before)
      (sym (size_is t.before st.can))

  begins : Runs (held_at t 0) × (left (held_at t 0) ≡ block_length w)
  unfolding held_at
  begins =
      subst (λ (h : Held). Runs h × (left h ≡ block_length w)) (sym (first_is t.before t.start st))
      (first_runs t.before t.start st, first_left t.before t.start st ∙ length_is)

  swaps_by : TwoLow t → (calls : ℕ) → 2 ≤ calls → Swaps calls t w
  swaps_by tl calls two =
      record { exchanged = shown_exchanged t st tl w shown; same_count = same_count t st tl; completes = λ a n h. completes t st tl a n (omega arith); midway = shown_midway t st tl w shown }

  ends : TwoLow t → (a : ℕ) → ((i : ℕ) → a ≤ i → i < a + enough w → high_at t i ≡ true) → Ended (held_at t (a + enough w))
  ends tl a hi =
      let same : a + 2 * len_of x.u ≡ a + enough w = omega (arith, length_is) in
      subst (λ (i : ℕ). Ended (held_at t i)) same (ends_high t st tl a (λ i lo lt. hi i lo (omega (arith, same))))

  ends_in_turns : TwoLow t → (every low o : ℕ) → low + 2 ≤ every → ((i : ℕ) → turns every low o i ≡ true → high_at t i ≡ true)
      → Ended (held_at t (turns_calls every low w))
  ends_in_turns tl every low o room on =
      let same : every * (len_of x.u / ((every - low) / 2) + 2) ≡ turns_calls every low w = ap (λ (n : ℕ). every * (n / ((every - low) / 2) + 2)) length_is in
      ends_turns t st tl every low o room on (turns_calls every low w) (omega (arith, same))

  ends_on_a_screen : (o : ℕ) → screen o 0 ≡ true → Follows t (screen o) → Ended (held_at t (screen_calls w))
  ends_on_a_screen o h on = ends_in_turns (courses t (screen o) (screens o h) on) _ _ o (omega arith) (λ i hi. on i ∙ hi)

some_run : (k : Held) (d : Kind) → SwapStart k d → LateClear k → (w : ℕ → ℕ) → ShownAll k w
    → (t : ScreenTime) × (t.before ≡ k) × (t.start ≡ d) × Besides t × TwoLow t × LowStretch t 1 2 × Touches t 1 2 × Ended (held_at t (3 + enough w))
unfolding along
some_run k d st late w shown =
    let t = along k d dip in
    let on = along_follows k d dip in
    let tl : TwoLow t = courses t dip dip_course on in (
      t,
      refl,
      refl,
      along_besides k d late dip dip_course,
      tl,
      record { some = omega arith; low = λ i lo hi. on i ∙ dip_low i lo hi; before = λ i e. on i ∙ dip_first i e; behind = on 3 ∙ dip_high 3 (omega arith) },
      (1, omega arith, omega arith, second_runs t st tl (on 0 ∙ dip_course.first)),
      ends t w st shown tl 3 (λ i lo hi. on i ∙ dip_high i lo),
    )

-- ---- there are starts of both kinds

some_start : (size : ℕ) → is_size size ≡ true → (m s : List ℕ) → Memories size m s
    → let k : Held = record { image = pack_image (connected (core_set_size new_reu size)); bus = m; storage = s } in CanStart k × LateClear k
unfolding core_set_size enabled_new
some_start size h m s mem =
    let x : St = record { u = connected (core_set_size new_reu size); m = m; s = s } in
    ((idle_start size h m s mem).can, late_bit x (enabled_sound size h))

some_command : (k : Held) → CanStart k → SwapStart k (write 1 0x92)
some_command k st = record { can = st; starts = by_command (swaps refl refl refl refl); numbers = omega arith }

module _ (k : Held) (st : CanStart k) (late : LateClear k) where
  arms : St
  arms = step_of (write 1 0x82) (opened k)

  arms_ready : Ready arms
  unfolding arms
  arms_ready = ready_step (opened k) (opened_ready k st) (write 1 0x82) tt (omega arith)

  arms_is : (does (write 1 0x82) k).left ≡ held arms
  unfolding arms
  arms_is =
      ap (λ (h : Held). (does (write 1 0x82) h).left) (sym (opened_is k st))
      ∙ leaves_is (opened k) (opened_ready k st).sound (write 1 0x82) (ready_number (opened k) (opened_ready k st) (write 1 0x82) tt)

  arms_command : reg arms.u 1 ≡ 0x82
  unfolding arms write_register write_command
  arms_command = get_or-set_same (opened k).u.regs 1 0x82 0 (omega (arith, (opened_ready k st).sound.regs.len))

  arms_start : SwapStart (held arms) (other trigger_ff00)
  unfolding arms write_register write_command
  arms_start =
      record {
        can =
            can_start arms arms_ready (opened_attached k st)
            (ap (λ (v : ℕ). v / 64) (get_or-set_other (opened k).u.regs 1 10 0x82 0 (omega arith)) ∙ opened_free k st);
        starts =
            by_ff00 (record {
              armed = armed_bit arms arms_ready.sound;
              swap = ap (λ (v : ℕ). v % 4) (reg_byte arms arms_ready.sound 1 (omega arith) ∙ arms_command);
              executes = ap (λ (v : ℕ). bit v 7) (reg_byte arms arms_ready.sound 1 (omega arith) ∙ arms_command);
            });
        numbers = tt;
      }

  arms_late : LateClear (held arms)
  unfolding arms write_register write_command
  arms_late =
      late_bit arms arms_ready.sound ∙ sym (late_bit (opened k) (opened_ready k st).sound)
      ∙ ap (λ (h : Held). bit (byte h flags_byte) 7) (opened_is k st) ∙ late

  some_ff00 : SwapStart (does (write 1 0x82) k).left (other trigger_ff00) × LateClear (does (write 1 0x82) k).left
  some_ff00 = subst (λ (a : Held). SwapStart a (other trigger_ff00) × LateClear a) (sym arms_is) (arms_start, arms_late)

-- ---- R16

module _ (m s : List ℕ) (mem : Memories new_size m s) where
  abbrev six : List Kind
  six = take 6 (begin 0 0 1 0x92)

  abbrev set_up : St
  set_up = to six (start m s)

  set_up_ready : Ready set_up
  set_up_ready = ready_played m s mem six (omega arith)

  set_up_is : (r16_time m s).before ≡ held set_up
  set_up_is = played m s mem six (omega arith)

  r16_start : SwapStart (r16_time m s).before (write 1 0x92)
  unfolding calls_computed
  r16_start = some_command (r16_time m s).before (subst CanStart (sym set_up_is) (can_start set_up set_up_ready refl refl))

  r16_late : LateClear (r16_time m s).before
  unfolding calls_computed
  r16_late = ap (λ (h : Held). bit (byte h flags_byte) 7) set_up_is ∙ late_bit set_up set_up_ready.sound

  -- COMMAND's bit 7 after a script
  r16_bit : (ds : List Kind) (f : AllFit ds) → bit (byte (run m s ds) 1) 7 ≡ bit (reg (to ds (start m s)).u 1) 7
  r16_bit ds f =
      ap (λ (h : Held). bit (byte h 1) 7) (played m s mem ds f)
      ∙ ap (λ (v : ℕ). bit v 7) (reg_byte (to ds (start m s)) (ready_played m s mem ds f).sound 1 (omega arith))

  -- the block that is shown: one byte, at places 0
  module _ (w : ℕ → ℕ) (shown : ShownAll (r16_time m s).before w) where
    r16_length : block_length w ≡ 1
    unfolding calls_computed
    r16_length = sym (block_length_lem (r16_time m s).before set_up set_up_is set_up_ready.sound w shown new_size refl)

    r16_bus : 0 ≡ bus_place w 0
    unfolding calls_computed
    r16_bus = bus_place_lem (r16_time m s).before set_up set_up_is set_up_ready.sound w shown new_size refl 0

    r16_storage : 0 ≡ storage_place (size_set (r16_time m s).before) w 0
    unfolding calls_computed
    r16_storage =
        storage_place_lem (r16_time m s).before set_up set_up_is set_up_ready.sound w shown new_size refl 0
        ∙ ap (λ (q : ℕ). storage_place q w 0) (sym (ap size_set set_up_is ∙ size_byte set_up set_up_ready.sound))

  r16_shows_why : Alone m s (r16_time m s)
  unfolding held_at calls_computed
  r16_shows_why =
      record {
        start = r16_start;
        besides =
            record {
              late_clear = r16_late;
              consecutive = λ i. omega arith;
              numbers = λ i. (small (eqb i 0), mod-lt (10 + i) (pow_pos 64), omega arith, small (eqb i 1));
              first_high = refl;
              ahead = ahead;
            };
        stretch = record { some = omega arith; low = low; before = before; behind = refl };
        touches = (1, omega arith, omega arith, r16_bit (begin 0 0 1 0x92 ++ (cycle 0 10 0 1 ∷ [])) (omega arith));
        session = refl;
        ends = r16_bit (begin 0 0 1 0x92 ++ r16) (omega arith);
        bus_kept = bytes.0;
        storage_lost = bytes.1;
        not_exchanged = λ w shown ne ex. ne (
            sym (ap (λ (l : List ℕ). get_or l 0 0) bytes.0) ∙ ap (λ (j : ℕ). get_or (held_at (r16_time m s) 5).bus j 0) (r16_bus w shown)
            ∙ ex.to_bus 0 (omega (arith, r16_length w shown)) ∙ ap (λ (j : ℕ). get_or (r16_time m s).before.storage j 0) (sym (r16_storage w shown))
            ∙ ap (λ (h : Held). get_or h.storage 0 0) set_up_is);
      }
    where
      small : (b : Bool) → cond b 0 1 < 2 ^ 32
      small true = omega arith
      small false = omega arith

      ahead : (i : ℕ) → flag ((r16_time m s).told i).high ≡ high_at (r16_time m s) (suc i)
      ahead zero = refl
      ahead (suc i) = ap (λ (b : Bool). flag (cond b 0 1)) (ne_eqb (suc i) 0 (λ e. omega arith) ∙ sym (ne_eqb (suc (suc i)) 1 (λ e. omega arith)))

      low : (i : ℕ) → 1 ≤ i → i < 1 + 1 → high_at (r16_time m s) i ≡ false
      low i lo hi = let q : 1 ≡ i = omega arith in subst (λ (y : ℕ). high_at (r16_time m s) y ≡ false) q refl

      before : (i : ℕ) → 1 ≡ suc i → high_at (r16_time m s) i ≡ true
      before i e = let q : 0 ≡ i = omega arith in subst (λ (y : ℕ). high_at (r16_time m s) y ≡ true) q refl

      bytes : ((run m s (begin 0 0 1 0x92 ++ r16)).bus ≡ m) × ((run m s (begin 0 0 1 0x92 ++ r16)).storage ≡ set s 0 (get_or m 0 0))
      bytes =
          let lost = late_fall m s mem.bus_length mem.storage_size in
          let p = played m s mem (begin 0 0 1 0x92 ++ r16) (omega arith) in
          (ap (λ (h : Held). h.bus) p ∙ lost.0, ap (λ (h : Held). h.storage) p ∙ lost.1)

pub swap_on_screen : SwapOnScreen
swap_on_screen =
    record {
      requested = λ t w st besides tl shown. swaps_by t w st shown tl _ (omega arith);
      stronger = λ t w st tl shown. swaps_by t w st shown tl _ (omega arith);
      accepted = λ t i st. accepted t st i;
      begins = λ t w st shown. begins t w st shown;
      ends = λ t w st tl shown. ends t w st shown tl;
      ends_in_turns = λ t w st tl shown. ends_in_turns t w st shown tl;
      ends_on_a_screen = λ t w st shown. ends_on_a_screen t w st shown;
      screens = screens;
      courses = courses;
      some_calls = some_calls;
      some_run = some_run;
      some_start = some_start;
      some_command = some_command;
      some_ff00 = some_ff00;
      r16_shows_why = r16_shows_why;
    }
