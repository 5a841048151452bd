-- What runs A and B come to, from any two starts.
use Prim.Native.Nat.{ℕ, ◌+◌, ◌*◌, ◌/◌, ◌%◌, ◌^◌, ◌≤◌}
use mathlib.Core.Bool.{true}
use mathlib.Core.Path.{◌≡◌, refl, sym, ap, ◌∙◌, subst, subst₂, subst₃, fun_ext}
use mathlib.Core.Logic.{◌≢◌}
use mathlib.Core.List.{List, [], ◌∷◌, ◌++◌, append-nil}
use lib.ListN.{length}
use native.Mathlib.Omega.{arith}
use Rattle.std.specs.Prelude.{None}
use Rattle.transfer.specs.Bytes.{word, long}
use Rattle.controller.specs.Reu.{reg}
use Rattle.transfer.specs.Dma.{length_of}
use Rattle.transfer.specs.Memory.{lines}
use Rattle.transfer.proofs.Sizes.{size_lines, fold_fold}
use Rattle.claims.specs.Calls.{Held, Kind, read, cycle, NumbersFit, Call, leaves, accepts, next, after, Each, count}
use Rattle.claims.specs.SwapTwice.{size_set, IsIdle, Start, Step, cycles, reads, writes, AnyStep, NoWrite, register, wrote, granted, High, Run, OfBlock, Shown, ShownAll, bus_place, storage_place, block_length, Exchanged, SwapsAtOnce, Rewrites, Ended, OnceEnded, Swap, Parts, list_of, at_start, at_restart, RunA, RunB, EndsAt, Outcome}
use Rattle.claims.specs.SwapOnScreen.{Midway}
use Rattle.image.proofs.Sound.{Sound}
use Rattle.claims.proofs.RegisterLaw.{read_law, Value, pair_done}
use Rattle.claims.proofs.Places.{on_bus, on_storage}
use Rattle.claims.proofs.Exchange.{Exch, Part, exch_twice}
use Rattle.claims.proofs.States.{St, Good, held, on, step_of, number_of, keeps_size, good_step, Ready, ready_of, good_of}
use Rattle.claims.proofs.Accepted.{leaves_is}
use Rattle.claims.proofs.Walk.{after_append, each_left, each_right, each_both, each_of_all, widen, At, each_at, number_at, next_is, Walked, walk}
use Rattle.claims.proofs.Look.{idle_byte, shown_value, Idling, opened, size_is, opened_ready, opened_is, opened_idling}
use Rattle.claims.proofs.Swap.{Allowed, idle_high, c64_of, exp_of, len_of, Swapping, SwapFrom, OverFrom, over_from, ended_from, step_from, begins}

-- ---- what is known of each call, joined

abbrev HighAt : Held → Call → Type 0
HighAt h c = High c.kind

high_at : (k : Held) (calls : List Call) → Run k calls → Each (At HighAt) k calls
high_at k calls r = each_at HighAt k calls r.threaded r.high

-- one more fact of each call
joined : (P Q R : Held → Call → Type 0) → ((h : Held) (c : Call) → P h c → Q h c → R h c) → (k : Held) (cs : List Call)
    → Each (At P) k cs → Each Q k cs → Each (At R) k cs
joined P Q R f = each_both (At P) Q (At R) (λ h c a b. record { lent = a.lent; numbers = a.numbers; holds = f h c a.holds b })

-- ---- idle stretches

-- reads and cycles change no byte, not the size, and nothing by which a command starts
abbrev Resting : List ℕ → List ℕ → ℕ → ℕ → (ℕ → ℕ) → St → Type 0
Resting m s n k g x = Idling x × (x.m ≡ m) × (x.s ≡ s) × (x.u.size ≡ n)

abbrev RestingCall : Held → Call → Type 0
RestingCall h c = High c.kind × Step (Unit {0}) NoWrite c.kind

rest : (m s : List ℕ) (n : ℕ) (x : St) {d : Kind} → High d → Step (Unit {0}) NoWrite d → Resting m s n 0 (λ r. 0) x → Resting m s n 0 (λ r. 0) (step_of d x)
rest m s z x hi (reads {address = a} any) r =
    let ke = read_law x.u a in
    (record { idle = ke.dma ∙ r.0.idle; attached = ke.attached ∙ r.0.attached; free = ap (λ (v : ℕ). v / 64) (ke.regs 10 (omega arith)) ∙ r.0.free }, r.1, r.2, keeps_size (read a) x tt ∙ r.3)
rest m s z x hi (cycles {high = h} {number = n} {low = l} {phi1 = p}) r =
    let st = idle_high x h n l p hi r.0.idle in (
      record { idle = st.kept.dma; attached = st.kept.attached ∙ r.0.attached; free = ap (λ (v : ℕ). v / 64) (st.kept.regs 10 (omega arith)) ∙ r.0.free },
      st.bus ∙ r.1,
      st.storage ∙ r.2,
      keeps_size (cycle h n l p) x tt ∙ r.3,
    )
rest m s z x hi (writes none) r = absurd none

-- whatever run B writes, it stays idle, and no byte changes
abbrev StillIdle : List ℕ → List ℕ → ℕ → (ℕ → ℕ) → St → Type 0
StillIdle m s k g x = (x.u.dma ≡ None) × (x.m ≡ m) × (x.s ≡ s)

abbrev IdleCall : Held → Call → Type 0
IdleCall h c = High c.kind × AnyStep c.kind × IsIdle (leaves c)

same_bytes : (x : St) {d : Kind} → High d → AnyStep d → x.u.dma ≡ None → ((step_of d x).m ≡ x.m) × ((step_of d x).s ≡ x.s)
same_bytes x hi (reads any) e = (refl, refl)
same_bytes x hi (writes any) e = (refl, refl)
same_bytes x hi (cycles {high = h} {number = n} {low = l} {phi1 = p}) e = let st = idle_high x h n l p hi e in (st.bus, st.storage)

still_idle : (m s : List ℕ) (x : St) (d : Kind) → Good x → number_of d x ≡ 0 → NumbersFit d → IdleCall (held x) (on x d) → StillIdle m s 0 (λ r. 0) x → StillIdle m s 0 (λ r. 0) (step_of d x)
still_idle m s x d good z fi c r =
    let b = same_bytes x c.0 c.1 r.0 in
    (idle_byte (step_of d x) (good_step x good d z fi).sound (subst IsIdle (leaves_is x good.sound d z) c.2), b.0 ∙ r.1, b.1 ∙ r.2)

-- ---- one swap, and the calls up to the next start

record FromStart (k : Held) (x : St) (c : Call) (cs : List Call) : Type 0 where
  same : k ≡ held x
  ready : Ready x
  idling : Idling x
  ok : accepts c ≡ true
  swaps : SwapsAtOnce c.kind
  lent : c.lent ≡ k
  numbers : NumbersFit c.kind
  calls : Each (At (Swapping x)) (next k c) cs

-- a swap of a run, from a state whose registers W goes by
from_start : (W : ℕ → ℕ → Type 0) (k : Held) (x : St) (c : Call) (cs : List Call) → k ≡ held x → Ready x → Idling x
    → ((d v : ℕ) → W d v → Allowed (reg x.u) d v) → Each (At HighAt) k (c ∷ cs) → Swap W k c cs → FromStart k x c cs
from_start W k x c cs e ready idling f high sw =
    let a = high.0 sw.accepted in
    record {
      same = e;
      ready = ready;
      idling = idling;
      ok = sw.accepted;
      swaps = sw.starts;
      lent = a.lent;
      numbers = a.numbers;
      calls =
          joined HighAt (OnceEnded W) (Swapping x) (λ h d hi q. (hi, widen (λ en. en) (λ t v r. (r.0, f t v r.1)) q)) (next k c) cs high.1 sw.then;
    }

module _ (k : Held) (x : St) (c : Call) (cs : List Call) (f : FromStart k x c cs) where
  -- where the first calls of the list lead
  record Reached (done : List Call) : Type 0 where
    to : St
    same : after (next k c) done ≡ held to
    good : Good to
    inv : SwapFrom x f.ready (count granted done + 0) (λ r. count (wrote r) done + 0) to

  reached : (done left : List Call) → cs ≡ done ++ left → Reached done
  reached done left split =
      let begun : next k c ≡ held (step_of c.kind x) = ap (λ (h : Held). next h c) f.same ∙ next_is x c f.ready.sound f.ok (f.lent ∙ f.same) in
      let w = walk (SwapFrom x f.ready) (Swapping x) (λ j g y d good. step_from x f.ready j g y d good.sound) done (step_of c.kind x) 0 (λ r. 0)
      (good_step x (good_of x f.ready) c.kind (number_at x c f.ready.sound f.ok (f.lent ∙ f.same)) f.numbers) (begins x f.ready f.idling f.swaps)
      (each_left (At (Swapping x)) (held (step_of c.kind x)) done left
      (subst₂ (λ (h : Held) (l : List Call). Each (At (Swapping x)) h l) begun split f.calls)) in
      record { to = w.to; same = ap (λ (h : Held). after h done) begun ∙ w.same; good = w.good; inv = w.inv }

  over_at : (done : List Call) (r : Reached done) → Ended (after (next k c) done)
      → OverFrom x f.ready (count granted done + 0) (λ q. count (wrote q) done + 0) r.to
  over_at done r en =
      over_from x f.ready (count granted done + 0) (λ q. count (wrote q) done + 0) r.to r.good.sound r.inv (subst Ended r.same en)

  ends_at : (n : ℕ) → len_of x.u ≡ n → EndsAt n k c cs
  ends_at n e done left split =
      let r = reached done left split in (
        (λ en. let o = over_at done r en in omega (arith, o.total)),
        (λ q. subst Ended (sym r.same)
            (ended_from x f.ready (count granted done + 0) (λ j. count (wrote j) done + 0) r.to r.good.sound r.inv (omega arith))),
      )

  -- the whole list
  last_of : Reached cs
  last_of = reached cs [] (sym (append-nil cs))

-- ---- the block that is shown

-- the upper five bits of the bank make no difference, with at most 19 lines
same_places : (lines e e' lo hi b b' : ℕ) → lines ≤ 19 → b' % 8 ≡ b % 8 → e ≡ long lo hi b → e' ≡ long lo hi b' → (i : ℕ)
    → on_storage lines e' i ≡ on_storage lines e i
same_places lines e e' lo hi b b' h q p p' i =
    let same : (e' + i) % 524288 ≡ (e + i) % 524288 = omega arith in
    sym (fold_fold (e' + i) lines 19 h) ∙ ap (λ (n : ℕ). n % 2 ^ lines) same ∙ fold_fold (e + i) lines 19 h

module _ (k : Held) (x : St) (e : k ≡ held x) (sound : Sound x.u) (w : ℕ → ℕ) (shown : ShownAll k w) (size : ℕ) (set : x.u.size ≡ size) where
  value : (r : ℕ) → OfBlock r → Value (reg x.u) r (w r)
  value r b = shown_value x sound r (w r) b (subst (λ (h : Held). Shown h r (w r)) e (shown r b))

  shows : (r : ℕ) → OfBlock r → r ≢ 6 → w r ≡ reg x.u r
  shows r b ne = (value r b).1 ne

  pub bus_place_lem : (i : ℕ) → on_bus (c64_of x.u) i ≡ bus_place w i
  bus_place_lem i = omega (arith, shows 2 (omega arith) (omega arith), shows 3 (omega arith) (omega arith))

  pub storage_place_lem : (i : ℕ) → on_storage (lines x.u.size) (exp_of x.u) i ≡ storage_place size w i
  storage_place_lem i =
      sym (same_places (lines x.u.size) (exp_of x.u) (long (w 4) (w 5) (w 6)) (reg x.u 4) (reg x.u 5) (reg x.u 6) (w 6)
      (size_lines x.u.size sound.size).most (value 6 (omega arith)).0 refl
      (λ j. long (shows 4 (omega arith) (omega arith) j) (shows 5 (omega arith) (omega arith) j) (w 6)) i)
      ∙ ap (λ (n : ℕ). storage_place n w i) set

  pub block_length_lem : len_of x.u ≡ block_length w
  unfolding length_of
  block_length_lem =
      let q : word (reg x.u 7) (reg x.u 8) ≡ w 7 + 256 * w 8
      = omega (arith, shows 7 (omega arith) (omega arith), shows 8 (omega arith) (omega arith)) in
      ap length_of q

  places_are : (P : (C E : ℕ → ℕ) (n : ℕ) → Type 0) → P (on_bus (c64_of x.u)) (on_storage (lines x.u.size) (exp_of x.u)) (len_of x.u)
      → P (bus_place w) (storage_place size w) (block_length w)
  places_are P h = subst₃ P (fun_ext bus_place_lem) (fun_ext storage_place_lem) block_length_lem h

  pub shown_block : (a b : Held) → size_set a ≡ size
      → Exch (on_bus (c64_of x.u)) (on_storage (lines x.u.size) (exp_of x.u)) (len_of x.u) a.bus a.storage b.bus b.storage
      → Exchanged w a b
  shown_block a b same ex =
      let f : Exch (bus_place w) (storage_place (size_set a) w) (block_length w) a.bus a.storage b.bus b.storage
      = subst (λ (q : ℕ). Exch (bus_place w) (storage_place q w) (block_length w) a.bus a.storage b.bus b.storage) (sym same)
      (places_are (λ (C E : ℕ → ℕ) (n : ℕ). Exch C E n a.bus a.storage b.bus b.storage) ex) in
      record { to_bus = f.to_bus; to_storage = f.to_storage; other_bus = f.other_bus; other_storage = f.other_storage; bus_length = f.bus_length; storage_size = f.storage_size }

  pub shown_part : (d : ℕ) (a b : Held) → size_set a ≡ size
      → Part (on_bus (c64_of x.u)) (on_storage (lines x.u.size) (exp_of x.u)) d (len_of x.u) a.bus a.storage b.bus b.storage
      → Midway d w a b
  shown_part d a b same part =
      let f : Part (bus_place w) (storage_place (size_set a) w) d (block_length w) a.bus a.storage b.bus b.storage
      = subst (λ (q : ℕ). Part (bus_place w) (storage_place q w) d (block_length w) a.bus a.storage b.bus b.storage) (sym same)
      (places_are (λ (C E : ℕ → ℕ) (n : ℕ). Part C E d n a.bus a.storage b.bus b.storage) part) in
      record { to_bus = f.to_bus; to_storage = f.to_storage; other_bus = f.other_bus; other_storage = f.other_storage; next = f.next }

-- ---- run A

module _ (a : Held) (p : Parts) (sa : Start a) (ra : RunA a p) where
  abbrev after_start : List Call
  after_start = p.middle ++ (p.restart ∷ p.last)

  all_high : Each (At HighAt) a (list_of p)
  all_high = high_at a (list_of p) ra.run

  high_tail : Each (At HighAt) (at_start a p) (p.start ∷ after_start)
  high_tail = each_right (At HighAt) a p.before (p.start ∷ after_start) all_high

  high_last : Each (At HighAt) (at_restart a p) (p.restart ∷ p.last)
  high_last = each_right (At HighAt) (next (at_start a p) p.start) p.middle (p.restart ∷ p.last) high_tail.1

  -- up to the first start
  first_part : Walked (Resting a.bus a.storage (opened a).u.size) RestingCall (λ k g x d good z fi c r. rest a.bus a.storage (opened a).u.size x c.0 c.1 r) (opened a) p.before 0 (λ r. 0)
  first_part =
      walk (Resting a.bus a.storage (opened a).u.size) RestingCall (λ k g x d good z fi c r. rest a.bus a.storage (opened a).u.size x c.0 c.1 r) p.before (opened a) 0 (λ r. 0)
      (good_of (opened a) (opened_ready a sa.can)) (opened_idling a sa, refl, refl, refl)
      (subst (λ (h : Held). Each (At RestingCall) h p.before) (sym (opened_is a sa.can))
      (joined HighAt (λ h c. Step (Unit {0}) NoWrite c.kind) RestingCall (λ h c hi q. (hi, q)) a p.before
      (each_left (At HighAt) a p.before (p.start ∷ after_start) all_high) ra.before))

  x₁ : St
  x₁ = first_part.to

  bus₁ : x₁.m ≡ a.bus
  unfolding x₁
  bus₁ = first_part.inv.1

  storage₁ : x₁.s ≡ a.storage
  unfolding x₁
  storage₁ = first_part.inv.2

  size₁ : x₁.u.size ≡ size_set a
  unfolding x₁
  size₁ = first_part.inv.3 ∙ sym (size_is a sa.can)

  start_is : at_start a p ≡ held x₁
  unfolding x₁
  start_is = ap (λ (h : Held). after h p.before) (sym (opened_is a sa.can)) ∙ first_part.same

  good₁ : Good x₁
  unfolding x₁
  good₁ = first_part.good

  ready₁ : Ready x₁
  ready₁ = ready_of x₁ good₁ (ap length bus₁ ∙ sa.can.memories.bus_length) (ap length storage₁ ∙ sa.can.memories.storage_size ∙ sym size₁)

  idling₁ : Idling x₁
  unfolding x₁
  idling₁ = first_part.inv.0

  first_swap : FromStart (at_start a p) x₁ p.start p.middle
  first_swap =
      from_start (Rewrites (at_start a p)) (at_start a p) x₁ p.start p.middle start_is ready₁ idling₁
      (λ d v r. (r.0, shown_value x₁ good₁.sound (register d) v r.0 (subst (λ (h : Held). Shown h (register d) v) start_is r.1)))
      (each_left (At HighAt) (at_start a p) (p.start ∷ p.middle) (p.restart ∷ p.last) high_tail) ra.first

  middle_part : Reached (at_start a p) x₁ p.start p.middle first_swap p.middle
  middle_part = last_of (at_start a p) x₁ p.start p.middle first_swap

  x₃ : St
  x₃ = middle_part.to

  middle_over : OverFrom x₁ first_swap.ready (count granted p.middle + 0) (λ q. count (wrote q) p.middle + 0) x₃
  unfolding x₃
  middle_over = over_at (at_start a p) x₁ p.start p.middle first_swap p.middle middle_part ra.first.ends

  size₃ : x₃.u.size ≡ x₁.u.size
  unfolding x₃
  size₃ = middle_part.inv.1

  -- the registers show the same block again
  once : (r : ℕ) → OfBlock r → count (wrote r) p.middle + 0 ≡ 1
  once r b = omega (arith, ra.each_once r b)

  c64_again : c64_of x₃.u ≡ c64_of x₁.u
  c64_again =
      let d = pair_done middle_over.rewritten.c64 (once 2 (omega arith)) (once 3 (omega arith)) in
      λ i. word (d.0 i) (d.1 i)

  len_again : len_of x₃.u ≡ len_of x₁.u
  len_again =
      let d = pair_done middle_over.rewritten.len (once 7 (omega arith)) (once 8 (omega arith)) in
      λ i. length_of (word (d.0 i) (d.1 i))

  exp_again : (i : ℕ) → on_storage (lines x₃.u.size) (exp_of x₃.u) i ≡ on_storage (lines x₁.u.size) (exp_of x₁.u) i
  exp_again i =
      let d = pair_done middle_over.rewritten.exp (once 4 (omega arith)) (once 5 (omega arith)) in
      ap (λ (n : ℕ). on_storage (lines n) (exp_of x₃.u) i) size₃
      ∙ same_places (lines x₁.u.size) (exp_of x₁.u) (exp_of x₃.u) (reg x₁.u 4) (reg x₁.u 5) (reg x₁.u 6) (reg x₃.u 6)
      (size_lines x₁.u.size good₁.sound.size).most (middle_over.rewritten.bank (omega (arith, once 6 (omega arith)))) refl (λ j. long (d.0 j) (d.1 j) (reg x₃.u 6)) i

  ready₃ : Ready x₃
  unfolding x₃
  ready₃ =
      ready_of x₃ middle_part.good (middle_over.exch.bus_length ∙ ready₁.bus.size) (middle_over.exch.storage_size ∙ ready₁.storage.size ∙ sym size₃)

  -- the second swap
  second_swap : FromStart (at_restart a p) x₃ p.restart p.last
  unfolding x₃
  second_swap =
      from_start NoWrite (at_restart a p) x₃ p.restart p.last middle_part.same
      ready₃
      (record { idle = middle_over.quiet.idle; attached = middle_over.quiet.attached; free = middle_over.free })
      (λ d v none. absurd none) high_last ra.second

  last_part : Reached (at_restart a p) x₃ p.restart p.last second_swap p.last
  last_part = last_of (at_restart a p) x₃ p.restart p.last second_swap

  back : (last_part.to.m ≡ x₁.m) × (last_part.to.s ≡ x₁.s)
  back =
      exch_twice (on_bus (c64_of x₁.u)) (on_storage (lines x₁.u.size) (exp_of x₁.u)) (len_of x₁.u) x₁.m x₁.s x₃.m x₃.s last_part.to.m last_part.to.s
      middle_over.exch
      (subst₃ (λ (C E : ℕ → ℕ) (n : ℕ). Exch C E n x₃.m x₃.s last_part.to.m last_part.to.s)
      (ap on_bus c64_again) (fun_ext exp_again) len_again
      (over_at (at_restart a p) x₃ p.restart p.last second_swap p.last last_part ra.second.ends).exch)

  whole_is : after a (list_of p) ≡ held last_part.to
  whole_is = after_append a p.before (p.start ∷ after_start) ∙ after_append (next (at_start a p) p.start) p.middle (p.restart ∷ p.last) ∙ last_part.same

  bus_back : (after a (list_of p)).bus ≡ a.bus
  bus_back = ap (λ (h : Held). h.bus) whole_is ∙ back.0 ∙ bus₁

  storage_back : (after a (list_of p)).storage ≡ a.storage
  storage_back = ap (λ (h : Held). h.storage) whole_is ∙ back.1 ∙ storage₁

  module _ (w : ℕ → ℕ) (shown : ShownAll (at_start a p) w) where
    exchanged : (done left : List Call) → p.middle ≡ done ++ left → Ended (after (next (at_start a p) p.start) done) → Exchanged w a (after (next (at_start a p) p.start) done)
    exchanged done left split en =
        let r = reached (at_start a p) x₁ p.start p.middle first_swap done left split in
        let ex = (over_at (at_start a p) x₁ p.start p.middle first_swap done r en).exch in
        subst (Exchanged w a) (sym r.same)
        (shown_block (at_start a p) x₁ start_is good₁.sound w shown (size_set a) size₁ a (held r.to) refl
        (subst₂ (λ (m s : List ℕ). Exch (on_bus (c64_of x₁.u)) (on_storage (lines x₁.u.size) (exp_of x₁.u)) (len_of x₁.u) m s r.to.m r.to.s) bus₁ storage₁ ex))

    length_is : len_of x₁.u ≡ block_length w
    length_is = block_length_lem (at_start a p) x₁ start_is good₁.sound w shown (size_set a) size₁

    first_length : EndsAt (block_length w) (at_start a p) p.start p.middle
    first_length = ends_at (at_start a p) x₁ p.start p.middle first_swap (block_length w) length_is

    second_length : EndsAt (block_length w) (at_restart a p) p.restart p.last
    second_length = ends_at (at_restart a p) x₃ p.restart p.last second_swap (block_length w) (len_again ∙ length_is)

-- ---- run B

module _ (b : Held) (calls : List Call) (sb : Start b) (rb : RunB b calls) where
  idle_part : Walked (StillIdle b.bus b.storage) IdleCall (λ k g x d good z fi c r. still_idle b.bus b.storage x d good z fi c r) (opened b) calls 0 (λ r. 0)
  idle_part =
      walk (StillIdle b.bus b.storage) IdleCall (λ k g x d good z fi c r. still_idle b.bus b.storage x d good z fi c r) calls (opened b) 0 (λ r. 0)
      (good_of (opened b) (opened_ready b sb.can)) ((opened_idling b sb).idle, refl, refl)
      (subst (λ (h : Held). Each (At IdleCall) h calls) (sym (opened_is b sb.can))
      (joined (λ h c. High c.kind × AnyStep c.kind) (λ h c. IsIdle (leaves c)) IdleCall (λ h c q i. (q.0, q.1, i)) b calls
      (joined HighAt (λ h c. AnyStep c.kind) (λ h c. High c.kind × AnyStep c.kind) (λ h c hi q. (hi, q)) b calls
      (high_at b calls rb.run) (each_of_all (λ c. AnyStep c.kind) b calls rb.run.kinds))
      rb.stays_idle))

  idle_is : after b calls ≡ held idle_part.to
  idle_is = ap (λ (h : Held). after h calls) (sym (opened_is b sb.can)) ∙ idle_part.same

  bus_kept : (after b calls).bus ≡ b.bus
  bus_kept = ap (λ (h : Held). h.bus) idle_is ∙ idle_part.inv.1

  storage_kept : (after b calls).storage ≡ b.storage
  storage_kept = ap (λ (h : Held). h.storage) idle_is ∙ idle_part.inv.2

-- ---- both

pub outcome : (a b : Held) (p : Parts) (calls : List Call) → Start a → Start b → a.bus ≡ b.bus → a.storage ≡ b.storage
    → RunA a p → RunB b calls → (w : ℕ → ℕ) → ShownAll (at_start a p) w → Outcome w a p b calls
outcome a b p calls sa sb eb es ra rb w shown =
    record {
      exchanged = exchanged a p sa ra w shown;
      first_length = first_length a p sa ra w shown;
      second_length = second_length a p sa ra w shown;
      same_bus = bus_back a p sa ra ∙ eb ∙ sym (bus_kept b calls sb rb);
      same_storage = storage_back a p sa ra ∙ es ∙ sym (storage_kept b calls sb rb);
    }
