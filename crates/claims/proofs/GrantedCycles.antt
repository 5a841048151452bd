-- The count of granted cycles holds over lists of calls: call by call, then by what the calls since the last zero add.
use Prim.Native.Nat.{ℕ, ◌+◌, ◌%◌, ◌≤◌, ◌<◌}
use native.Mathlib.Omega.{arith}
use native.Mathlib.Nat.{zero-add, add-zero, add_assoc}
use mathlib.Core.Bool.{Bool, true, false, cond, ◌&&◌}
use mathlib.Core.Logic.{◌≢◌}
use mathlib.Core.Path.{◌≡◌, refl, sym, ap, ◌∙◌}
use mathlib.Core.List.{List, [], ◌∷◌}
use lib.Dec.{eqb, leb}
use borrow.Author.Tests.{eq-eqb, ne_eqb, eqb-true, eqb-false, le-leb, leb-true, leb-false}
use Rattle.transfer.specs.Bytes.{bit}
use Rattle.transfer.proofs.Pick.{by_test}
use Rattle.controller.specs.Cycle.{most_granted, capped}
use Rattle.claims.specs.Calls.{Held, Other, new, reset, set_size, set_enabled, storage_present, capacity_bytes, trigger_ff00, dma_active, bus_action, cpu_ready, debug_register, c64_access, tick_dma, Kind, read, write, cycle, other, grant_of, Call, Fits, leaves, accepts, next, after, Each, All, count}
use Rattle.claims.specs.SwapTwice.{granted}
use Rattle.claims.specs.GrantedCycles.{number, zeroes_other, zeroes_by, zeroes, since, GrantedCycles}
use Rattle.claims.specs.SavedMachine.{OnOneImage}
use Rattle.controller.specs.Enable.{new_reu, set_size as core_set_size}
use Rattle.image.specs.Layout.{pack_image}
use Rattle.image.proofs.Sound.{Sound}
use Rattle.claims.proofs.States.{St, Good, held, step_of, number_of, good_step}
use Rattle.claims.proofs.Accepted.{without_bus, answer_is}
use Rattle.claims.proofs.Walk.{number_at, left_is}
use Rattle.claims.proofs.Look.{reg_byte, attached_bit, armed_bit, count_number}
use Rattle.claims.proofs.SavedMachine.{Holds, new_holds, accepted_holds, one_call}
use Rattle.claims.proofs.Sessions.{scripts}
use Rattle.claims.proofs.NumberLaw.{Numbers, of, after_start, read_keeps, switch_keeps, grant_keeps, tick_keeps, cycle_counts, trigger_zeroes, write_zeroes}

-- ---- one call

-- the count after a call: whether it zeroes it, its grant is Transfer
abbrev tallied : Bool → Bool → ℕ → ℕ
tallied zeroed more n = cond zeroed 0 (cond more (capped (n + 1)) n)

abbrev count_of : Numbers → ℕ
count_of p = p.0

module _ (x : St) (sound : Sound x.u) where
  abbrev now : ℕ
  now = x.u.granted_cycles

  other_step : (o : Other) → (step_of (other o) x).u.granted_cycles ≡ tallied (zeroes_other o (held x)) false now
  unfolding core_set_size
  other_step new = refl
  other_step (reset h) = refl
  other_step (set_size n) = refl
  other_step (set_enabled e) = ap count_of (switch_keeps x.u x.s _)
  other_step storage_present = refl
  other_step capacity_bytes = refl
  other_step trigger_ff00 =
      ap count_of (trigger_zeroes x.u)
      ∙ sym (λ i. (after_start (attached_bit x sound i) (armed_bit x sound i && bit (reg_byte x sound 1 (omega arith) i) 7) (of x.u)).0)
  other_step dma_active = refl
  other_step (bus_action h p n) = ap count_of (grant_keeps x.u x.s _ _ n)
  other_step (cpu_ready h) = refl
  other_step (debug_register i) = refl
  other_step c64_access = refl
  other_step (tick_dma n l) = ap count_of (tick_keeps x.u x.m x.s n _)

  kind_step : (k : Kind) → number_of k x ≡ 0 → (step_of k x).u.granted_cycles ≡ tallied (zeroes_by k (held x)) (eqb (grant_of k (held x)) 2) now
  kind_step (read a) z = ap count_of (read_keeps x.u a)
  kind_step (write a v) z =
      ap count_of (write_zeroes x.u a v) ∙ sym (ap (λ (t : Bool). (after_start t (eqb (a % 32) 1 && (bit v 7 && bit v 4)) (of x.u)).0) (attached_bit x sound))
  kind_step (cycle h n l p) z =
      ap count_of (cycle_counts x.u x.m x.s _ _ n _)
      ∙ sym (ap (λ (g : ℕ). tallied false (eqb g 2) now) (answer_is x sound (other (bus_action h p n)) (without_bus x.u _ _ z)))
  kind_step (other o) z = other_step o

-- the count in an image is its controller's
holds_number : (k : Held) (h : Holds k.image) → number k ≡ h.reu.granted_cycles
holds_number k h =
    ap (λ (i : List ℕ). number (record { image = i; bus = []; storage = [] })) h.packed
    ∙ count_number (record { u = h.reu; m = []; s = [] }) h.sound

-- the count after a call that is made: a refused one leaves it
tally : Call → ℕ → ℕ
tally c n = tallied (zeroes c) (granted c) n

one_tally : (k : Held) (c : Call) → (accepts c ≡ true → c.lent.image ≡ k.image) → Fits c → Holds k.image
    → (b : Bool) → accepts c ≡ b → number (next k c) ≡ tally c (number k)
unfolding tally
one_tally k c lent f h true ok =
    let x : St = record { u = h.reu; m = c.lent.bus; s = c.lent.storage } in
    let le : c.lent ≡ held x = λ i. record { image = (lent ok ∙ h.packed) i; bus = c.lent.bus; storage = c.lent.storage } in
    let good : Good x = record { sound = h.sound; bus = f.bus; storage = f.storage } in
    ap (λ (b : Bool). number (cond b (leaves c) k)) ok
    ∙ ap number (left_is x c h.sound ok le)
    ∙ count_number (step_of c.kind x) (good_step x good c.kind (number_at x c h.sound ok le) f.numbers).sound
    ∙ kind_step x h.sound c.kind (number_at x c h.sound ok le)
    ∙ sym (λ i. tallied (ok i && zeroes_by c.kind (le i)) (ok i && eqb (grant_of c.kind (le i)) 2) (holds_number k h i))
one_tally k c lent f h false e =
    ap (λ (b : Bool). number (cond b (leaves c) k)) e
    ∙ sym (λ i. tallied (e i && zeroes_by c.kind c.lent) (e i && eqb (grant_of c.kind c.lent) 2) (number k))

-- ---- lists of calls

tallies : List Call → ℕ → ℕ
tallies [] n = n
tallies (c ∷ cs) n = tallies cs (tally c n)

all_tallies : (cs : List Call) (k : Held) → Each (λ h c. c.lent.image ≡ h.image) k cs → All Fits cs → Holds k.image
    → number (after k cs) ≡ tallies cs (number k)
unfolding tallies
all_tallies [] k lent fits h = refl
all_tallies (c ∷ cs) k lent fits h =
    all_tallies cs (next k c) lent.1 fits.1 (one_call k c lent.0 fits.0 h (accepts c) refl)
    ∙ ap (tallies cs) (one_tally k c lent.0 fits.0 h (accepts c) refl)

-- ---- the top

at_most : (n : ℕ) → n ≤ most_granted → capped n ≡ n
at_most n h = ap (λ (b : Bool). cond b n most_granted) (le-leb n most_granted h)

at_top : (n : ℕ) → most_granted ≤ n → capped n ≡ most_granted
at_top n h = by_test (λ (m : ℕ). m ≡ most_granted) (leb n most_granted) n most_granted (λ e. omega (arith, leb-true n most_granted e)) (λ _. refl)

-- what is held at the top and counts on is held at the top
capped_again : (n : ℕ) → capped (capped n + 1) ≡ capped (n + 1)
capped_again n = go (leb n most_granted) refl
  where
    go : (b : Bool) → leb n most_granted ≡ b → capped (capped n + 1) ≡ capped (n + 1)
    go true e = ap (λ (m : ℕ). capped (m + 1)) (at_most n (leb-true n most_granted e))
    go false e =
        let over : most_granted < n = leb-false n most_granted e in
        ap (λ (m : ℕ). capped (m + 1)) (at_top n (omega (arith, over))) ∙ sym (at_top (n + 1) (omega (arith, over)))

-- ---- calls of which none zeroes the count add what is granted

-- the first of them does not
not_first : (c : Call) (cs : List Call) → count zeroes (c ∷ cs) ≡ 0 → (zeroes c ≡ false) × (count zeroes cs ≡ 0)
not_first c cs = go (zeroes c)
  where
    go : (b : Bool) → cond b 1 0 + count zeroes cs ≡ 0 → (b ≡ false) × (count zeroes cs ≡ 0)
    go true e = absurd (omega arith)
    go false e = (refl, omega arith)

adds : (cs : List Call) (n : ℕ) → count zeroes cs ≡ 0 → tallies cs (capped n) ≡ capped (n + count granted cs)
unfolding tallies tally
adds [] n z = ap capped (sym (add-zero n))
adds (c ∷ cs) n z =
    let f = not_first c cs z in
    ap (λ (b : Bool). tallies cs (tallied b (granted c) (capped n))) f.0
    ∙ ap (tallies cs) (one (granted c)) ∙ adds cs (n + cond (granted c) 1 0) f.1 ∙ ap capped (add_assoc n (cond (granted c) 1 0) (count granted cs))
  where
    one : (b : Bool) → tallied false b (capped n) ≡ capped (n + cond b 1 0)
    one true = capped_again n
    one false = ap capped (sym (add-zero n))

since_none : (cs : List Call) → count zeroes cs ≡ 0 → since cs ≡ cs
since_none [] z = refl
since_none (c ∷ cs) z = ap (λ (b : Bool). cond b (c ∷ cs) (since cs)) (eq-eqb (count zeroes (c ∷ cs)) 0 z)

-- ---- and where one does, only those behind the last of them count

counts_since : (cs : List Call) (n : ℕ) → count zeroes cs ≢ 0 → tallies cs n ≡ capped (count granted (since cs))
unfolding tallies tally
counts_since [] n some = absurd (some refl)
counts_since (c ∷ cs) n some =
    go (eqb (count zeroes cs) 0) refl (counts_since cs (tallied (zeroes c) (granted c) n))
    ∙ ap (λ (b : Bool). capped (count granted (cond b (c ∷ cs) (since cs)))) (sym (ne_eqb (count zeroes (c ∷ cs)) 0 some))
  where
    first : count zeroes cs ≡ 0 → zeroes c ≡ true
    first z = pick (zeroes c) some
      where
        pick : (b : Bool) → cond b 1 0 + count zeroes cs ≢ 0 → b ≡ true
        pick true h = refl
        pick false h = absurd (h (omega (arith, z)))

    go : (b : Bool) → eqb (count zeroes cs) 0 ≡ b → (count zeroes cs ≢ 0 → tallies cs (tallied (zeroes c) (granted c) n) ≡ capped (count granted (since cs)))
        → tallies cs (tallied (zeroes c) (granted c) n) ≡ capped (count granted (since cs))
    go true e rest =
        let z = eqb-true (count zeroes cs) 0 e in
        ap (λ (b : Bool). tallies cs (tallied b (granted c) n)) (first z) ∙ adds cs 0 z
        ∙ ap capped (zero-add (count granted cs)) ∙ ap (λ (l : List Call). capped (count granted l)) (sym (since_none cs z))
    go false e rest = rest (eqb-false (count zeroes cs) 0 e)

-- ---- the claim

module _ (k : Held) (calls : List Call) (l : OnOneImage k calls) (h : Holds k.image) where
  all : number (after k calls) ≡ tallies calls (number k)
  all = all_tallies calls k l.lent l.fits h

  goes_on : count zeroes calls ≡ 0 → number k ≤ most_granted → number (after k calls) ≡ capped (number k + count granted calls)
  goes_on z fits = all ∙ ap (tallies calls) (sym (at_most (number k) fits)) ∙ adds calls (number k) z

  anew : count zeroes calls ≢ 0 → number (after k calls) ≡ capped (count granted (since calls))
  anew some = all ∙ counts_since calls (number k) some

-- the number of a sound controller's image has 32 bits
small : (k : Held) → Holds k.image → number k ≤ most_granted
small k h = omega (arith, holds_number k h, h.sound.granted)

counts : (k : Held) (calls : List Call) → k.image ≡ pack_image new_reu → OnOneImage k calls
    → number (after k calls) ≡ capped (count granted (since calls))
counts k calls e l = go (eqb (count zeroes calls) 0) refl
  where
    h : Holds k.image
    h = new_holds k.image e

    go : (b : Bool) → eqb (count zeroes calls) 0 ≡ b → number (after k calls) ≡ capped (count granted (since calls))
    go true t =
        let z = eqb-true (count zeroes calls) 0 t in
        goes_on k calls l h z (small k h)
        ∙ ap (λ (n : ℕ). capped (n + count granted calls)) (holds_number k h) ∙ ap capped (zero-add (count granted calls))
        ∙ ap (λ (cs : List Call). capped (count granted cs)) (sym (since_none calls z))
    go false t = anew k calls l h (eqb-false (count zeroes calls) 0 t)

pub granted_cycles : GrantedCycles
granted_cycles =
    record {
      counts = counts;
      below = λ k calls e l top. counts k calls e l ∙ at_most (count granted (since calls)) top;
      goes_on = λ k calls b ok l z. let h = accepted_holds k.image b ok in goes_on k calls l h z (small k h);
      anew = λ k calls b ok l some. anew k calls l (accepted_holds k.image b ok) some;
      stays = λ k calls b ok l z top.
          let h = accepted_holds k.image b ok in
          goes_on k calls l h z (small k h) ∙ at_top (number k + count granted calls) (omega (arith, top));
      some = scripts;
    }
