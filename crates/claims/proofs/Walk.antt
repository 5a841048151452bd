-- An invariant of the controller's state, carried along a list of calls, with the counts of granted cycles and of writes.
use Prim.Native.Nat.{ℕ, ◌+◌}
use native.Mathlib.Nat.{zero-add}
use mathlib.Core.Bool.{Bool, true, false, cond, ◌&&◌}
use mathlib.Core.Path.{◌≡◌, refl, sym, ap, ◌∙◌, subst, fun_ext}
use mathlib.Core.List.{List, [], ◌∷◌, ◌++◌}
use lib.Dec.{eqb}
use native.Mathlib.Omega.{arith}
use Rattle.transfer.specs.Bytes.{bit_of}
use Rattle.claims.specs.Calls.{Held, Kind, NumbersFit, does, grant_of, Call, Fits, leaves, accepts, next, after, Each, All, count, Threaded}
use Rattle.claims.specs.SwapTwice.{Step, cycles, reads, writes, writes_to, wrote, granted}
use Rattle.image.proofs.Sound.{Sound}
use Rattle.claims.proofs.States.{St, Good, held, on, step_of, number_of, good_step}
use Rattle.claims.proofs.Accepted.{accepted_number, leaves_is}

-- ---- lists of calls in parts

pub after_append : (k : Held) (p q : List Call) → after k (p ++ q) ≡ after (after k p) q
after_append k [] q = refl
after_append k (c ∷ p) q = after_append (next k c) p q

pub each_left : (P : Held → Call → Type 0) (k : Held) (p q : List Call) → Each P k (p ++ q) → Each P k p
each_left P k [] q h = tt
each_left P k (c ∷ p) q h = (h.0, each_left P (next k c) p q h.1)

pub each_right : (P : Held → Call → Type 0) (k : Held) (p q : List Call) → Each P k (p ++ q) → Each P (after k p) q
each_right P k [] q h = h
each_right P k (c ∷ p) q h = each_right P (next k c) p q h.1

pub each_both : (P Q R : Held → Call → Type 0) → ((h : Held) (c : Call) → P h c → Q h c → R h c) → (k : Held) (cs : List Call)
    → Each P k cs → Each Q k cs → Each R k cs
each_both P Q R f k [] a b = tt
each_both P Q R f k (c ∷ cs) a b = ((λ e. f k c (a.0 e) (b.0 e)), each_both P Q R f (next k c) cs a.1 b.1)

pub each_of_all : (P : Call → Type 0) (k : Held) (cs : List Call) → All P cs → Each (λ h c. P c) k cs
each_of_all P k [] a = tt
each_of_all P k (c ∷ cs) a = ((λ e. a.0), each_of_all P (next k c) cs a.1)

-- what is allowed, allowed otherwise
pub widen : {Q R : Type 0} {U W : ℕ → ℕ → Type 0} → (Q → R) → ((a v : ℕ) → U a v → W a v) → {k : Kind} → Step Q U k → Step R W k
widen f g cycles = cycles
widen f g (reads h) = reads (f h)
widen f g (writes {address = a} {value = v} h) = writes (g a v h)

-- ---- what is known of an accepted call: it is lent what is held, its numbers fit, and P

pub record At (P : Held → Call → Type 0) (h : Held) (c : Call) : Type 0 where
  pub lent : c.lent ≡ h
  pub numbers : NumbersFit c.kind
  pub holds : P h c

pub each_at : (P : Held → Call → Type 0) (k : Held) (cs : List Call) → Threaded k cs → Each P k cs → Each (At P) k cs
each_at P k cs t e =
    each_both (λ h c. (c.lent ≡ h) × NumbersFit c.kind) P (At P) (λ h c a b. record { lent = a.0; numbers = a.1; holds = b }) k cs
    (each_both (λ h c. c.lent ≡ h) (λ h c. Fits c) (λ h c. (c.lent ≡ h) × NumbersFit c.kind) (λ h c a b. (a, b.numbers)) k cs
    t.lent (each_of_all Fits k cs t.fits))
    e

-- ---- the next state

pub number_at : (x : St) (c : Call) → Sound x.u → accepts c ≡ true → c.lent ≡ held x → number_of c.kind x ≡ 0
number_at x c sound ok le =
    accepted_number x sound c.kind (ap (λ (h : Held). accepts (record { kind = c.kind; lent = h })) (sym le) ∙ ok)

pub left_is : (x : St) (c : Call) → Sound x.u → accepts c ≡ true → c.lent ≡ held x → leaves c ≡ held (step_of c.kind x)
left_is x c sound ok le = (λ i. (does c.kind (le i)).left) ∙ leaves_is x sound c.kind (number_at x c sound ok le)

pub next_is : (x : St) (c : Call) → Sound x.u → accepts c ≡ true → c.lent ≡ held x → next (held x) c ≡ held (step_of c.kind x)
next_is x c sound ok le = ap (λ (b : Bool). cond b (leaves c) (held x)) ok ∙ left_is x c sound ok le

-- what is counted of an accepted call that is lent what is held, and of a refused one
granted_at : (x : St) (c : Call) → accepts c ≡ true → c.lent ≡ held x → bit_of (granted c) ≡ bit_of (eqb (grant_of c.kind (held x)) 2)
granted_at x c ok le = λ i. bit_of (ok i && eqb (grant_of c.kind (le i)) 2)

pub written_at : (r : ℕ) (c : Call) → accepts c ≡ true → bit_of (wrote r c) ≡ bit_of (writes_to r c.kind)
written_at r c ok = λ i. bit_of (ok i && writes_to r c.kind)

refused_granted : (c : Call) → accepts c ≡ false → bit_of (granted c) ≡ 0
refused_granted c e = λ i. bit_of (e i && eqb (grant_of c.kind c.lent) 2)

refused_written : (r : ℕ) (c : Call) → accepts c ≡ false → bit_of (wrote r c) ≡ 0
refused_written r c e = λ i. bit_of (e i && writes_to r c.kind)

-- ---- the walk

module _ (I : ℕ → (ℕ → ℕ) → St → Type 0) (P : Held → Call → Type 0)
    (step : (k : ℕ) (g : ℕ → ℕ) (x : St) (d : Kind) → Good x → number_of d x ≡ 0 → NumbersFit d → P (held x) (on x d) → I k g x
    → I (bit_of (eqb (grant_of d (held x)) 2) + k) (λ r. bit_of (writes_to r d) + g r) (step_of d x)) where
  -- where a list of calls leads
  pub record Walked (x : St) (cs : List Call) (k : ℕ) (g : ℕ → ℕ) : Type 0 where
    pub to : St
    pub same : after (held x) cs ≡ held to
    pub good : Good to
    pub inv : I (count granted cs + k) (λ r. count (wrote r) cs + g r) to

  adjust : (k k' : ℕ) (g g' : ℕ → ℕ) (x : St) → k ≡ k' → ((r : ℕ) → g r ≡ g' r) → I k g x → I k' g' x
  adjust k k' g g' x e f h = subst (λ (j : ℕ). I j g' x) e (subst (λ (j : ℕ → ℕ). I k j x) (fun_ext f) h)

  -- one call before the others: d is counted as granted, f r as a write to r
  before : (x y : St) (c : Call) (cs : List Call) (k d : ℕ) (g f : ℕ → ℕ) → next (held x) c ≡ held y → bit_of (granted c) ≡ d
      → ((r : ℕ) → bit_of (wrote r c) ≡ f r) → Walked y cs (d + k) (λ r. f r + g r) → Walked x (c ∷ cs) k g
  before x y c cs k d g f e ed ef w =
      record {
        to = w.to;
        same = ap (λ (h : Held). after h cs) e ∙ w.same;
        good = w.good;
        inv =
            adjust (count granted cs + (d + k)) (count granted (c ∷ cs) + k)
            (λ r. count (wrote r) cs + (f r + g r)) (λ r. count (wrote r) (c ∷ cs) + g r) w.to
            (omega (arith, ed)) (λ r. omega (arith, ef r)) w.inv;
      }

  branch : (x : St) (c : Call) (cs : List Call) (k : ℕ) (g : ℕ → ℕ) → Good x → I k g x → Each (At P) (held x) (c ∷ cs)
      → (b : Bool) → accepts c ≡ b
      → ((y : St) (j : ℕ) (f : ℕ → ℕ) → Good y → I j f y → Each (At P) (held y) cs → Walked y cs j f) → Walked x (c ∷ cs) k g
  branch x c cs k g good i at true ok rec =
      let a = at.0 ok in
      let nx : next (held x) c ≡ held (step_of c.kind x) = next_is x c good.sound ok a.lent in
      let z = number_at x c good.sound ok a.lent in
      let holds : P (held x) (on x c.kind)
      = subst (λ (h : Held). P (held x) (record { kind = c.kind; lent = h })) a.lent a.holds in
      before x (step_of c.kind x) c cs k (bit_of (eqb (grant_of c.kind (held x)) 2)) g (λ r. bit_of (writes_to r c.kind)) nx
      (granted_at x c ok a.lent) (λ r. written_at r c ok)
      (rec (step_of c.kind x) _ _ (good_step x good c.kind z a.numbers) (step k g x c.kind good z a.numbers holds i)
      (subst (λ (h : Held). Each (At P) h cs) nx at.1))
  branch x c cs k g good i at false e rec =
      let nx : next (held x) c ≡ held x = ap (λ (b : Bool). cond b (leaves c) (held x)) e in
      before x x c cs k 0 g (λ r. 0) nx (refused_granted c e) (λ r. refused_written r c e)
      (rec x (0 + k) (λ r. 0 + g r) good (adjust k (0 + k) g (λ r. 0 + g r) x (sym (zero-add k)) (λ r. sym (zero-add (g r))) i)
      (subst (λ (h : Held). Each (At P) h cs) nx at.1))

  pub walk : (cs : List Call) (x : St) (k : ℕ) (g : ℕ → ℕ) → Good x → I k g x → Each (At P) (held x) cs → Walked x cs k g
  walk [] x k g good i at =
      record { to = x; same = refl; good = good; inv = adjust k (0 + k) g (λ r. 0 + g r) x (sym (zero-add k)) (λ r. sym (zero-add (g r))) i }
  walk (c ∷ cs) x k g good i at = branch x c cs k g good i at (accepts c) refl (walk cs)
