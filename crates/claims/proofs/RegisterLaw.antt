-- What a start of a swap does, by a write of COMMAND or by FF00, and what the writes of registers 2 to 8 and the reads leave.
use Prim.Native.Nat.{ℕ, zero, suc, ◌+◌, ◌/◌, ◌%◌, ◌<◌, ◌≤◌}
use mathlib.Core.Bool.{Bool, true, false, cond, ◌&&◌}
use mathlib.Core.Path.{◌≡◌, refl, sym, ap, ◌∙◌, subst, subst₃}
use mathlib.Core.Logic.{◌≢◌}
use mathlib.Core.List.{List}
use lib.Bits.{bit_and, bit_or, and_mask, or_mod, or_zero_r}
use lib.ListN.{length, get_or, set, length-set}
use lib.Seq.{get_or-set_other, get_or-set_same}
use lib.Dec.{eqb, ltb}
use native.Mathlib.Omega.{arith}
use native.Mathlib.Nat.{zero-add}
use borrow.Author.Tests.{ne_eqb}
use Rattle.controller.specs.declared.reu.Reu.{Reu}
use Rattle.transfer.specs.declared.dma.DmaState.{DmaState}
use Rattle.controller.specs.declared.reu.Answered.{Answered}
use Rattle.std.specs.Prelude.{Some}
use Rattle.transfer.specs.declared.dma.TransferType.{TransferType}
use Rattle.transfer.specs.declared.dma.TransferType.TheVariants.{Store, Recall, Swap, Verify}
use Rattle.transfer.specs.declared.dma.SwapPhase.TheVariants.{ReadC64}
use Rattle.transfer.specs.Bytes.{bit, word, long, with_low, with_high, with_bank}
use Rattle.transfer.proofs.Bits.{zero_bit}
use Rattle.controller.specs.Reu.{reg, set_reg, with_irq, with_armed, with_dma, with_granted, cleared}
use Rattle.regs.specs.Registers.{shown}
use Rattle.regs.specs.StartDma.{requested}
use Rattle.controller.specs.Registers.{write_at, write_c64, write_exp, write_len, read_register, write_register, write_command}
use Rattle.transfer.specs.Dma.{type_of, length_of}
use Rattle.controller.specs.StartDma.{start_dma, trigger_ff00}
use Rattle.claims.proofs.CycleLaw.{Reading, Kept, Quiet, swap_state}

-- ---- tests and indices

on {ℓ} : {A : Type ℓ} (b : Bool) (x y : A) → b ≡ true → cond b x y ≡ x
on b x y e = ap (λ (t : Bool). cond t x y) e

index_is : (a : ℕ) → bit_and a 31 ≡ a % 32
index_is a = and_mask a 5

-- ---- the start of a swap

asked : TransferType → ℕ → ℕ → ℕ → Bool → Bool → Bool → DmaState
asked t c e r fc fr auto =
    record {
      transfer_type = t;
      swap_phase = ReadC64;
      c64_addr = record { 0 = c };
      reu_addr = record { 0 = e };
      remaining = r;
      fix_c64 = fc;
      fix_reu = fr;
      autoload = auto;
      latch = 0;
      first_byte = true;
      read_clock_odd = false;
      verify_tail = false;
    }

pub record Begun (u : Reu) (v : ℕ) (w : Reu) : Type 0 where
  pub reading :
      Reading w (word (reg u 2) (reg u 3)) (long (reg u 4) (reg u 5) (reg u 6)) (length_of (word (reg u 7) (reg u 8)))
  pub command : reg w 1 ≡ v
  pub control : reg w 10 ≡ reg u 10

-- the start itself, of what COMMAND asks for: a swap
module _ (u : Reu) (att : u.attached ≡ true) (fixed : reg u 10 / 64 ≡ 0) (swap : reg u 1 % 4 ≡ 2) where
  requested_is : requested u.regs
      ≡ swap_state ReadC64 (word (reg u 2) (reg u 3)) (long (reg u 4) (reg u 5) (reg u 6)) (length_of (word (reg u 7) (reg u 8))) 0 (bit (reg u 1) 5) true false
  unfolding asked requested type_of
  requested_is =
      λ i. asked (kind i) (word (reg u 2) (reg u 3)) (long (reg u 4) (reg u 5) (reg u 6)) (length_of (word (reg u 7) (reg u 8)))
      (zero_bit (reg u 10) 7 (omega arith) i) (zero_bit (reg u 10) 6 (omega arith) i) (bit (reg u 1) 5)
    where
      kind : type_of (reg u 1) ≡ Swap
      kind = ap (λ (n : ℕ). cond (eqb n 0) Store (cond (eqb n 1) Recall (cond (eqb n 2) Swap Verify))) (and_mask (reg u 1) 2 ∙ swap)

  started_as : Reu
  started_as = with_granted (with_dma (with_irq (set_reg (cleared u) 0 (bit_and (reg u 0) 16)) false) (Some (requested u.regs))) 0

  started : Begun u (reg u 1) (start_dma u)
  unfolding started_as start_dma
  started =
      subst (Begun u (reg u 1)) (sym (on u.attached started_as (set_reg (cleared u) 1 (bit_and (reg u 1) 127)) att))
      (record {
        reading =
            record {
              latch = 0;
              stands = record { terminal = refl; refresh = refl; delay = refl; attached = att; auto = bit (reg u 1) 5; one = true; odd = false; transfer = ap Some requested_is };
            };
        command = get_or-set_other u.regs 0 1 (bit_and (reg u 0) 16) 0 (omega arith);
        control = get_or-set_other u.regs 0 10 (bit_and (reg u 0) 16) 0 (omega arith);
      })

  -- by FF00
  pub trigger_law : u.waiting_ff00 ≡ true → bit (reg u 1) 7 ≡ true → Begun u (reg u 1) (trigger_ff00 u)
  unfolding trigger_ff00
  trigger_law armed go =
      subst (Begun u (reg u 1)) (sym (on (u.waiting_ff00 && bit (reg u 1) 7) (start_dma u) u (λ i. armed i && go i))) started

-- by a write of COMMAND
module _ (u : Reu) (v : ℕ) (len : length u.regs ≡ 11) (att : u.attached ≡ true) (fixed : reg u 10 / 64 ≡ 0)
    (swap : v % 4 ≡ 2) (now : bit v 4 ≡ true) (go : bit v 7 ≡ true) where
  asks : Reu
  asks = with_armed (set_reg u 1 v) false

  command_is : reg (set_reg u 1 v) 1 ≡ v
  command_is = get_or-set_same u.regs 1 v 0 (omega arith)

  other_is : (i : ℕ) → i ≢ 1 → reg (set_reg u 1 v) i ≡ reg u i
  other_is i h = get_or-set_other u.regs 1 i v 0 h

  command_starts : write_command u v ≡ start_dma asks
  unfolding asks write_command
  command_starts =
      on (bit v 7) (cond (bit v 4) (start_dma (with_armed (set_reg u 1 v) false)) (with_armed (set_reg u 1 v) true)) (with_armed (set_reg u 1 v) false)
      go
      ∙ on (bit v 4) (start_dma (with_armed (set_reg u 1 v) false)) (with_armed (set_reg u 1 v) true) now

  started_begun : Begun u v (start_dma asks)
  unfolding asks
  started_begun =
      let b = started asks att (ap (λ (x : ℕ). x / 64) (other_is 10 (omega arith)) ∙ fixed) (ap (λ (x : ℕ). x % 4) command_is ∙ swap) in
      record {
        reading =
            subst₃ (Reading (start_dma asks)) (λ i. word (other_is 2 (omega arith) i) (other_is 3 (omega arith) i))
            (λ i. long (other_is 4 (omega arith) i) (other_is 5 (omega arith) i) (other_is 6 (omega arith) i))
            (λ i. length_of (word (other_is 7 (omega arith) i) (other_is 8 (omega arith) i))) b.reading;
        command = b.command ∙ command_is;
        control = b.control ∙ other_is 10 (omega arith);
      }

  pub start_law : (a : ℕ) → a % 32 ≡ 1 → Begun u v (write_register u a v)
  unfolding write_register
  start_law a one =
      subst (λ (w : Reu). Begun u v w) (sym (ap (λ (i : ℕ). write_at u i v) (index_is a ∙ one) ∙ command_starts)) started_begun

-- ---- a read

read_kept : (u : Reu) (b c : Bool) (x y z : ℕ)
    → Kept u (cond {A = Answered ℕ} b (cond c (record { value = x; reu = with_irq (set_reg u 0 y) false }) (record { value = z; reu = u })) (record { value = 255; reu = u })).reu
read_kept u true true x y z =
    record { regs = λ i h. get_or-set_other u.regs 0 i y 0 h; c64 = refl; exp = refl; len = refl; attached = refl; dma = refl }
read_kept u true false x y z = record { regs = λ i h. refl; c64 = refl; exp = refl; len = refl; attached = refl; dma = refl }
read_kept u false c x y z = record { regs = λ i h. refl; c64 = refl; exp = refl; len = refl; attached = refl; dma = refl }

read_quiet : (u : Reu) (b c : Bool) (x y z : ℕ) → Quiet u
    → Quiet (cond {A = Answered ℕ} b (cond c (record { value = x; reu = with_irq (set_reg u 0 y) false }) (record { value = z; reu = u })) (record { value = 255; reu = u })).reu
read_quiet u true true x y z q = record { terminal = q.terminal; delay = q.delay; attached = q.attached; idle = q.idle }
read_quiet u true false x y z q = q
read_quiet u false c x y z q = q

pub read_law : (u : Reu) (a : ℕ) → Kept u (read_register u a).reu
unfolding read_register
read_law u a =
    read_kept u (ltb (bit_and a 31) 11) (eqb (bit_and a 31) 0) (reg u 0) (bit_and (reg u 0) 31) (shown (bit_and a 31) (reg u (bit_and a 31)))

pub read_stays_quiet : (u : Reu) (a : ℕ) → Quiet u → Quiet (read_register u a).reu
unfolding read_register
read_stays_quiet u a q =
    read_quiet u (ltb (bit_and a 31) 11) (eqb (bit_and a 31) 0) (reg u 0) (bit_and (reg u 0) 31) (shown (bit_and a 31) (reg u (bit_and a 31))) q

-- ---- the seven registers

pub data Seven : ℕ → Type 0 where
  two : Seven 2
  three : Seven 3
  four : Seven 4
  five : Seven 5
  six : Seven 6
  seven : Seven 7
  eight : Seven 8

pub is_seven : (r : ℕ) → 2 ≤ r → r ≤ 8 → Seven r
is_seven zero h k = absurd (omega arith)
is_seven (suc zero) h k = absurd (omega arith)
is_seven (suc (suc zero)) h k = two
is_seven (suc (suc (suc zero))) h k = three
is_seven (suc (suc (suc (suc zero)))) h k = four
is_seven (suc (suc (suc (suc (suc zero))))) h k = five
is_seven (suc (suc (suc (suc (suc (suc zero)))))) h k = six
is_seven (suc (suc (suc (suc (suc (suc (suc zero))))))) h k = seven
is_seven (suc (suc (suc (suc (suc (suc (suc (suc zero)))))))) h k = eight
is_seven (suc (suc (suc (suc (suc (suc (suc (suc (suc n))))))))) h k = absurd (omega arith)

-- a pair of registers x and y with its shadow n, written p and q times, with the values a and b
pub record Pair (n x y p q a b : ℕ) : Type 0 where
  pub loaded : 0 < p + q → (x ≡ n % 256) × (y ≡ n / 256 % 256)
  pub low : 0 < p → n % 256 ≡ a
  pub high : 0 < q → n / 256 % 256 ≡ b

pair_none : {n x y a b : ℕ} → Pair n x y 0 0 a b
pair_none = record { loaded = λ h. absurd (omega arith); low = λ h. absurd (omega arith); high = λ h. absurd (omega arith) }

pair_keep : {n x y p q a b n' x' y' p' q' : ℕ} → Pair n x y p q a b → n' ≡ n → x' ≡ x → y' ≡ y → p' ≡ p → q' ≡ q → Pair n' x' y' p' q' a b
pair_keep h en ex ey ep eq = rw (en, ex, ey, ep, eq) h

pair_low : {n x y p q a b p' q' : ℕ} (v : ℕ) → Pair n x y p q a b → v ≡ a → v < 256 → q' ≡ q
    → Pair (with_low n v) (with_low n v % 256) (with_low n v / 256 % 256) p' q' a b
pair_low {n} {b = b} v h e fits eq =
    record { loaded = λ w. (refl, refl); low = λ w. omega arith; high = λ w. let k : n / 256 % 256 ≡ b = h.high (omega arith) in omega arith }

pair_high : {n x y p q a b p' q' : ℕ} (v : ℕ) → Pair n x y p q a b → v ≡ b → v < 256 → p' ≡ p
    → Pair (with_high n v) (with_high n v % 256) (with_high n v / 256 % 256) p' q' a b
pair_high {n} {a = a} v h e fits eq =
    record { loaded = λ w. (refl, refl); low = λ w. let k : n % 256 ≡ a = h.low (omega arith) in omega arith; high = λ w. omega arith }

pair_bank : {n x y p q a b : ℕ} (w : ℕ) → Pair n x y p q a b → Pair (with_bank n w) x y p q a b
pair_bank {n} {a = a} {b = b} w h =
    record {
      loaded = λ k. ((h.loaded k).0 ∙ omega arith, (h.loaded k).1 ∙ omega arith);
      low = λ k. let z : n % 256 ≡ a = h.low k in omega arith;
      high = λ k. let z : n / 256 % 256 ≡ b = h.high k in omega arith;
    }

pub pair_done : {n x y p q a b : ℕ} → Pair n x y p q a b → p ≡ 1 → q ≡ 1 → (x ≡ a) × (y ≡ b)
pair_done h ep eq = ((h.loaded (omega arith)).0 ∙ h.low (omega arith), (h.loaded (omega arith)).1 ∙ h.high (omega arith))

-- the seven registers of u, each r of them written g r times with the value W r; of the bank the low three bits count
pub record Rewritten (W g : ℕ → ℕ) (u : Reu) : Type 0 where
  pub c64 : Pair u.shadow_c64_addr (reg u 2) (reg u 3) (g 2) (g 3) (W 2) (W 3)
  pub exp : Pair u.shadow_reu_addr (reg u 4) (reg u 5) (g 4) (g 5) (W 4) (W 5)
  pub len : Pair u.shadow_len (reg u 7) (reg u 8) (g 7) (g 8) (W 7) (W 8)
  pub bank : 0 < g 6 → reg u 6 % 8 ≡ W 6 % 8

pub rewritten_none : (W : ℕ → ℕ) (u : Reu) → Rewritten W (λ r. 0) u
rewritten_none W u =
    record { c64 = pair_none; exp = pair_none; len = pair_none; bank = λ h. absurd (omega arith) }

pub rewritten_keep : (W g g' : ℕ → ℕ) (u w : Reu) → Kept u w → ((r : ℕ) → g' r ≡ g r) → Rewritten W g u → Rewritten W g' w
rewritten_keep W g g' u w k e h =
    record {
      c64 = pair_keep h.c64 k.c64 (k.regs 2 (omega arith)) (k.regs 3 (omega arith)) (e 2) (e 3);
      exp = pair_keep h.exp k.exp (k.regs 4 (omega arith)) (k.regs 5 (omega arith)) (e 4) (e 5);
      len = pair_keep h.len k.len (k.regs 7 (omega arith)) (k.regs 8 (omega arith)) (e 7) (e 8);
      bank = λ p. ap (λ (x : ℕ). x % 8) (k.regs 6 (omega arith)) ∙ h.bank (omega (arith, e 6));
    }

-- the value that a write to r is to have
abbrev pub Value : (ℕ → ℕ) → ℕ → ℕ → Type 0
Value W r v = (v % 8 ≡ W r % 8) × (r ≢ 6 → v ≡ W r)

-- the two bytes of n put into registers l, at a and b: what becomes of the pair there, of another, of the bank and of any other
module _ (W g g' : ℕ → ℕ) (l : List ℕ) (a b n : ℕ) (counts : (r : ℕ) → r ≢ a → r ≢ b → g' r ≡ g r) where
  abbrev put : List ℕ
  put = set (set l a (n % 256)) b (n / 256 % 256)

  at_other : (k : ℕ) → k ≢ a → k ≢ b → get_or put k 0 ≡ get_or l k 0
  at_other k na nb = get_or-set_other (set l a (n % 256)) b k (n / 256 % 256) 0 nb ∙ get_or-set_other l a k (n % 256) 0 na

  this_pair : (a < length l) × (b < length l) × (a ≢ b) → Pair n (n % 256) (n / 256 % 256) (g' a) (g' b) (W a) (W b)
      → Pair n (get_or put a 0) (get_or put b 0) (g' a) (g' b) (W a) (W b)
  this_pair (ha, hb, ne) p =
      pair_keep p refl (get_or-set_other (set l a (n % 256)) b a (n / 256 % 256) 0 ne ∙ get_or-set_same l a (n % 256) 0 ha)
      (get_or-set_same (set l a (n % 256)) b (n / 256 % 256) 0 (omega (arith, length-set l a (n % 256)))) refl refl

  other_pair : (i j : ℕ) {k : ℕ} → (i ≢ a) × (i ≢ b) × (j ≢ a) × (j ≢ b) → Pair k (get_or l i 0) (get_or l j 0) (g i) (g j) (W i) (W j)
      → Pair k (get_or put i 0) (get_or put j 0) (g' i) (g' j) (W i) (W j)
  other_pair i j (ia, ib, ja, jb) p = pair_keep p refl (at_other i ia ib) (at_other j ja jb) (counts i ia ib) (counts j ja jb)

  other_bank : (6 ≢ a) × (6 ≢ b) → (0 < g 6 → get_or l 6 0 % 8 ≡ W 6 % 8) → 0 < g' 6 → get_or put 6 0 % 8 ≡ W 6 % 8
  other_bank (na, nb) h w = ap (λ (x : ℕ). x % 8) (at_other 6 na nb) ∙ h (omega (arith, counts 6 na nb))

-- the count after one more write to r
abbrev pub more : ℕ → (ℕ → ℕ) → ℕ → ℕ
more r g k = cond (eqb r k) 1 0 + g k

more_other : (r : ℕ) (g : ℕ → ℕ) (k : ℕ) → r ≢ k → more r g k ≡ g k
more_other r g k h = rw (ne_eqb r k h) (zero-add (g k))

module _ (W g : ℕ → ℕ) (u : Reu) (len : length u.regs ≡ 11) (h : Rewritten W g u) where
  low_counts : (a b r : ℕ) → r ≢ a → r ≢ b → more a g r ≡ g r
  low_counts a b r na nb = more_other a g r (λ e. na (sym e))

  high_counts : (a b r : ℕ) → r ≢ a → r ≢ b → more b g r ≡ g r
  high_counts a b r na nb = more_other b g r (λ e. nb (sym e))

  write_c64_lem : (g' : ℕ → ℕ) (n : ℕ) → ((r : ℕ) → r ≢ 2 → r ≢ 3 → g' r ≡ g r) → Pair n (n % 256) (n / 256 % 256) (g' 2) (g' 3) (W 2) (W 3)
      → Rewritten W g' (write_c64 u n)
  write_c64_lem g' n counts p =
      record {
        c64 = this_pair W g g' u.regs 2 3 n counts (omega arith) p;
        exp = other_pair W g g' u.regs 2 3 n counts 4 5 (omega arith) h.exp;
        len = other_pair W g g' u.regs 2 3 n counts 7 8 (omega arith) h.len;
        bank = other_bank W g g' u.regs 2 3 n counts (omega arith) h.bank;
      }

  write_exp_lem : (g' : ℕ → ℕ) (n : ℕ) → ((r : ℕ) → r ≢ 4 → r ≢ 5 → g' r ≡ g r) → Pair n (n % 256) (n / 256 % 256) (g' 4) (g' 5) (W 4) (W 5)
      → Rewritten W g' (write_exp u n)
  write_exp_lem g' n counts p =
      record {
        c64 = other_pair W g g' u.regs 4 5 n counts 2 3 (omega arith) h.c64;
        exp = this_pair W g g' u.regs 4 5 n counts (omega arith) p;
        len = other_pair W g g' u.regs 4 5 n counts 7 8 (omega arith) h.len;
        bank = other_bank W g g' u.regs 4 5 n counts (omega arith) h.bank;
      }

  write_len_lem : (g' : ℕ → ℕ) (n : ℕ) → ((r : ℕ) → r ≢ 7 → r ≢ 8 → g' r ≡ g r) → Pair n (n % 256) (n / 256 % 256) (g' 7) (g' 8) (W 7) (W 8)
      → Rewritten W g' (write_len u n)
  write_len_lem g' n counts p =
      record {
        c64 = other_pair W g g' u.regs 7 8 n counts 2 3 (omega arith) h.c64;
        exp = other_pair W g g' u.regs 7 8 n counts 4 5 (omega arith) h.exp;
        len = this_pair W g g' u.regs 7 8 n counts (omega arith) p;
        bank = other_bank W g g' u.regs 7 8 n counts (omega arith) h.bank;
      }

  write_seven : {r : ℕ} (v : ℕ) → Seven r → v < 256 → Value W r v → Rewritten W (more r g) (write_at u r v)
  write_seven v two fits e =
      write_c64_lem (more 2 g) (with_low u.shadow_c64_addr v) (low_counts 2 3) (pair_low v h.c64 (e.1 (omega arith)) fits (zero-add (g 3)))
  write_seven v three fits e =
      write_c64_lem (more 3 g) (with_high u.shadow_c64_addr v) (high_counts 2 3) (pair_high v h.c64 (e.1 (omega arith)) fits (zero-add (g 2)))
  write_seven v four fits e =
      write_exp_lem (more 4 g) (with_low u.shadow_reu_addr v) (low_counts 4 5) (pair_low v h.exp (e.1 (omega arith)) fits (zero-add (g 5)))
  write_seven v five fits e =
      write_exp_lem (more 5 g) (with_high u.shadow_reu_addr v) (high_counts 4 5) (pair_high v h.exp (e.1 (omega arith)) fits (zero-add (g 4)))
  write_seven v six fits e =
      record {
        c64 = pair_keep h.c64 refl (rest 2 (omega arith)) (rest 3 (omega arith)) (zero-add (g 2)) (zero-add (g 3));
        exp = pair_keep (pair_bank w h.exp) refl (rest 4 (omega arith)) (rest 5 (omega arith)) (zero-add (g 4)) (zero-add (g 5));
        len = pair_keep h.len refl (rest 7 (omega arith)) (rest 8 (omega arith)) (zero-add (g 7)) (zero-add (g 8));
        bank = λ p. ap (λ (x : ℕ). x % 8) (get_or-set_same u.regs 6 w 0 (omega arith)) ∙ or_mod v 248 3 ∙ or_zero_r (v % 8) ∙ e.0;
      }
    where
      w : ℕ
      w = bit_or v 248

      rest : (i : ℕ) → i ≢ 6 → reg (set_reg u 6 w) i ≡ reg u i
      rest i ne = get_or-set_other u.regs 6 i w 0 ne
  write_seven v seven fits e =
      write_len_lem (more 7 g) (with_low u.shadow_len v) (low_counts 7 8) (pair_low v h.len (e.1 (omega arith)) fits (zero-add (g 8)))
  write_seven v eight fits e =
      write_len_lem (more 8 g) (with_high u.shadow_len v) (high_counts 7 8) (pair_high v h.len (e.1 (omega arith)) fits (zero-add (g 7)))

-- such a write leaves COMMAND, the control register and all that a cycle looks at
pub record Aside (u w : Reu) : Type 0 where
  pub command : reg w 1 ≡ reg u 1
  pub control : reg w 10 ≡ reg u 10
  pub quiet : Quiet u → Quiet w

same_quiet : (u w : Reu) → w.terminal_swap_write ≡ u.terminal_swap_write → w.swap_read_delay ≡ u.swap_read_delay
    → w.attached ≡ u.attached → w.dma ≡ u.dma → Quiet u → Quiet w
same_quiet u w t d a m q = record { terminal = t ∙ q.terminal; delay = d ∙ q.delay; attached = a ∙ q.attached; idle = m ∙ q.idle }

aside_pair : (u w : Reu) (i j n : ℕ) → (1 ≢ i) × (1 ≢ j) × (10 ≢ i) × (10 ≢ j)
    → w.regs ≡ set (set u.regs i (n % 256)) j (n / 256 % 256) → (Quiet u → Quiet w) → Aside u w
aside_pair u w i j n ne e q =
    record {
      command = ap (λ (l : List ℕ). get_or l 1 0) e ∙ at_other (λ r. 0) (λ r. 0) (λ r. 0) u.regs i j n (λ r a b. refl) 1 ne.0 ne.1;
      control = ap (λ (l : List ℕ). get_or l 10 0) e ∙ at_other (λ r. 0) (λ r. 0) (λ r. 0) u.regs i j n (λ r a b. refl) 10 ne.2 ne.3;
      quiet = q;
    }

write_aside : (u : Reu) {r : ℕ} (v : ℕ) → Seven r → Aside u (write_at u r v)
write_aside u v two = aside_pair u (write_at u 2 v) 2 3 (with_low u.shadow_c64_addr v) (omega arith) refl (same_quiet u (write_at u 2 v) refl refl refl refl)
write_aside u v three = aside_pair u (write_at u 3 v) 2 3 (with_high u.shadow_c64_addr v) (omega arith) refl (same_quiet u (write_at u 3 v) refl refl refl refl)
write_aside u v four = aside_pair u (write_at u 4 v) 4 5 (with_low u.shadow_reu_addr v) (omega arith) refl (same_quiet u (write_at u 4 v) refl refl refl refl)
write_aside u v five = aside_pair u (write_at u 5 v) 4 5 (with_high u.shadow_reu_addr v) (omega arith) refl (same_quiet u (write_at u 5 v) refl refl refl refl)
write_aside u v six =
    record {
      command = get_or-set_other u.regs 6 1 (bit_or v 248) 0 (omega arith);
      control = get_or-set_other u.regs 6 10 (bit_or v 248) 0 (omega arith);
      quiet = same_quiet u (write_at u 6 v) refl refl refl refl;
    }
write_aside u v seven = aside_pair u (write_at u 7 v) 7 8 (with_low u.shadow_len v) (omega arith) refl (same_quiet u (write_at u 7 v) refl refl refl refl)
write_aside u v eight = aside_pair u (write_at u 8 v) 7 8 (with_high u.shadow_len v) (omega arith) refl (same_quiet u (write_at u 8 v) refl refl refl refl)

-- a write, by its address
pub rewrite_law : (W g : ℕ → ℕ) (u : Reu) (a v : ℕ) → 2 ≤ a % 32 → a % 32 ≤ 8 → length u.regs ≡ 11 → v < 256
    → Value W (a % 32) v → Rewritten W g u → Rewritten W (more (a % 32) g) (write_register u a v) × Aside u (write_register u a v)
unfolding write_register
rewrite_law W g u a v lo hi len fits e h =
    subst (λ (i : ℕ). Rewritten W (more (a % 32) g) (write_at u i v) × Aside u (write_at u i v)) (sym (index_is a))
    (write_seven W g u len h v (is_seven (a % 32) lo hi) fits e, write_aside u v (is_seven (a % 32) lo hi))
