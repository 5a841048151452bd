-- What a grant leaves as it was: all but BA's history, what is pending, and the phase of a swap.
use Prim.Native.Nat.{ℕ}
use mathlib.Core.Bool.{Bool, not, cond, ◌&&◌}
use mathlib.Core.Path.{◌≡◌, refl, ap, ◌∙◌}
use mathlib.Core.List.{List}
use lib.Dec.{eqb}
use Rattle.std.specs.Prelude.{Option, None, Some}
use Rattle.transfer.specs.declared.dma.DmaState.{DmaState}
use Rattle.transfer.specs.Dma.{active, is_first_byte, is_last_byte}
use Rattle.transfer.specs.Timing.{read_again, reads, resumes, swap_reads, swap_writes, writes}
use Rattle.transfer.proofs.Pick.{by_test}
use Rattle.controller.specs.declared.reu.BusAnswer.{BusAnswer}
use Rattle.controller.specs.declared.reu.Reu.{Reu}
use Rattle.controller.specs.Reu.{with_dma, with_history}
use Rattle.controller.specs.Timing.{c64_access}
use Rattle.controller.specs.BusAction.{bus_action, next_action, decide, fall, fall_on_read, fall_on_swap_write, fall_on_write, plain, repeated, resumed}
use Rattle.claims.specs.AutoloadStores.{autoloading}

-- f of x is n: a record, so that a chain of choices is compared choice by choice
pub record Keeps {A B : Type 0} (f : A → B) (n : B) (x : A) : Type 0 where
  pub same : f x ≡ n

pub kept : {A B : Type 0} {f : A → B} {n : B} {x : A} → f x ≡ n → Keeps f n x
kept e = record { same = e }

-- what both arms keep, the choice keeps
pub either : {A B : Type 0} {f : A → B} {n : B} (b : Bool) {x y : A} → Keeps f n x → Keeps f n y → Keeps f n (cond b x y)
either {f = f} {n = n} b {x} {y} p q = by_test (Keeps f n) b x y (λ _. p) (λ _. q)

-- the registers, the shadows, the storage's presence, whether a command with Autoload runs and whether any does, the count and the size
abbrev pub Face : Type 0
Face = List ℕ × ℕ × ℕ × ℕ × Bool × Bool × Bool × ℕ × ℕ

abbrev pub face : Reu → Face
face u = (
  u.regs,
  u.shadow_c64_addr,
  u.shadow_reu_addr,
  u.shadow_len,
  u.attached,
  autoloading u.dma,
  active u.dma,
  u.granted_cycles,
  u.size,
)

abbrev of_grant : BusAnswer → Face
of_grant g = face g.reu

-- a swap that reads again is the same command
same_command : (x : Option DmaState) → ◌≡◌ {A = Bool × Bool} (autoloading (read_again x), active (read_again x)) (autoloading x, active x)
same_command None = refl
same_command (Some d) = refl

again_kept : (u : Reu) → face (with_dma u (read_again u.dma)) ≡ face u
again_kept u =
    ap (λ (p : Bool × Bool). (u.regs, u.shadow_c64_addr, u.shadow_reu_addr, u.shadow_len, u.attached, p.0, p.1, u.granted_cycles, u.size))
    (same_command u.dma)

fall_kept : (u : Reu) (late : Bool) → Keeps of_grant (face u) (fall u late)
unfolding fall fall_on_read fall_on_swap_write fall_on_write plain
fall_kept u late =
    either (swap_reads u.dma) (either (is_first_byte u.dma) (kept refl) (either (is_last_byte u.dma) (kept refl) (kept refl)))
    (either (reads (c64_access u)) (kept refl)
    (either (swap_writes u.dma) (either late (kept refl) (kept (again_kept u)))
    (either (writes (c64_access u)) (either (is_last_byte u.dma) (kept refl) (kept refl)) (kept refl))))

decide_kept : (u : Reu) (high falling late : Bool) → Keeps of_grant (face u) (decide u high falling late)
unfolding decide plain
decide_kept u high falling late =
    either u.terminal_swap_write (kept refl)
    (either (eqb u.swap_read_delay 0) (either falling (fall_kept u late) (kept refl)) (kept refl))

resumed_kept : (u : Reu) (b : Bool) → Keeps face (face u) (resumed u b)
resumed_kept u b = either b (kept (again_kept u)) (kept refl)

pub grant_face : (u : Reu) (s : List ℕ) (high phi1 : Bool) (cycle : ℕ) → face (bus_action u s high phi1 cycle).0.reu ≡ face u
unfolding bus_action next_action repeated
grant_face u s high phi1 cycle =
    let falling = u.ba_was_high && not phi1 in
    let resume = resumes u.dma (not u.ba_was_high && phi1) cycle in
    let first = with_history u phi1 (phi1 && not high) in
    (decide_kept (repeated (resumed first resume) falling) phi1 falling u.late_ba_fall).same ∙ (resumed_kept first resume).same
