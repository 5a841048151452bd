-- What is shown and counted, said by the numbers that the calls answer: the definitions, which read the numbers back, say the same of each
-- number that a call answers. That is a grant's, 0 to 2, an access's, and a refusal's alone: `Answered`.
use Rattle.std.proofs.Common.{◌≡◌, ℕ, suc, ◌+◌, ◌-◌, ◌*◌, ◌/◌, ◌%◌, ◌^◌, ◌<◌, ◌≤◌, Bool, true, false, cond, eqb, List, [], ◌∷◌, slice_index_or, Ok, Err, refl, sym, ap, ◌∙◌, arith, eq-eqb, eqb-true, ne_eqb}
use mathlib.Core.Logic.{◌⊎◌, inl, inr}
use borrow.Author.Tests.{eqb-false, ltb-true}
use Rattle.transfer.specs.Constants.{bus_size}
use Rattle.transfer.specs.Dma.{either}
use Rattle.transfer.specs.Timing.{access_number, action_number, has_address}
use Rattle.transfer.specs.declared.dma.Passed.{Passed}
use Rattle.transfer.specs.declared.memory.C64Address.{C64Address}
use Rattle.transfer.specs.declared.timing.ReuBusAction.{ReuBusAction}
use Rattle.transfer.specs.declared.timing.ReuBusAction.TheVariants.{Cpu, Hold, Transfer}
use Rattle.transfer.specs.declared.timing.ReuC64Access.{ReuC64Access}
use Rattle.transfer.specs.declared.timing.ReuC64Access.TheVariants.{Read, Write}
use Rattle.regs.specs.Stores.{Stores}
use Rattle.reu.specs.Exports.{refusal, refusal_unit, reu_c64_access, reu_set_size}
use Rattle.pane.specs.Answers.{accepted, refused_as, refused_by}
use Rattle.text.specs.Bytes.{byte_at}
use Rattle.text.specs.Shown.{◌⊕◌, ascii, hex_of}
use Rattle.lines.specs.Clock.{Time, next_clock, next_time}
use Rattle.console.specs.declared.step.Cycle.{Cycle}
use Rattle.console.specs.declared.step.Run.{Run}
use Rattle.console.specs.Step.{access_in, access_ready, access_text, bytes_by, counted, grant_text, refused_in, time_after}
use Rattle.console.proofs.Answered.{Access, Alone, Says, access_answers, large, size_answers, small_access}

-- a refusal is past every value
refused_large : (n : ℕ) → 1 ≤ n → accepted (refusal n) ≡ false
refused_large n h = large n (λ z. omega (arith, h))

back : (n : ℕ) → refusal n / refusal_unit ≡ n
back n = omega arith

-- ---- the grant: Cpu, Hold, Transfer 0, 1, 2, or a refusal

abbrev pub grant_said : ℕ → List ℕ
grant_said grant = slice_index_or (ascii "Cpu     " ∷ ascii "Hold    " ∷ ascii "Transfer" ∷ []) grant (refused_by grant)

pub grant_text_is : (a : ReuBusAction) → grant_said (action_number a) ≡ grant_text a
grant_text_is Cpu = refl
grant_text_is Hold = refl
grant_text_is Transfer = refl

past : (k : ℕ) (d : List ℕ) → slice_index_or (ascii "Cpu     " ∷ ascii "Hold    " ∷ ascii "Transfer" ∷ []) (suc (suc (suc k))) d ≡ d
past k d = refl

pub refused_text_is : (n : ℕ) → 1 ≤ n → grant_said (refusal n) ≡ refused_as (refused_in (refusal n)).number
refused_text_is n h =
    let e : refusal n ≡ suc (suc (suc (refusal n - 3))) = omega (arith, h) in
    ap (λ (k : ℕ). slice_index_or (ascii "Cpu     " ∷ ascii "Hold    " ∷ ascii "Transfer" ∷ []) k (refused_by (refusal n))) e
    ∙ past (refusal n - 3) (refused_by (refusal n))

-- ---- the access: 65,536 times 1 for a read and 2 for a write, plus the address; of every number

abbrev pub access_said : List ℕ → ℕ → List ℕ
access_said t access =
    cond (eqb (access / 65536) 0) (t ⊕ ascii "  no access")
    (cond (eqb (access / 65536) 1) (t ⊕ ascii "  read  " ⊕ hex_of 4 (access % 65536))
    (t ⊕ ascii "  write " ⊕ hex_of 4 (access % 65536)))

pub access_text_is : (t : List ℕ) (access : ℕ) → access_said t access ≡ access_text t (access_in access)
unfolding access_text access_in
access_text_is t access = go (eqb (access / 65536) 0) (eqb (access / 65536) 1)
  where
    a : C64Address
    a = record { 0 = access % 65536 }

    go :
        (x y : Bool) → cond x (t ⊕ ascii "  no access") (cond y (t ⊕ ascii "  read  " ⊕ hex_of 4 a.0) (t ⊕ ascii "  write " ⊕ hex_of 4 a.0))
        ≡ access_text t (cond x ReuC64Access.None (cond y (Read a) (Write a)))
    go true y = refl
    go false true = refl
    go false false = refl

-- a refusal has the value 0, which is none
pub access_ready_is : (i : List ℕ) → access_in (reu_c64_access i % refusal_unit) ≡ access_ready i
unfolding access_in
access_ready_is i = go (access_answers i)
  where
    go : Access i ⊎ Alone (reu_c64_access i) → access_in (reu_c64_access i % refusal_unit) ≡ access_ready i
    go (inl x) =
        let sum : 0 + access_number x.0 ≡ access_number x.0 = omega arith in
        let ok : accepted (reu_c64_access i) ≡ true = ap accepted (sym x.2 ∙ sym sum) ∙ small_access x.0 x.1 in
        let l = ltb-true (reu_c64_access i) refusal_unit ok in
        let same : reu_c64_access i % refusal_unit ≡ reu_c64_access i = omega (arith, l) in
        rw ok (ap access_in same)
    go (inr p) =
        let none : reu_c64_access i % refusal_unit ≡ 0 = omega (arith, p.2) in
        let no : accepted (reu_c64_access i) ≡ false = ap accepted p.2 ∙ refused_large p.0 p.1 in
        rw no (ap access_in none)

-- the bytes: none, where the number is 0
abbrev pub bytes_said : List ℕ → ℕ → ℕ → List ℕ → List ℕ → List ℕ
bytes_said t access offset m s =
    cond (eqb access 0) t
    (t ⊕ ascii "  bus " ⊕ hex_of 2 (byte_at m (access % 65536)) ⊕ ascii "  storage " ⊕ hex_of 5 offset
    ⊕ ascii " " ⊕ hex_of 2 (byte_at s offset))

pub bytes_are : (t : List ℕ) (x : ReuC64Access) (offset : ℕ) (m s : List ℕ) → has_address x ≡ true
    → bytes_said t (access_number x) offset m s ≡ bytes_by t x offset m s
unfolding bytes_by
bytes_are t ReuC64Access.None offset m s h = refl
bytes_are t (Read a) offset m s h =
    let l : a.0 < bus_size = ltb-true a.0 bus_size h in
    let rest : (1 * 65536 + a.0) % 65536 ≡ a.0 = omega (arith, l) in
    rw (ne_eqb (1 * 65536 + a.0) 0 (λ z. omega (arith, z)), rest) refl
bytes_are t (Write a) offset m s h =
    let l : a.0 < bus_size = ltb-true a.0 bus_size h in
    let rest : (2 * 65536 + a.0) % 65536 ≡ a.0 = omega (arith, l) in
    rw (ne_eqb (2 * 65536 + a.0) 0 (λ z. omega (arith, z)), rest) refl

-- ---- what is counted, and the time

abbrev pub counted_said : Run → ℕ → Passed → Stores → Run
counted_said r grant passed l =
    let p : Passed = either r.passed passed in
    cond (eqb grant 2)
    record { clock = next_clock r.clock; granted = (r.granted + 1) % 2 ^ 64; held = r.held; passed = p; stores = l }
    (cond (accepted grant)
    record { clock = next_clock r.clock; granted = r.granted; held = (r.held + 1) % 2 ^ 64; passed = p; stores = l } r)

counted_by_grant : (r : Run) (a : ReuBusAction) (access : ReuC64Access) (offset : ℕ) (p : Passed) (l : Stores)
    → counted_said r (action_number a) p l ≡ counted r (Ok record { grant = a; access = access; offset = offset; passed = p; stores = l })
unfolding counted
counted_by_grant r Cpu access offset p l = refl
counted_by_grant r Hold access offset p l = refl
counted_by_grant r Transfer access offset p l = refl

pub counted_is : (r : Run) (x : Cycle) → counted_said r (action_number x.grant) x.passed x.stores ≡ counted r (Ok x)
counted_is r x = counted_by_grant r x.grant x.access x.offset x.passed x.stores

pub refused_counted_is : (r : Run) (n : ℕ) → 1 ≤ n → (p : Passed) (l : Stores)
    → counted_said r (refusal n) p l ≡ counted r (Err (refused_in (refusal n)))
unfolding counted
refused_counted_is r n h p l = rw (ne_eqb (refusal n) 2 (λ z. omega (arith, z)), refused_large n h) refl

abbrev pub time_said : Time → ℕ → Time
time_said t grant = cond (accepted grant) (next_time t) t

pub time_is : (t : Time) (x : Cycle) → time_said t (action_number x.grant) ≡ time_after t (Ok x)
unfolding time_after
time_is t x = go x.grant
  where
    go : (a : ReuBusAction) → time_said t (action_number a) ≡ next_time t
    go Cpu = refl
    go Hold = refl
    go Transfer = refl

pub refused_time_is : (t : Time) (n : ℕ) → 1 ≤ n → time_said t (refusal n) ≡ time_after t (Err (refused_in (refusal n)))
unfolding time_after
refused_time_is t n h = rw (refused_large n h) refl

-- ---- a size that is refused by 6, by the whole answer

pub size_is : (n : ℕ) → eqb (refusal n) (refusal 6) ≡ eqb (refusal n / refusal_unit) 6
size_is n = go (eqb n 6) refl ∙ ap (λ (k : ℕ). eqb k 6) (sym (back n))
  where
    go : (b : Bool) → eqb n 6 ≡ b → eqb (refusal n) (refusal 6) ≡ eqb n 6
    go true e = let s = eqb-true n 6 e in rw (e, eq-eqb (refusal n) (refusal 6) (ap refusal s)) refl
    go false e = rw (e, ne_eqb (refusal n) (refusal 6) (λ z. eqb-false n 6 e (omega (arith, z)))) refl

-- and that is what setting one answers: 0, or a refusal alone
pub size_said_is : (i : List ℕ) (size : ℕ)
    → let answer : ℕ = (reu_set_size i size).0 in eqb answer (refusal 6) ≡ eqb (answer / refusal_unit) 6
size_said_is i size = go (reu_set_size i size).0 (size_answers i size)
  where
    go : (answer : ℕ) → Says 0 answer → eqb answer (refusal 6) ≡ eqb (answer / refusal_unit) 6
    go answer (inl p) = rw p refl
    go answer (inr p) = rw p.2 (size_is p.0)
