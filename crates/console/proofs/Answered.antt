-- What the calls answer, and what is read back from it.
use Rattle.std.proofs.Common.{◌≡◌, ℕ, ◌+◌, ◌*◌, ◌/◌, ◌%◌, ◌<◌, ◌≤◌, Bool, true, false, cond, eqb, List, length, Result, Ok, Err, Some, None, refl, sym, ap, ◌∙◌, arith, ne_eqb, eqb-true, lt-ltb}
use mathlib.Core.Bool.{false≢true}
use borrow.Author.Tests.{eqb-false, le-ltb, ltb-true}
use Rattle.std.specs.Result.{result_unwrap_or}
use Rattle.transfer.specs.Bytes.{bit}
use Rattle.transfer.specs.Constants.{bus_size}
use Rattle.transfer.specs.Timing.{Accesses, Grants, access_by_type, access_number, access_of, action_number, has_address}
use Rattle.transfer.specs.declared.dma.DmaState.{DmaState}
use Rattle.transfer.specs.declared.dma.TransferType.{TransferType}
use Rattle.transfer.specs.declared.dma.TransferType.TheVariants.{Store, Recall, Swap, Verify}
use Rattle.transfer.specs.declared.dma.SwapPhase.{SwapPhase}
use Rattle.transfer.specs.declared.dma.SwapPhase.TheVariants.{ReadC64, WriteC64}
use Rattle.transfer.specs.declared.timing.NoAnswer.{NoAnswer}
use Rattle.transfer.specs.declared.timing.ReuBusAction.{ReuBusAction}
use Rattle.transfer.specs.declared.timing.ReuBusAction.TheVariants.{Cpu, Hold, Transfer}
use Rattle.transfer.specs.declared.timing.ReuC64Access.{ReuC64Access}
use Rattle.transfer.specs.declared.timing.ReuC64Access.TheVariants.{Read, Write}
use Rattle.controller.specs.declared.reu.Reu.{Reu}
use Rattle.controller.specs.BusAction.{Granted, bus_action}
use Rattle.controller.specs.Calls.{answered, bus_action_call, c64_access_call, granted_answer, refused, set_size_call}
use Rattle.controller.specs.Enable.{set_size}
use Rattle.controller.specs.Refusals.{checked, refusal_of, size_refusal}
use Rattle.controller.specs.Timing.{c64_access}
use Rattle.image.specs.Fields.{lifted, values}
use Rattle.image.specs.Layout.{at, fields, more_flags, reu_at, transfer, transfer_c64, transfer_of}
use Rattle.image.specs.Open.{open_image}
use Rattle.image.proofs.Fields.{below_at}
use Rattle.image.proofs.Opening.{opened_is}
use Rattle.reu.specs.Exports.{change, change_storage, code, flag, look, refusal, refusal_unit, reu_bus_action, reu_c64_access, reu_set_size}
use Rattle.pane.specs.declared.answers.Refused.{Refused}
use Rattle.pane.specs.Answers.{Answers, accepted}
use Rattle.pane.proofs.Bytes.{ranges}
use mathlib.Core.Logic.{◌⊎◌, inl, inr}
use Rattle.console.specs.Step.{access_in, access_ready, action_in}

-- ---- numbers of a call, back: what was numbered

pub action_back : (a : ReuBusAction) → action_in (action_number a) ≡ a
action_back Cpu = refl
action_back Hold = refl
action_back Transfer = refl

pub access_back : (x : ReuC64Access) → has_address x ≡ true → access_in (access_number x) ≡ x
unfolding access_in
access_back ReuC64Access.None h = refl
access_back (Read a) h =
    let l : a.0 < bus_size = ltb-true a.0 bus_size h in
    let kind : (65536 + a.0) / 65536 ≡ 1 = omega (arith, l) in
    let rest : (65536 + a.0) % 65536 ≡ a.0 = omega (arith, l) in
    rw kind (ap (λ (n : ℕ). Read record { 0 = n }) rest)
access_back (Write a) h =
    let l : a.0 < bus_size = ltb-true a.0 bus_size h in
    let kind : (2 * 65536 + a.0) / 65536 ≡ 2 = omega (arith, l) in
    let rest : (2 * 65536 + a.0) % 65536 ≡ a.0 = omega (arith, l) in
    rw kind (ap (λ (n : ℕ). Write record { 0 = n }) rest)

-- ---- as the code reads them

pub granted : (n : ℕ) (r : Result ReuBusAction NoAnswer) → Grants n r → result_unwrap_or r Transfer ≡ action_in n
granted n (Ok a) h = sym (action_back a) ∙ ap action_in h
granted n (Err e) h = rw (ne_eqb n 0 (λ z. h.1 Cpu (sym z)), ne_eqb n 1 (λ z. h.1 Hold (sym z))) refl

-- a C64 address of an opened image has 16 bits
module _ (i : List ℕ) (z : (open_image i).refusal ≡ 0) where
  fits : at (lifted fields i) transfer_c64 < bus_size
  fits = below_at (values fields) (lifted fields i) (ranges i z) transfer_c64 (omega arith)

  abbrev d : DmaState
  d = transfer_of (lifted fields i)

  bounded : (refresh none : Bool) → has_address (access_of refresh (cond none None (Some d))) ≡ true
  bounded refresh true = refl
  bounded true false = lt-ltb d.c64_addr.0 bus_size fits
  bounded false false = go d.transfer_type d.swap_phase
    where
      go : (k : TransferType) (p : SwapPhase) → has_address (access_by_type k p d.c64_addr) ≡ true
      go Store p = lt-ltb d.c64_addr.0 bus_size fits
      go Recall p = lt-ltb d.c64_addr.0 bus_size fits
      go Swap ReadC64 = lt-ltb d.c64_addr.0 bus_size fits
      go Swap WriteC64 = lt-ltb d.c64_addr.0 bus_size fits
      go Verify p = lt-ltb d.c64_addr.0 bus_size fits

  opened_access : has_address (c64_access (open_image i).reu) ≡ true
  unfolding c64_access reu_at
  opened_access =
      rw (opened_is i z) (bounded (bit (at (lifted fields i) more_flags) 0) (eqb (at (lifted fields i) transfer) 0))

-- ---- a call that is not refused answers the number of an access, or of a grant; one that is, a refusal alone

pub large : (n : ℕ) → (n ≡ 0 → ⊥) → accepted (refusal n) ≡ false
large n bad = let l : refusal_unit ≤ refusal n = omega arith in le-ltb (refusal n) refusal_unit l

pub small_access : (x : ReuC64Access) → has_address x ≡ true → accepted (0 + access_number x) ≡ true
small_access ReuC64Access.None h = refl
small_access (Read a) h = let l = ltb-true a.0 bus_size h in lt-ltb _ refusal_unit (omega (arith, l))
small_access (Write a) h = let l = ltb-true a.0 bus_size h in lt-ltb _ refusal_unit (omega (arith, l))

abbrev pub Alone : ℕ → Type 0
Alone answer = (n : ℕ) × (1 ≤ n) × (answer ≡ refusal n)

alone : (n : ℕ) → (n ≡ 0 → ⊥) → Alone (refusal n)
alone n bad = (n, omega arith, refl)

-- a value v, or a refusal
abbrev pub Says : ℕ → ℕ → Type 0
Says v answer = (answer ≡ v) ⊎ Alone answer

says : (k v : ℕ) (u w : Reu) (b : Bool) → eqb k 0 ≡ b → Says v (code (checked k (refused u) (answered v w)))
unfolding checked code
says k v u w true e = let sum : 0 + v ≡ v = omega arith in rw e (inl sum)
says k v u w false e =
    let sum : refusal k + 0 ≡ refusal k = omega arith in
    rw (e, sum) (inr (alone k (eqb-false k 0 e)))

module _ (i : List ℕ) where
  abbrev n : ℕ
  n = (open_image i).refusal

  abbrev u : Reu
  u = (open_image i).reu

  abbrev pub Access : Type 0
  Access = (x : ReuC64Access) × (has_address x ≡ true) × (access_number x ≡ reu_c64_access i)

  access_by : (b : Bool) → eqb n 0 ≡ b → Access ⊎ Alone (reu_c64_access i)
  unfolding look checked c64_access_call
  access_by true e =
      let it = says (refusal_of u bus_size u.size) (access_number (c64_access u)) u u _ refl in
      rw e (by it)
    where
      by : {answer : ℕ} → Says (access_number (c64_access u)) answer
          → ((x : ReuC64Access) × (has_address x ≡ true) × (access_number x ≡ answer)) ⊎ Alone answer
      by (inl p) = inl (c64_access u, opened_access i (eqb-true n 0 e), sym p)
      by (inr p) = inr p
  access_by false e = rw e (inr (alone n (eqb-false n 0 e)))

  pub access_answers : Access ⊎ Alone (reu_c64_access i)
  access_answers = access_by (eqb n 0) refl

  module _ (s : List ℕ) (high phi1 number : ℕ) where
    abbrev Grant : ℕ → Type 0
    Grant answer = (a : ReuBusAction) × (action_number a ≡ answer)

    granted_by : (k : ℕ) (g : Granted) (b : Bool) → eqb k 0 ≡ b
        → let answer : ℕ = code (checked k (λ m. (refused u m, s)) (granted_answer g)).0 in Grant answer ⊎ Alone answer
    unfolding checked code
    granted_by k g true e =
        let sum : 0 + action_number g.0.action ≡ action_number g.0.action = omega arith in
        rw (e, sum) (inl (g.0.action, refl))
    granted_by k g false e =
        let sum : refusal k + 0 ≡ refusal k = omega arith in
        rw (e, sum) (inr (alone k (eqb-false k 0 e)))

    grant_by : (b : Bool) → eqb n 0 ≡ b
        → Grant (reu_bus_action i s high phi1 number).0 ⊎ Alone (reu_bus_action i s high phi1 number).0
    unfolding change_storage checked bus_action_call
    grant_by true e =
        rw e (granted_by (refusal_of u bus_size (length s)) (bus_action u s (flag high) (flag phi1) number) _ refl)
    grant_by false e = rw e (inr (alone n (eqb-false n 0 e)))

    pub grant_answers : Grant (reu_bus_action i s high phi1 number).0 ⊎ Alone (reu_bus_action i s high phi1 number).0
    grant_answers = grant_by (eqb n 0) refl

  -- setting a size answers 0, or a refusal alone
  size_by : (size : ℕ) (b : Bool) → eqb n 0 ≡ b → Says 0 (reu_set_size i size).0
  unfolding change checked set_size_call
  size_by size true e = rw e (says (size_refusal u size) 0 u (set_size u size) _ refl)
  size_by size false e = rw e (inr (alone n (eqb-false n 0 e)))

  pub size_answers : (size : ℕ) → Says 0 (reu_set_size i size).0
  size_answers size = size_by size (eqb n 0) refl

-- ---- an access read back from that number; none, where the call is refused

read_back : (x : ReuC64Access) (v : ℕ) (r : Result ReuC64Access NoAnswer) → has_address x ≡ true → access_number x ≡ v → Accesses v r
    → result_unwrap_or r ReuC64Access.None ≡ access_in v
read_back x v (Ok y) h n a = sym (access_back y a.0) ∙ ap access_in a.1
read_back x v (Err e) h n a = absurd (a.1 x h n)

module _ (i : List ℕ) {code : ℕ} where
  pub accessed : (a : Result ℕ Refused) (r : Result ReuC64Access NoAnswer) → code ≡ reu_c64_access i
      → Answers code a → Accesses (result_unwrap_or a 0) r → result_unwrap_or r ReuC64Access.None ≡ access_ready i
  accessed a r c h g = go a h g (access_answers i)
    where
      go :
          (a : Result ℕ Refused) → Answers code a → Accesses (result_unwrap_or a 0) r → Access i ⊎ Alone (reu_c64_access i)
          → result_unwrap_or r ReuC64Access.None ≡ access_ready i
      go (Ok value) h g (inl x) =
          let ok : accepted (reu_c64_access i) ≡ true = ap accepted (sym c) ∙ h.0 in
          let same : value ≡ reu_c64_access i = h.1 ∙ c in
          rw ok (read_back x.0 value r x.1 (x.2 ∙ sym same) g ∙ ap access_in same)
      go (Ok value) h g (inr p) =
          let ok : accepted (reu_c64_access i) ≡ true = ap accepted (sym c) ∙ h.0 in
          let no : accepted (reu_c64_access i) ≡ false = ap accepted p.2 ∙ large p.0 (λ z. omega (arith, p.1)) in
          absurd (false≢true (sym no ∙ ok))
      go (Err refused) h g p =
          let no : accepted (reu_c64_access i) ≡ false = ap accepted (sym c) ∙ h.0 in
          rw no (read_back ReuC64Access.None 0 r refl refl g)
