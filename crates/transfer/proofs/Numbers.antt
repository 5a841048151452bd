-- The numbers of an answer read back: of a grant, of an access that has an address of 16 bits, and of two marks beside either flag.
use Rattle.std.proofs.Common.{◌≡◌, ℕ, ◌+◌, ◌*◌, Bool, true, false, refl, ap, arith}
use Rattle.std.specs.Prelude.{Result, Ok, Err}
use Rattle.transfer.specs.Bytes.{bit_of}
use Rattle.transfer.specs.Dma.{passed_in, passed_number}
use Rattle.transfer.specs.Timing.{Accesses, Grants, access_number, action_number, has_address}
use Rattle.transfer.specs.declared.dma.Passed.{Passed}
use Rattle.transfer.specs.declared.timing.NoAnswer.{NoAnswer}
use Rattle.transfer.specs.declared.timing.ReuBusAction.{ReuBusAction}
use Rattle.transfer.specs.declared.timing.ReuBusAction.TheVariants.{Cpu, Hold, Transfer}
use Rattle.transfer.specs.declared.timing.ReuC64Access.{ReuC64Access}
use Rattle.transfer.specs.declared.timing.ReuC64Access.TheVariants.{None, Read, Write}
use Rattle.std.proofs.lemmas.Bool.{ltb-true}

pub passed_back : (flag : Bool) → (p : Passed) → passed_in (bit_of flag + passed_number p) ≡ p
passed_back flag p = go flag p.c64 p.expansion
  where
    go : (flag a b : Bool) → passed_in (bit_of flag + (2 * bit_of a + 4 * bit_of b)) ≡ record { c64 = a; expansion = b }
    go true true true = refl
    go true true false = refl
    go true false true = refl
    go true false false = refl
    go false true true = refl
    go false true false = refl
    go false false true = refl
    go false false false = refl

action_one : (x y : ReuBusAction) → action_number x ≡ action_number y → x ≡ y
action_one Cpu Cpu e = refl
action_one Cpu Hold e = absurd (omega (arith, e))
action_one Cpu Transfer e = absurd (omega (arith, e))
action_one Hold Cpu e = absurd (omega (arith, e))
action_one Hold Hold e = refl
action_one Hold Transfer e = absurd (omega (arith, e))
action_one Transfer Cpu e = absurd (omega (arith, e))
action_one Transfer Hold e = absurd (omega (arith, e))
action_one Transfer Transfer e = refl

pub grant_back : (x : ReuBusAction) → (r : Result ReuBusAction NoAnswer) → Grants (action_number x) r → r ≡ Ok x
grant_back x (Ok y) h = ap (λ (z : ReuBusAction). Ok z) (action_one y x h)
grant_back x (Err e) h = absurd (h.1 x refl)

access_one : (x y : ReuC64Access) → has_address x ≡ true → has_address y ≡ true → access_number x ≡ access_number y → x ≡ y
access_one None None h k e = refl
access_one None (Read b) h k e = absurd (omega (arith, e))
access_one None (Write b) h k e = absurd (omega (arith, e))
access_one (Read a) None h k e = absurd (omega (arith, e))
access_one (Read a) (Read b) h k e = ap (λ (n : ℕ). Read (record { 0 = n })) (omega (arith, e))
access_one (Read a) (Write b) h k e = absurd (omega (arith, e, ltb-true a.0 65536 h))
access_one (Write a) None h k e = absurd (omega (arith, e))
access_one (Write a) (Read b) h k e = absurd (omega (arith, e, ltb-true b.0 65536 k))
access_one (Write a) (Write b) h k e = ap (λ (n : ℕ). Write (record { 0 = n })) (omega (arith, e))

pub access_back : (x : ReuC64Access) → has_address x ≡ true → (r : Result ReuC64Access NoAnswer) → Accesses (access_number x) r → r ≡ Ok x
access_back x k (Ok y) h = ap (λ (z : ReuC64Access). Ok z) (access_one y x h.0 k h.1)
access_back x k (Err e) h = absurd (h.1 x k refl)
