-- What a public call answers, by number: 0 where it is accepted, else a refusal's.
use Rattle.controller.specs.Prelude.{ℕ, Bool, false, None, Result, Ok, Err, Passed, Reu, Refusal, Length, Field, Size, Attached, Answered, Step}
use Rattle.transfer.specs.Dma.{neither}
use Rattle.regs.specs.Stores.{Stores}

-- ---- "Each returns 16,777,216 times the refusal number plus a value": the number, the value, and the controller after the call

pub record Answer : Type 0 where
  pub refusal : ℕ
  pub value : ℕ
  pub reu : Reu

-- of a tick and a cycle the value is whether the command goes on or the processor is held, and L2's two marks. L5: "The core step hands out
-- these stores, index and value, beside its answer"
pub record StepAnswer : Type 0 where
  pub refusal : ℕ
  pub flag : Bool
  pub passed : Passed
  pub stores : Stores
  pub reu : Reu

-- of the step over a controller that is lent the same, without the controller
pub record Stepped : Type 0 where
  pub refusal : ℕ
  pub flag : Bool
  pub passed : Passed
  pub stores : Stores

-- "1: image length ..; 2: a field outside the ranges ..; 3: bus ..; 4: storage". L4: "Refusal 5 is another size, 6 setting one when attached"
abbrev pub refusal_number : Refusal → ℕ
refusal_number Length = 1
refusal_number Field = 2
refusal_number Refusal.Bus = 3
refusal_number Refusal.Storage = 4
refusal_number Size = 5
refusal_number Attached = 6

-- ---- what the code hands back, in these terms: "A refusal has value 0 and changes no controller"

abbrev pub number_of : {A : Type 0} → Result A Refusal → ℕ
number_of (Ok x) = 0
number_of (Err e) = refusal_number e

abbrev pub answer_of : Reu → Result (Answered ℕ) Refusal → Answer
answer_of u (Ok a) = record { refusal = 0; value = a.value; reu = a.reu }
answer_of u (Err e) = record { refusal = refusal_number e; value = 0; reu = u }

abbrev pub step_of : Answered Step → StepAnswer
step_of a =
    record { refusal = 0; flag = a.value.flag; passed = a.value.passed; stores = a.value.stores; reu = a.reu }

abbrev pub step_answer_of : Reu → Result (Answered Step) Refusal → StepAnswer
step_answer_of u (Ok a) = step_of a
step_answer_of u (Err e) = record { refusal = refusal_number e; flag = false; passed = neither; stores = None; reu = u }

abbrev pub stepped_of : Result Step Refusal → Stepped
stepped_of (Ok s) = record { refusal = 0; flag = s.flag; passed = s.passed; stores = s.stores }
stepped_of (Err e) = record { refusal = refusal_number e; flag = false; passed = neither; stores = None }
