-- What an exported call answers: "16,777,216 times the refusal number plus a value".
use Rattle.std.specs.Prelude.{ℕ, ◌≡◌, ◌/◌, Bool, true, false, List, ◌++◌, ltb, Result, MatchResult}
use Rattle.reu.specs.Exports.{refusal_unit}
use Rattle.pane.specs.declared.answers.Refused.{Refused}
use Rattle.text.specs.Shown.{ascii, decimal_up_to}

-- a value: no refusal
abbrev pub accepted : ℕ → Bool
accepted answer = ltb answer refusal_unit

-- a refusal is shown by its number alone: it has no value
abbrev pub refused_as : ℕ → List ℕ
refused_as number = ascii "refused by " ++ decimal_up_to 20 number

-- a refusal by the whole answer, "16,777,216 times the refusal number"
abbrev pub refused_by : ℕ → List ℕ
refused_by answer = refused_as (answer / refusal_unit)

-- what a code says: its value, where it is accepted, and else the refusal's number
abbrev pub Answers : ℕ → Result ℕ Refused → Type 0
Answers code r =
    MatchResult r (λ value. (accepted code ≡ true) × (value ≡ code))
    (λ refused. (accepted code ≡ false) × (refused.number ≡ code / refusal_unit))
