-- Time: the number of the next cycle, and the BA inputs of those to come, a letter each.
use Rattle.std.specs.Prelude.{ℕ, ◌+◌, ◌-◌, ◌%◌, ◌^◌, Bool, false, cond, List, length, eqb, ltb, Option, Some, None, is_some, unwrap_or, slice_index_or}
use Rattle.std.specs.List.{list_all}
use Rattle.transfer.specs.Bytes.{bit}
use Rattle.text.specs.Shown.{text_of}
use Rattle.lines.specs.declared.clock.Clock.{Clock}
use Rattle.lines.specs.declared.clock.Inputs.{Inputs}

-- what a number from 0 to 7 says of BA: `ba_high`, `ba_high_phi1` and `ba_low` are its bits 2, 1 and 0
abbrev pub said_by : ℕ → Inputs
said_by n = record { ba_high = bit n 2; ba_high_phi1 = bit n 1; ba_low = bit n 0 }

-- what a letter says of BA. h is high, l low, f falls, r rises; a digit from 0 to 7 says the three bits; none for what is no letter
unfoldable pub inputs_of : ℕ → Option Inputs
inputs_of c =
    cond (eqb c 104) (Some (said_by 0b110))
    (cond (eqb c 108) (Some (said_by 0b001))
    (cond (eqb c 102) (Some (said_by 0b011))
    (cond (eqb c 114) (Some (said_by 0b100))
    (cond (ltb c 48) None (cond (ltb c 56) (Some (said_by (c - 48))) None)))))

-- what a cycle is given that has no letter of a pattern: none of the three
abbrev pub nothing_said : Inputs
nothing_said = record { ba_high = false; ba_high_phi1 = false; ba_low = false }

-- the inputs that a cycle is given
abbrev pub inputs_shown : ℕ → Inputs
inputs_shown c = unwrap_or (inputs_of c) nothing_said

-- a pattern has only letters
abbrev pub is_pattern : List ℕ → Bool
is_pattern s = list_all (λ c. is_some (inputs_of c)) s

-- the time: the next cycle's number, BA's letters, and the place of the next one
abbrev pub Time : Type 0
Time = ℕ × List ℕ × ℕ

abbrev pub time_of : Clock → Time
time_of c = (c.cycle, text_of c.ba, c.at)

-- the letter of the next cycle: after the last one BA is high
abbrev pub letter_at : Time → ℕ
letter_at t = slice_index_or t.1 t.2 104

abbrev pub letter_of : Clock → ℕ
letter_of c = letter_at (time_of c)

-- after a cycle; its number has 64 bits
abbrev pub next_time : Time → Time
next_time t = ((t.0 + 1) % 2 ^ 64, t.1, t.2 + cond (ltb t.2 (length t.1)) 1 0)

abbrev pub next_clock : Clock → Clock
next_clock c =
    record {
      cycle = (c.cycle + 1) % 2 ^ 64;
      ba = c.ba;
      at = c.at + cond (ltb c.at (length (text_of c.ba))) 1 0;
    }
