-- What is wrong with a number that was typed, as a line to show: no bytes where nothing is.
use Rattle.std.specs.Prelude.{ℕ, zero, suc, ◌+◌, ◌-◌, ◌≡◌, ◌<◌, cond, List, [], leb, eqb, length, Result, Ok, Err, MatchResult}
use Rattle.text.specs.declared.line.Line.{Line}
use Rattle.text.specs.declared.number.NumberFault.{NumberFault}
use Rattle.text.specs.declared.number.NumberFault.TheVariants.{Bad, TooLarge}
use Rattle.text.specs.Shown.{◌⊕◌, ascii, hex_of, fill_of, text_of}
use Rattle.text.specs.Typed.{number_of, word_of, words_of}

abbrev pub larger : List ℕ → ℕ → List ℕ
larger w most = fill_of "too large: % (at most " w ⊕ hex_of 6 most ⊕ ascii ")"

abbrev pub fault_by : Result ℕ NumberFault → List ℕ → ℕ → List ℕ
fault_by (Ok n) w most = cond (leb n most) [] (larger w most)
fault_by (Err TooLarge) w most = larger w most
fault_by (Err Bad) w most = fill_of "bad number: % (hexadecimal, $ optional; decimal with a leading +)" w

-- of a word that has to be a number of at most `most`
unfoldable pub fault_of : List ℕ → ℕ → List ℕ
fault_of w most = fault_by (number_of w) w most

-- the first of two that is not empty
abbrev pub or_else : List ℕ → List ℕ → List ℕ
or_else a b = cond (eqb (length a) 0) b a

-- the first fault of k words of a line, from a word on
unfoldable pub faults_from : ℕ → ℕ → List ℕ → ℕ → List ℕ
faults_from zero i t most = []
faults_from (suc k) i t most = or_else (fault_of (word_of i t) most) (faults_from k (i + 1) t most)

-- of all words from one on
abbrev pub faults_of : List ℕ → ℕ → ℕ → List ℕ
faults_of t from most = faults_from (words_of t - from) from t most

-- what a check of what was typed says: nothing is wrong where the text is empty, and else the error shows the text
abbrev pub Says : {T : Type 0} → Result T Line → List ℕ → Type 0
Says r t = MatchResult r (λ _. t ≡ []) (λ line. (text_of line ≡ t) × (0 < length t))
