-- What an author types: words, and numbers in hexadecimal with an optional $ or in decimal with a leading +.
use Rattle.std.specs.Prelude.{ℕ, ◌+◌, ◌-◌, ◌*◌, Bool, true, false, cond, List, [], ◌∷◌, ◌++◌, ltb, leb, eqb, length, drop, get_or, Result, Ok, Err}
use Rattle.text.specs.declared.number.NumberFault.{NumberFault}
use Rattle.text.specs.declared.number.NumberFault.TheVariants.{Bad, TooLarge}

-- ---- words

-- a blank, a tab or a carriage return
abbrev pub is_blank : ℕ → Bool
is_blank b = cond (eqb b 32) true (cond (eqb b 9) true (eqb b 13))

-- how many words begin: at each character that is no blank, unless `inside` says that it goes on with a word
unfoldable pub words_from : Bool → List ℕ → ℕ
words_from inside [] = 0
words_from inside (b ∷ s) = cond (is_blank b) (words_from false s) (cond inside 0 1 + words_from true s)

abbrev pub words_of : List ℕ → ℕ
words_of s = words_from false s

-- the word with a number, from 0 on: the characters that are no blanks and before which so many words have ended;
-- `ended` words have, and `inside` says whether one goes on
unfoldable pub word_from : ℕ → ℕ → Bool → List ℕ → List ℕ
word_from wanted ended inside [] = []
word_from wanted ended inside (b ∷ s) =
    cond (is_blank b) (word_from wanted (ended + cond inside 1 0) false s)
    (cond (eqb ended wanted) (b ∷ []) [] ++ word_from wanted ended true s)

abbrev pub word_of : ℕ → List ℕ → List ℕ
word_of wanted s = word_from wanted 0 false s

-- whether two texts are the same
unfoldable pub same : List ℕ → List ℕ → Bool
same [] [] = true
same [] (b ∷ t) = false
same (a ∷ s) [] = false
same (a ∷ s) (b ∷ t) = cond (eqb a b) (same s t) false

-- ---- numbers

-- the value of a digit, 0 to 9, A to F or a to f; 16 for any other character
abbrev pub digit_of : ℕ → ℕ
digit_of b =
    cond (ltb b 48) 16
    (cond (ltb b 58) (b - 48)
    (cond (ltb b 65) 16
    (cond (ltb b 71) (b - 55)
    (cond (ltb b 97) 16
    (cond (ltb b 103) (b - 87) 16)))))

-- what digits say that follow a value, from the left: a character that is no digit of the base is bad, 24 bits are the most
unfoldable pub digits_from : ℕ → ℕ → List ℕ → Result ℕ NumberFault
digits_from base value [] = Ok value
digits_from base value (b ∷ s) =
    cond (leb base (digit_of b)) (Err Bad)
    (cond (ltb 16777215 (value * base + digit_of b)) (Err TooLarge) (digits_from base (value * base + digit_of b) s))

-- the digits of `s` from a place on; none at all is bad
abbrev pub digits_of : ℕ → List ℕ → ℕ → Result ℕ NumberFault
digits_of base s from = cond (leb (length s) from) (Err Bad) (digits_from base 0 (drop from s))

-- 43 is +, 36 is $
unfoldable pub number_of : List ℕ → Result ℕ NumberFault
number_of s =
    cond (eqb (length s) 0) (Err Bad)
    (cond (eqb (get_or s 0 0) 43) (digits_of 10 s 1)
    (cond (eqb (get_or s 0 0) 36) (digits_of 16 s 1) (digits_of 16 s 0)))

-- its value; 0 for what is none
abbrev pub value_of : Result ℕ NumberFault → ℕ
value_of (Ok n) = n
value_of (Err fault) = 0
