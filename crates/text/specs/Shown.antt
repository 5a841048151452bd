-- A line as text, and what is put into one.
use Rattle.std.specs.Prelude.{ℕ, zero, suc, ◌+◌, ◌-◌, ◌/◌, ◌%◌, Bool, false, cond, List, [], ◌∷◌, ◌++◌, ltb, eqb, length, take, replicate}
use Prim.Native.Char.{code}
use Prim.Native.String.{String, [] as []ˢ, ◌∷◌ as ◌∷ˢ◌}
use Rattle.transfer.specs.Bytes.{bit, bit_of}
use Rattle.text.specs.declared.line.Line.{Line}

-- the bytes of a quoted text
abbrev pub ascii : String → List ℕ
ascii []ˢ = []
ascii (c ∷ˢ s) = code c ∷ ascii s

-- the bytes of a line
abbrev pub text_of : Line → List ℕ
text_of l = take l.used l.bytes

infixl 65 ◌⊕◌
-- a text and another behind it: what does not fit in a line is left out
unfoldable pub ◌⊕◌ : List ℕ → List ℕ → List ℕ
t ⊕ s = take 160 (t ++ s)

-- blanks up to a column
abbrev pub padded : ℕ → List ℕ → List ℕ
padded column t = t ⊕ replicate (column - length t) 32

-- ---- numbers

-- a hexadecimal digit: 0 to 9, then A to F
abbrev pub hex_digit : ℕ → ℕ
hex_digit d = cond (ltb d 10) (48 + d) (cond (ltb d 16) (55 + d) 63)

-- the last k hexadecimal digits of n, the most significant first
unfoldable pub hex_of : ℕ → ℕ → List ℕ
hex_of zero n = []
hex_of (suc k) n = hex_of k (n / 16) ++ (hex_digit (n % 16) ∷ [])

-- a number in decimal, without zeros in front; at most k digits of it
unfoldable pub decimal_up_to : ℕ → ℕ → List ℕ
decimal_up_to zero n = []
decimal_up_to (suc k) n = cond (ltb n 10) ((48 + n) ∷ []) (decimal_up_to k (n / 10) ++ ((48 + n % 10) ∷ []))

-- as it is shown, and typed: after a +. 64 bits have at most 20 digits
abbrev pub decimal_of : ℕ → List ℕ
decimal_of n = 43 ∷ decimal_up_to 20 n

-- ---- templates

-- a template in which a digit right after = is a bit's number, and that bit of b stands in its place; `named` says that = came last
unfoldable pub bits_from : Bool → List ℕ → ℕ → List ℕ
bits_from named [] b = []
bits_from named (c ∷ s) b = cond named (48 + bit_of (bit b (c - 48))) c ∷ bits_from (eqb c 61) s b

abbrev pub bits_of : String → ℕ → List ℕ
bits_of template b = bits_from false (ascii template) b

-- a template in which a word stands for each %
unfoldable pub fill_from : List ℕ → List ℕ → List ℕ
fill_from [] w = []
fill_from (c ∷ s) w = cond (eqb c 37) w (c ∷ []) ++ fill_from s w

abbrev pub fill_of : String → List ℕ → List ℕ
fill_of template w = [] ⊕ fill_from (ascii template) w
