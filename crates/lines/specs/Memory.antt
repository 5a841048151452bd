-- Bytes of the bus and of the storage: `>`, `>s`, `m` and `ms`. t is the line that was typed.
use Rattle.std.specs.Prelude.{ℕ, zero, suc, ◌+◌, ◌-◌, ◌%◌, min, cond, List, [], ◌∷◌, ◌++◌, take, drop, ◌==◌, leb, ltb, slice_set}
use Rattle.transfer.specs.Memory.{zeros}
use Rattle.text.specs.Faults.{fault_of, faults_of, or_else}
use Rattle.text.specs.Bytes.{byte_at}
use Rattle.text.specs.Shown.{◌⊕◌, ascii, hex_of, fill_of}
use Rattle.text.specs.Typed.{number_of, value_of, word_of, words_of}
use Rattle.lines.specs.declared.memory.Memory.{Memory}
use Rattle.lines.specs.declared.memory.Memory.TheVariants.{Bus, Storage}

-- what lies from a place on is 0
abbrev pub cleared_from : ℕ → List ℕ → List ℕ
cleared_from n m = take n m ++ zeros (drop n m)

-- the address is the second word, the bytes are the words after it
abbrev pub address : List ℕ → ℕ
address t = value_of (number_of (word_of 1 t))

abbrev pub typed : List ℕ → ℕ → ℕ
typed t i = value_of (number_of (word_of i t)) % 256

-- the bytes that k words are, from a word on
unfoldable pub bytes_from : ℕ → ℕ → List ℕ → List ℕ
bytes_from zero i t = []
bytes_from (suc k) i t = typed t i ∷ bytes_from k (i + 1) t

abbrev pub bytes_of : List ℕ → List ℕ
bytes_of t = bytes_from (words_of t - 2) 2 t

-- bytes one after another to one address after another
unfoldable pub each : (ℕ → ℕ → List ℕ → List ℕ) → ℕ → List ℕ → List ℕ → List ℕ
each f a [] m = m
each f a (b ∷ s) m = each f (a + 1) s (f a b m)

-- ---- > and >s: what lies past the memory's end is left out

abbrev pub stored : List ℕ → List ℕ → List ℕ
stored t m = each (λ a b n. slice_set n a b) (address t) (bytes_of t) m

unfoldable pub store_fault : List ℕ → ℕ → List ℕ
store_fault t most =
    cond (ltb (words_of t) 3) (fill_of "usage: % ADDR BYTE.." (word_of 0 t))
    (or_else (fault_of (word_of 1 t) most)
    (cond (ltb most (address t + (words_of t - 3))) (fill_of "% runs past the last address" (word_of 0 t))
    (faults_of t 2 255)))

-- ---- m and ms

-- the address as the command that puts bytes there has it
abbrev pub address_text : Memory → ℕ → List ℕ
address_text Bus a = [] ⊕ ascii "> " ⊕ hex_of 4 a
address_text Storage a = [] ⊕ ascii ">s " ⊕ hex_of 5 a

-- k bytes from an address on, behind a text, as far as `end`
unfoldable pub bytes_text : ℕ → List ℕ → ℕ → ℕ → List ℕ → List ℕ
bytes_text zero m a end t = t
bytes_text (suc k) m a end t = bytes_text k m (a + 1) end (cond (leb a end) (t ⊕ ascii " " ⊕ hex_of 2 (byte_at m a)) t)

abbrev pub bytes_line : Memory → List ℕ → ℕ → ℕ → List ℕ
bytes_line kind m a end = bytes_text 16 m a end (address_text kind a)

-- the last address to show: the third word, or 63 addresses on
unfoldable pub end_of : List ℕ → ℕ → ℕ
end_of t most = cond (words_of t == 3) (value_of (number_of (word_of 2 t))) (min (address t + 63) most)

unfoldable pub range_fault : List ℕ → ℕ → List ℕ
range_fault t most =
    or_else (faults_of t 1 most)
    (cond (ltb (end_of t most) (address t)) (fill_of "%: END is below ADDR" (word_of 0 t)) [])

unfoldable pub show_fault : List ℕ → ℕ → List ℕ
show_fault t most =
    cond (words_of t == 2) (range_fault t most)
    (cond (words_of t == 3) (range_fault t most) (fill_of "usage: % ADDR [END]" (word_of 0 t)))
