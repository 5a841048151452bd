-- Which command a line is, and what is wrong with its words: no bytes where nothing is. t is the line that was typed.
use Rattle.std.specs.Prelude.{ℕ, ◌≡◌, Bool, true, false, cond, List, [], ◌∷◌, length, ltb, eqb, Option, Some, None, slice_index}
use Prim.Native.String.{String}
use Rattle.text.specs.Faults.{fault_of}
use Rattle.text.specs.Shown.{◌⊕◌, ascii, fill_of}
use Rattle.text.specs.Typed.{same, word_of, words_of}
use Rattle.lines.specs.declared.keys.Command.{Command}
use Rattle.lines.specs.declared.keys.Command.TheVariants.{M, Ms, Poke, PokeStorage, W, Rd, Z, G, Ba, Cycle, Save, Open, Beside, Size}
use Rattle.lines.specs.Clock.{is_pattern}
use Rattle.lines.specs.Keys.{command_of}
use Rattle.lines.specs.Memory.{show_fault, store_fault}
use Rattle.lines.specs.Registers.{read_fault, write_fault}

-- whether a word is a name
abbrev pub is : String → List ℕ → Bool
is name w = same (ascii name) w

-- a line with no words, or whose first begins with #, which is 35
unfoldable pub is_comment : List ℕ → Bool
is_comment t = cond (eqb (length (word_of 0 t)) 0) true (eqb (slice_index (word_of 0 t) 0) 35)

-- ---- faults

-- a template that says something, whatever the word is that stands for each %
abbrev pub has_text : List ℕ → Bool
has_text [] = false
has_text (c ∷ s) = cond (eqb c 37) (has_text s) true

-- a template that has one
abbrev pub HasText : List ℕ → Type 0
HasText s = has_text s ≡ true

-- a number that may be left out
unfoldable pub count_fault : List ℕ → List ℕ
count_fault t =
    cond (eqb (words_of t) 1) []
    (cond (eqb (words_of t) 2) (fault_of (word_of 1 t) 0xFFFFFF) (fill_of "usage: % [NUMBER]" (word_of 0 t)))

-- so many words
abbrev pub exactly : ℕ → String → List ℕ → List ℕ
exactly n usage t = cond (eqb (words_of t) n) [] (fill_of usage (word_of 0 t))

unfoldable pub file_fault : List ℕ → List ℕ
file_fault t =
    cond (ltb 128 (length (word_of 1 t))) (fill_of "usage: % FILE, a name of at most 128 characters" (word_of 0 t))
    (exactly 2 "usage: % FILE" t)

unfoldable pub ba_fault : List ℕ → List ℕ
ba_fault t =
    let usage : String = "usage: % PATTERN, a letter a cycle: h high, l low, f falls, r rises, 0 to 7 the inputs" in
    cond (is_pattern (word_of 1 t)) (exactly 2 usage t) (fill_of usage (word_of 0 t))

-- L4: "131,072, 262,144 or 524,288", typed as so many KiB in decimal; none for any other word
unfoldable pub size_typed : List ℕ → Option ℕ
size_typed w = cond (is "128" w) (Some 131072) (cond (is "256" w) (Some 262144) (cond (is "512" w) (Some 524288) None))

-- "A size in bytes may be set before storage is attached"
abbrev pub size_fault_by : Option ℕ → List ℕ → List ℕ
size_fault_by None t = fill_of "usage: % 128, % 256 or % 512 (KiB), before enable" (word_of 0 t)
size_fault_by (Some size) t = exactly 2 "usage: % 128, % 256 or % 512 (KiB), before enable" t

-- the same of a line's second word
unfoldable pub size_fault : List ℕ → List ℕ
size_fault t = size_fault_by (size_typed (word_of 1 t)) t

-- the last address of the bus is 65,535; `last` is the last offset of the storage. Last the commands that are a word alone, and what is
-- no command
abbrev pub command_fault : Option Command → List ℕ → ℕ → List ℕ
command_fault (Some M) t last = show_fault t 65535
command_fault (Some Ms) t last = show_fault t last
command_fault (Some Poke) t last = store_fault t 65535
command_fault (Some PokeStorage) t last = store_fault t last
command_fault (Some W) t last = write_fault t
command_fault (Some Rd) t last = read_fault t
command_fault (Some Z) t last = count_fault t
command_fault (Some G) t last = count_fault t
command_fault (Some Cycle) t last = count_fault t
command_fault (Some Save) t last = file_fault t
command_fault (Some Open) t last = file_fault t
command_fault (Some Beside) t last = file_fault t
command_fault (Some Ba) t last = ba_fault t
command_fault (Some Size) t last = size_fault t
command_fault (Some other) t last = exactly 1 "usage: %, with nothing after it" t
command_fault None t last = fill_of "unknown command: % (help lists them)" (word_of 0 t)

-- of any line: 159 characters are the most, and a comment has none
unfoldable pub line_fault : List ℕ → ℕ → List ℕ
line_fault t last =
    cond (ltb 159 (length t)) ([] ⊕ ascii "this line is too long: 159 characters are the most")
    (cond (is_comment t) [] (command_fault (command_of (word_of 0 t)) t last))
