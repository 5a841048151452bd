-- Worked examples of the definitions, with what was expected written by hand: bytes stored, faults, lengths of files, BA, two panes side by side.
use Rattle.std.proofs.Common.{◌≡◌, false, [], ◌∷◌, ◌++◌, Some, None, map, replicate, refl}
use Rattle.text.specs.Faults.{fault_of, faults_from}
use Rattle.text.specs.Shown.{◌⊕◌, ascii, decimal_up_to, fill_from, hex_of}
use Rattle.text.specs.Typed.{digits_from, number_of, same, word_from, words_from}
use Rattle.lines.specs.Beside.{beside_row}
use Rattle.lines.specs.declared.beside.Between.TheVariants.{Differing}
use Rattle.lines.specs.declared.files.Length.TheVariants.{Exactly, MoreThan}
use Rattle.lines.specs.declared.files.Part.TheVariants.{Image, Bus, Storage}
use Rattle.lines.specs.declared.memory.Memory.TheVariants.{Bus as OfBus, Storage as OfStorage}
use Rattle.lines.specs.Clock.{inputs_of, is_pattern}
use Rattle.lines.specs.Commands.{is_comment, line_fault, size_fault, size_typed}
use Rattle.lines.specs.Keys.{command_of, commands, name_of}
use Rattle.lines.specs.Files.{length_fault, length_text, reason_text}
use Rattle.lines.specs.Memory.{bytes_from, bytes_line, bytes_text, each, range_fault, show_fault, stored, store_fault}

two_bytes : stored (ascii "> $2 11 +34") (replicate 5 0) ≡ 0 ∷ 0 ∷ 0x11 ∷ 0x22 ∷ 0 ∷ []
unfolding words_from word_from number_of digits_from bytes_from each
two_bytes = refl

shown_again : bytes_line OfBus (0 ∷ 0 ∷ 0x11 ∷ 0x22 ∷ 0 ∷ []) 2 3 ≡ ascii "> 0002 11 22"
unfolding bytes_text hex_of ◌⊕◌
shown_again = refl

shown_of_storage : bytes_line OfStorage (0 ∷ 0 ∷ 0x11 ∷ 0x22 ∷ 0 ∷ []) 2 3 ≡ ascii ">s 00002 11 22"
unfolding bytes_text hex_of ◌⊕◌
shown_of_storage = refl

past_the_end : line_fault (ascii "> FFFF 1 2") 0x7FFFF ≡ ascii "> runs past the last address"
unfolding line_fault is_comment command_of store_fault fault_of faults_from fill_from same words_from word_from number_of digits_from ◌⊕◌
past_the_end = refl

no_command : line_fault (ascii "jump 1000") 0x7FFFF ≡ ascii "unknown command: jump (help lists them)"
unfolding line_fault is_comment command_of fill_from same words_from word_from ◌⊕◌
no_command = refl

-- a word that only ends in a name is no command: nothing is reset
not_reset : line_fault (0 ∷ ascii "reset") 0x7FFFF ≡ ascii "unknown command: " ++ (0 ∷ ascii "reset (help lists them)")
unfolding line_fault is_comment command_of fill_from same words_from word_from ◌⊕◌
not_reset = refl

-- images of earlier releases, others that are too short or too long, a storage that goes on; no bus is an earlier image
before_count : length_fault (ascii "old.reu") Image (Exactly 34) 37
    ≡ ascii "refused: old.reu has 34 bytes, 37 are needed (refusal 1): an earlier release saved it"
unfolding length_text reason_text decimal_up_to fill_from ◌⊕◌
before_count = refl

three_bytes : length_fault (ascii "old.reu") Image (Exactly 38) 37
    ≡ ascii "refused: old.reu has 38 bytes, 37 are needed (refusal 1): an earlier release saved it"
unfolding length_text reason_text decimal_up_to fill_from ◌⊕◌
three_bytes = refl

short_image : length_fault (ascii "x") Image (Exactly 36) 37 ≡ ascii "refused: x has 36 bytes, 37 are needed (refusal 1)"
unfolding length_text reason_text decimal_up_to fill_from ◌⊕◌
short_image = refl

long_image : length_fault (ascii "x") Image (MoreThan 38) 37 ≡ ascii "refused: x has more than 38 bytes, 37 are needed (refusal 1)"
unfolding length_text reason_text decimal_up_to fill_from ◌⊕◌
long_image = refl

long_storage : length_fault (ascii "x") Storage (MoreThan 524289) 524288 ≡ ascii "refused: x.storage has more than 524289 bytes, 524288 are needed"
unfolding length_text reason_text decimal_up_to fill_from ◌⊕◌
long_storage = refl

short_bus : length_fault (ascii "x") Bus (Exactly 34) 65536 ≡ ascii "refused: x.bus has 34 bytes, 65536 are needed"
unfolding length_text reason_text decimal_up_to fill_from ◌⊕◌
short_bus = refl

-- the storage's last offset goes by its size: 1FFFF is 128 KiB's
last_offset : line_fault (ascii ">s 1FFFF 1") 0x1FFFF ≡ []
unfolding line_fault is_comment command_of store_fault fault_of faults_from same words_from word_from number_of digits_from ◌⊕◌
last_offset = refl

past_its_size : line_fault (ascii "ms 20000") 0x1FFFF ≡ ascii "too large: 20000 (at most 01FFFF)"
unfolding line_fault is_comment command_of show_fault range_fault fault_of faults_from fill_from hex_of same words_from word_from number_of digits_from ◌⊕◌
past_its_size = refl

-- L4's three sizes; 80, which is 128 in hexadecimal, is none
three_sizes : map size_typed (ascii "128" ∷ ascii "256" ∷ ascii "512" ∷ []) ≡ Some 131072 ∷ Some 262144 ∷ Some 524288 ∷ []
unfolding size_typed same
three_sizes = refl

a_size : line_fault (ascii "size 128") 0x7FFFF ≡ []
unfolding line_fault is_comment command_of size_fault size_typed same words_from word_from
a_size = refl

no_size : line_fault (ascii "size 80") 0x7FFFF ≡ ascii "usage: size 128, size 256 or size 512 (KiB), before enable"
unfolding line_fault is_comment command_of size_fault size_typed fill_from same words_from word_from ◌⊕◌
no_size = refl

-- every name is its command's and no other's, and what is no name is none's
all_named : map (λ c. command_of (name_of c)) commands ≡ map Some commands
unfolding command_of same
all_named = refl

none : command_of (ascii "resets") ≡ None
unfolding command_of same
none = refl

a_comment : line_fault (ascii "# jump") 0x7FFFF ≡ []
unfolding line_fault is_comment word_from
a_comment = refl

-- f falls: low to the processor and to the transfer, high at the first phase; 3 says the same
falls : inputs_of 102 ≡ inputs_of 51
unfolding inputs_of
falls = refl

no_pattern : is_pattern (ascii "hlx") ≡ false
unfolding inputs_of
no_pattern = refl

-- column 44 has the sign, and the label is not said again
differs :
    beside_row (ascii "DF03 C64 HI  10") (Differing 60) (ascii "DF03 C64 HI  00")
    ≡ ascii "* DF03 C64 HI  10                             < 00"
unfolding beside_row same ◌⊕◌
differs = refl

agrees : beside_row (ascii "DF03 C64 HI  10") (Differing 60) (ascii "DF03 C64 HI  10") ≡ []
unfolding beside_row same
agrees = refl
