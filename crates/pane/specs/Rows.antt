-- The register pane, row by row: which bytes of an image each row shows, and how they are spelled.
use Rattle.std.specs.Prelude.{ℕ, ◌+◌, ◌/◌, ◌%◌, cond, List, [], ◌∷◌, eqb, ltb, get_or, length, replicate}
use Rattle.transfer.specs.Bytes.{long, word}
use Rattle.transfer.specs.Constants.{status, command, c64_low, exp_low, length_low, interrupt_mask, address_control}
use Rattle.controller.specs.Cycle.{most_granted}
use Rattle.image.specs.Fields.{lifted}
use Rattle.image.specs.Layout.{at, fields, image_size, place_of, shadow_c64, shadow_exp, shadow_length, flags, more_flags, delay, transfer, kind, phase, transfer_c64, transfer_exp, latch, options, granted_field, size_of, transfer_of}
use Rattle.reu.specs.Exports.{reu_debug_register, reu_dma_active, reu_read}
use Rattle.pane.specs.Answers.{accepted, refused_by}
use Rattle.text.specs.Bytes.{byte_at}
use Rattle.text.specs.Shown.{◌⊕◌, ascii, bits_of, decimal_of, decimal_up_to, hex_of}

-- ---- the numbers of two and three bytes that stand at a place

abbrev pub word_at : List ℕ → ℕ → ℕ
word_at i p = word (byte_at i p) (byte_at i (p + 1))

abbrev pub long_at : List ℕ → ℕ → ℕ
long_at i p = long (byte_at i p) (byte_at i (p + 1)) (byte_at i (p + 2))

-- ---- registers

-- what a register holds
abbrev pub held : List ℕ → ℕ → ℕ
held i n = reu_debug_register i n % 256

-- an image of its size; of any other length, which is refused, as many bytes that are refused too
abbrev pub copy_of : List ℕ → List ℕ
copy_of i = cond (eqb (length i) image_size) i (replicate image_size 255)

-- what a read of the register would give, of a copy
abbrev pub reads : List ℕ → ℕ → ℕ
reads i n = (reu_read (copy_of i) n).0 % 256

abbrev pub register_names : List (List ℕ)
register_names =
    ascii " STATUS  " ∷ ascii " COMMAND " ∷ ascii " C64 LO  " ∷ ascii " C64 HI  " ∷ ascii " EXP LO  " ∷ ascii " EXP HI  "
    ∷ ascii " BANK    " ∷ ascii " LEN LO  " ∷ ascii " LEN HI  " ∷ ascii " MASK    " ∷ ascii " CONTROL " ∷ []

abbrev pub register_name : ℕ → List ℕ
register_name n = get_or register_names n []

-- the four transfer types, by the low two bits of the command register
abbrev pub type_name : ℕ → List ℕ
type_name k = get_or (ascii "store" ∷ ascii "recall" ∷ ascii "swap" ∷ []) k (ascii "verify")

-- what is spelled out behind a register's value: its bits, or, at the low byte of a pair, the counter and its shadow
unfoldable pub spelled : List ℕ → ℕ → List ℕ → List ℕ
spelled i n t =
    cond (eqb n 0) (t ⊕ bits_of " irq=7 end=6 err=5 ver=4" (byte_at i status))
    (cond (eqb n 1) (t ⊕ bits_of " exec=7 load=5 now=4 " (byte_at i command) ⊕ type_name (byte_at i command % 4))
    (cond (eqb n 2) (t ⊕ ascii " c64 " ⊕ hex_of 4 (word_at i c64_low) ⊕ ascii " shadow " ⊕ hex_of 4 (word_at i (place_of shadow_c64)))
    (cond (eqb n 4) (t ⊕ ascii " exp " ⊕ hex_of 6 (long_at i exp_low) ⊕ ascii " shadow " ⊕ hex_of 6 (long_at i (place_of shadow_exp)))
    (cond (eqb n 7) (t ⊕ ascii " len " ⊕ hex_of 4 (word_at i length_low) ⊕ ascii " shadow " ⊕ hex_of 4 (word_at i (place_of shadow_length)))
    (cond (eqb n 9) (t ⊕ bits_of " all=7 end=6 err=5" (byte_at i interrupt_mask))
    (cond (eqb n 10) (t ⊕ bits_of " fixc64=7 fixexp=6" (byte_at i address_control)) t))))))

-- a register by its address and name, what it holds, what that means, and what a read would give where that differs
unfoldable pub register_row : List ℕ → ℕ → List ℕ
register_row i n =
    let t : List ℕ = spelled i n ([] ⊕ ascii "DF0" ⊕ hex_of 1 n ⊕ register_name n ⊕ hex_of 2 (held i n)) in
    cond (eqb (reads i n) (held i n)) t (t ⊕ ascii " reads " ⊕ hex_of 2 (reads i n))

-- ---- flags, and the delay

unfoldable pub flags_row : List ℕ → ℕ → List ℕ
flags_row i n =
    cond (eqb n 11) ([] ⊕ bits_of "interrupt    level=1" (byte_at i (place_of flags)))
    (cond (eqb n 12) ([] ⊕ bits_of "machine      enabled=0 attached=2 armed=3" (byte_at i (place_of flags)))
    (cond (eqb n 13) ([] ⊕ bits_of "BA history   washigh=4 latefall=7" (byte_at i (place_of flags)))
    (cond (eqb n 14) ([] ⊕ bits_of "BA rules     repeat=5 terminal=6" (byte_at i (place_of flags)))
    (cond (eqb n 15) ([] ⊕ bits_of "swap rules   refresh=0 release=1" (byte_at i (place_of more_flags)))
    ([] ⊕ ascii "delay        " ⊕ hex_of 1 (byte_at i (place_of delay)))))))

-- ---- the size of the storage

-- L4: "Byte 19 bits 2-3 hold 0 for 512 KiB, 1 for 256, 2 for 128"
unfoldable pub size_in : List ℕ → ℕ
size_in i = size_of (byte_at i (place_of more_flags) / 4)

unfoldable pub storage_row : List ℕ → List ℕ
storage_row i = [] ⊕ ascii "storage      " ⊕ decimal_up_to 20 (size_in i / 1024) ⊕ ascii " KiB"

-- ---- the count of granted cycles

-- the image's number, as opening it takes it from the list of fields
unfoldable pub granted_in : List ℕ → ℕ
granted_in i = at (lifted fields i) granted_field

-- in decimal; "held at 4,294,967,295", where more may have been granted
unfoldable pub granted_row : List ℕ → List ℕ
granted_row i =
    let t : List ℕ = [] ⊕ ascii "granted      " ⊕ decimal_of (granted_in i) ⊕ ascii " cycles" in
    cond (eqb (granted_in i) most_granted) (t ⊕ ascii " or more") t

-- ---- the transfer

-- its type and phase
unfoldable pub transfer_row : List ℕ → List ℕ
transfer_row i =
    let t : List ℕ = [] ⊕ ascii "transfer     " in
    cond (eqb (byte_at i (place_of transfer)) 0) (t ⊕ ascii "none")
    (cond (eqb (byte_at i (place_of phase)) 0) (t ⊕ type_name (byte_at i (place_of kind)) ⊕ ascii ", read phase")
    (t ⊕ type_name (byte_at i (place_of kind)) ⊕ ascii ", write phase"))

-- what remains, as opening the image takes it; L3: "0 meaning 65,536"
unfoldable pub remaining_in : List ℕ → ℕ
remaining_in i = (transfer_of (lifted fields i)).remaining

-- its addresses and what remains; its latch and state; its options. No bytes where there is no transfer
unfoldable pub running_row : List ℕ → ℕ → List ℕ
running_row i n =
    cond (eqb (byte_at i (place_of transfer)) 0) []
    (cond (eqb n 20)
    ([] ⊕ ascii "  at         c64 " ⊕ hex_of 4 (word_at i (place_of transfer_c64)) ⊕ ascii " exp " ⊕ hex_of 6 (long_at i (place_of transfer_exp)) ⊕ ascii " left "
    ⊕ hex_of 5 (remaining_in i))
    (cond (eqb n 21)
    ([] ⊕ ascii "  latch      " ⊕ hex_of 2 (byte_at i (place_of latch)) ⊕ bits_of " first=3 odd=4 tail=5" (byte_at i (place_of options)))
    (cond (eqb n 22) ([] ⊕ bits_of "  options    fixc64=0 fixexp=1 load=2" (byte_at i (place_of options))) [])))

-- ---- all of them

-- how many; the last is of refused images alone
abbrev pub row_count : ℕ
row_count = 24

-- what the controller holds
unfoldable pub held_row : List ℕ → ℕ → List ℕ
held_row i n =
    cond (ltb n 11) (register_row i n)
    (cond (ltb n 17) (flags_row i n)
    (cond (eqb n 17) (storage_row i)
    (cond (eqb n 18) (granted_row i)
    (cond (eqb n 19) (transfer_row i) (running_row i n)))))

-- of a refused image one row says so, which an accepted one has not; no bytes in the others
unfoldable pub refused_row : ℕ → ℕ → List ℕ
refused_row answer n =
    cond (eqb n 23) ([] ⊕ ascii "image        " ⊕ refused_by answer ⊕ ascii ": no controller") []

-- every call refuses an image alike: one is asked
unfoldable pub row_of : List ℕ → ℕ → List ℕ
row_of i n = cond (accepted (reu_dma_active i)) (held_row i n) (refused_row (reu_dma_active i) n)
