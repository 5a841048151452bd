-- The storage record, and the bytes of the bus.
use Rattle.std.specs.Prelude.{◌+◌, ◌%◌, ◌^◌, ◌&&◌}
use Rattle.std.specs.Int.Count.{count_trailing_zeros, ones as count_ones}
use Rattle.transfer.specs.Prelude.{ℕ, Bool, not, eqb, leb, List, get_or, set, length, replicate, C64Address, ExpansionAddress, Offset, Seen, Put, Nothing, Bus, Storage}
use Rattle.transfer.specs.Constants.{bus_size, expansion_limit}

-- ---- L4: a size in bytes

-- "the number of zero bits below it is the number of address lines connected"; a size is passed in 64 bits
unfoldable pub lines : ℕ → ℕ
lines size = count_trailing_zeros 64 size

-- "131,072, 262,144 or 524,288. A size has a single one bit": 17, 18 or 19 lines
unfoldable pub is_size : ℕ → Bool
is_size size = eqb (count_ones size) 1 && (leb 17 (lines size) && leb (lines size) 19)

-- the chip-size mark "is 0 for 131,072 bytes, 1 for the others"
abbrev pub chip_mark : ℕ → Bool
chip_mark size = not (eqb size 131072)

-- "folding keeps that many low bits"
abbrev pub physical_offset : ℕ → ExpansionAddress → Offset
physical_offset size a = record { 0 = a.0 % 2 ^ lines size }

-- ---- the bytes

abbrev pub bus_byte : List ℕ → C64Address → ℕ
bus_byte m a = get_or m a.0 0

abbrev pub set_bus : List ℕ → C64Address → ℕ → List ℕ
set_bus m a v = set m a.0 v

abbrev pub storage_byte : ℕ → List ℕ → ExpansionAddress → ℕ
storage_byte size s a = get_or s (physical_offset size a).0 0

abbrev pub set_storage : ℕ → List ℕ → ExpansionAddress → ℕ → List ℕ
set_storage size s a v = set s (physical_offset size a).0 v

-- the two bytes at a transfer's place
abbrev pub seen_at : ℕ → C64Address → ExpansionAddress → List ℕ → List ℕ → Seen
seen_at size c e m s = record { bus = bus_byte m c; storage = storage_byte size s e }

-- the bus and the storage after what a step writes: nothing, a byte of the bus, or a byte of the storage
abbrev pub put_bus : Put → List ℕ → List ℕ
put_bus Nothing m = m
put_bus (Bus a v) m = set_bus m a v
put_bus (Storage a v) m = m

abbrev pub put_storage : ℕ → Put → List ℕ → List ℕ
put_storage size Nothing s = s
put_storage size (Bus a v) s = s
put_storage size (Storage a v) s = set_storage size s a v

-- "sets every byte to 0"
unfoldable pub zeros : List ℕ → List ℕ
zeros s = replicate (length s) 0

-- "the C64 address steps up, from $FFFF to $0000 by design, the expansion address likewise, from $FFFFFF to 0"
abbrev pub next_c64 : C64Address → C64Address
next_c64 a = record { 0 = (a.0 + 1) % bus_size }

abbrev pub next_exp : ExpansionAddress → ExpansionAddress
next_exp a = record { 0 = (a.0 + 1) % expansion_limit }
