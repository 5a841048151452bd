-- The numbers of document 01, by name. The register record: which register, which bit. The original's constants.rs.
use Rattle.std.specs.Prelude.{◌∷◌}
use Rattle.transfer.specs.Prelude.{ℕ, List, []}

-- ---- "0 STATUS, 1 COMMAND, 2/3 C64 address low/high, 4/5/6 expansion address low/high/bank, 7/8 length low/high, 9 interrupt mask, 10 address control"

abbrev pub status : ℕ
status = 0

abbrev pub command : ℕ
command = 1

abbrev pub c64_low : ℕ
c64_low = 2

abbrev pub c64_high : ℕ
c64_high = 3

abbrev pub exp_low : ℕ
exp_low = 4

abbrev pub exp_high : ℕ
exp_high = 5

abbrev pub exp_bank : ℕ
exp_bank = 6

abbrev pub length_low : ℕ
length_low = 7

abbrev pub length_high : ℕ
length_high = 8

abbrev pub interrupt_mask : ℕ
interrupt_mask = 9

abbrev pub address_control : ℕ
address_control = 10

abbrev pub register_count : ℕ
register_count = 11

-- "Index 11 to 31 reads $FF"
abbrev pub unused_register : ℕ
unused_register = 255

-- ---- bits. STATUS: "bit 4 is the version mark", by L4 "a chip-size mark", ".. 5 verify error, 6 end of block, 7 interrupt"

abbrev pub version : ℕ
version = 4

abbrev pub verify_error : ℕ
verify_error = 5

abbrev pub end_of_block : ℕ
end_of_block = 6

abbrev pub interrupt : ℕ
interrupt = 7

-- COMMAND: "4 start without FF00, 5 Autoload, 7 execute"
abbrev pub without_ff00 : ℕ
without_ff00 = 4

abbrev pub autoloads : ℕ
autoloads = 5

abbrev pub execute : ℕ
execute = 7

-- "Mask bits 5, 6, 7 enable verify, end of block, all"
abbrev pub enable_all : ℕ
enable_all = 7

-- "Control bit 7 fixes the C64 address, bit 6 the expansion address"
abbrev pub fixes_exp : ℕ
fixes_exp = 6

abbrev pub fixes_c64 : ℕ
fixes_c64 = 7

-- the bits that always read 1: of the bank ("OR $F8"), of the mask ("OR $1F") and of the control ("OR $3F")
abbrev pub bank_ones : List ℕ
bank_ones = 3 ∷ 4 ∷ 5 ∷ 6 ∷ 7 ∷ []

abbrev pub mask_ones : List ℕ
mask_ones = 0 ∷ 1 ∷ 2 ∷ 3 ∷ 4 ∷ []

abbrev pub control_ones : List ℕ
control_ones = 0 ∷ 1 ∷ 2 ∷ 3 ∷ 4 ∷ 5 ∷ []

-- ---- sizes: a C64 address has 16 bits, an expansion address 24; "524,288 bytes" is a new controller's; "Length 0 means 65,536"

abbrev pub bus_size : ℕ
bus_size = 65536

abbrev pub expansion_limit : ℕ
expansion_limit = 16777216

abbrev pub new_size : ℕ
new_size = 524288

abbrev pub full_length : ℕ
full_length = 65536
