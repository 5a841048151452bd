-- The numbers that only the claims cite.
use Rattle.std.specs.Prelude.{ℕ}
use Rattle.image.specs.Layout.{place_of, flags, more_flags, transfer, remaining, granted_field}

-- registers come again every 32 addresses
abbrev pub register_window : ℕ
register_window = 32

-- the image's bytes of flags, of two more with the size, and of whether a transfer is there, and the first of remaining and of the count of granted cycles
abbrev pub flags_byte : ℕ
flags_byte = place_of flags

abbrev pub more_flags_byte : ℕ
more_flags_byte = place_of more_flags

abbrev pub transfer_byte : ℕ
transfer_byte = place_of transfer

abbrev pub remaining_byte : ℕ
remaining_byte = place_of remaining

abbrev pub count_byte : ℕ
count_byte = place_of granted_field
