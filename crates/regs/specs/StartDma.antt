-- The transfer that the registers ask for.
use Rattle.regs.specs.Prelude.{ℕ, true, false, List, ReadC64, DmaState}
use Rattle.transfer.specs.Constants.{command, c64_low, c64_high, exp_low, exp_high, exp_bank, length_low, length_high, address_control, autoloads, fixes_exp, fixes_c64}
use Rattle.transfer.specs.Bytes.{bit, word, long}
use Rattle.transfer.specs.Dma.{type_of, length_of}
use Rattle.regs.specs.Registers.{held}

unfoldable pub requested : List ℕ → DmaState
requested l =
    record {
      transfer_type = type_of (held l command);
      swap_phase = ReadC64;
      c64_addr = record { 0 = word (held l c64_low) (held l c64_high) };
      reu_addr = record { 0 = long (held l exp_low) (held l exp_high) (held l exp_bank) };
      remaining = length_of (word (held l length_low) (held l length_high));
      fix_c64 = bit (held l address_control) fixes_c64;
      fix_reu = bit (held l address_control) fixes_exp;
      autoload = bit (held l command) autoloads;
      latch = 0;
      first_byte = true;
      read_clock_odd = false;
      verify_tail = false;
    }
