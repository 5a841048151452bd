-- What is wrong with a line that writes or reads registers, `w` and `rd`: no bytes where nothing is. t is the line that was typed.
use Rattle.std.specs.Prelude.{ℕ, ◌/◌, cond, List, [], ◌==◌}
use Rattle.text.specs.Faults.{fault_of, or_else}
use Rattle.text.specs.Shown.{fill_of}
use Rattle.text.specs.Typed.{number_of, value_of, word_of, words_of}
use Rattle.lines.specs.Memory.{store_fault}

-- the registers are in the page DF00
unfoldable pub place_fault : List ℕ → List ℕ
place_fault w =
    or_else (fault_of w 65535)
    (cond (value_of (number_of w) / 256 == 0xDF) [] (fill_of "no register at %: they are at DF00 to DF0A" w))

unfoldable pub write_fault : List ℕ → List ℕ
write_fault t = or_else (store_fault t 65535) (place_fault (word_of 1 t))

unfoldable pub read_fault : List ℕ → List ℕ
read_fault t = cond (words_of t == 2) (place_fault (word_of 1 t)) (fill_of "usage: % ADDR" (word_of 0 t))
