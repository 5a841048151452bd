-- Register writes and reads as the processor makes them: `w` and `rd`. t is the line that was typed, i the image.
use Rattle.std.specs.Prelude.{ℕ, ◌%◌, cond, List, [], eqb, Option, Some, None}
use Rattle.reu.specs.Exports.{reu_read, reu_storage_present, reu_write}
use Rattle.pane.specs.Answers.{accepted, refused_by}
use Rattle.text.specs.Shown.{◌⊕◌, ascii, hex_of, fill_of}
use Rattle.text.specs.Typed.{word_of}
use Rattle.lines.specs.Memory.{address, bytes_of, each}

-- one write after another, at one address after another
abbrev pub written : List ℕ → List ℕ → List ℕ
written t i = each (λ a b j. (reu_write j (a % 65536) b).1) (address t) (bytes_of t) i

-- a read: its line, and what it leaves of the image
unfoldable pub read_text : List ℕ → List ℕ → List ℕ
read_text t i =
    let answer : ℕ = (reu_read i (address t % 65536)).0 in
    cond (accepted answer) (fill_of "% reads " (word_of 1 t) ⊕ hex_of 2 (answer % 256))
    (fill_of "% is not read: " (word_of 1 t) ⊕ refused_by answer)

abbrev pub after_read : List ℕ → List ℕ → List ℕ
after_read t i = (reu_read i (address t % 65536)).1

-- what a write does not show: no storage was ever attached, or the image is refused
unfoldable pub warning_of : List ℕ → Option (List ℕ)
warning_of i =
    cond (eqb (reu_storage_present i) 0) (Some ([] ⊕ ascii "(no storage is attached, so no command runs: enable first)"))
    (cond (accepted (reu_storage_present i)) None
    (Some ([] ⊕ ascii "(nothing is written: the image is " ⊕ refused_by (reu_storage_present i) ⊕ ascii ")")))
