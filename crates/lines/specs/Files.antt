-- The three files of a saved machine.
use Rattle.std.specs.Prelude.{ℕ, Bool, false, cond, ◌||◌, List, [], ◌++◌, length, take, drop, eqb}
use Rattle.text.specs.Shown.{◌⊕◌, ascii, decimal_up_to, fill_of}
use Rattle.lines.specs.declared.files.Part.{Part}
use Rattle.lines.specs.declared.files.Part.TheVariants.{Image, Bus, Storage}
use Rattle.lines.specs.declared.files.Length.{Length}
use Rattle.lines.specs.declared.files.Length.TheVariants.{Exactly, MoreThan}

-- the image has the name that is given, the bus and the storage have theirs behind it
abbrev pub suffix_of : Part → List ℕ
suffix_of Image = []
suffix_of Bus = ascii ".bus"
suffix_of Storage = ascii ".storage"

-- a name with what its part has behind it
abbrev pub part_name : List ℕ → Part → List ℕ
part_name name Image = name
part_name name Bus = name ⊕ ascii ".bus"
part_name name Storage = name ⊕ ascii ".storage"

-- bytes over others, from the first on: what has no room is left out
abbrev pub copied_over : List ℕ → List ℕ → List ℕ
copied_over from to = take (length to) from ++ drop (length from) to

-- ---- a file that has another length than its part needs

-- what was counted of it
unfoldable pub length_text : List ℕ → Length → List ℕ
length_text file (Exactly n) = fill_of "refused: % has " file ⊕ decimal_up_to 20 n
length_text file (MoreThan n) = fill_of "refused: % has " file ⊕ ascii "more than " ⊕ decimal_up_to 20 n

-- the lengths of earlier images: document 01's "34 bytes", and L1's "The image grows to 38 bytes"
abbrev pub is_earlier : Length → Bool
is_earlier (Exactly n) = eqb n 34 || eqb n 38
is_earlier (MoreThan n) = false

-- "Refusal 1" is of the image alone; L3: "Earlier images are refused"
unfoldable pub reason_text : List ℕ → Part → Length → List ℕ
reason_text t Image got =
    let image : List ℕ = t ⊕ ascii " (refusal 1)" in
    cond (is_earlier got) (image ⊕ ascii ": an earlier release saved it") image
reason_text t other got = t

abbrev pub length_fault : List ℕ → Part → Length → ℕ → List ℕ
length_fault name part got needed =
    reason_text
    (length_text (part_name name part) got ⊕ ascii " bytes, " ⊕ decimal_up_to 20 needed ⊕ ascii " are needed") part got
