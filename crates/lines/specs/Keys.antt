-- The commands, and the words that they are typed as.
use Rattle.std.specs.Prelude.{Bool, true, false, ℕ, List, [], ◌∷◌, Option, Some, find}
use Rattle.text.specs.Shown.{ascii}
use Rattle.text.specs.Typed.{same}
use Rattle.lines.specs.declared.keys.Command.{Command}
use Rattle.lines.specs.declared.keys.Command.TheVariants.{R, M, Ms, Poke, PokeStorage, W, Rd, Ff00, Ff00Upper, Z, G, Ba, Cycle, Enable, Disable, Reset, New, Save, Open, Beside, Help, Q, Size}

-- every name
abbrev pub name_of : Command → List ℕ
name_of R = ascii "r"
name_of M = ascii "m"
name_of Ms = ascii "ms"
name_of Poke = ascii ">"
name_of PokeStorage = ascii ">s"
name_of W = ascii "w"
name_of Rd = ascii "rd"
name_of Ff00 = ascii "ff00"
name_of Ff00Upper = ascii "FF00"
name_of Z = ascii "z"
name_of G = ascii "g"
name_of Ba = ascii "ba"
name_of Cycle = ascii "cycle"
name_of Enable = ascii "enable"
name_of Disable = ascii "disable"
name_of Reset = ascii "reset"
name_of New = ascii "new"
name_of Save = ascii "save"
name_of Open = ascii "open"
name_of Beside = ascii "beside"
name_of Help = ascii "help"
name_of Q = ascii "q"
name_of Size = ascii "size"

-- every command
abbrev pub commands : List Command
commands =
    R ∷ M ∷ Ms ∷ Poke ∷ PokeStorage ∷ W ∷ Rd ∷ Ff00 ∷ Ff00Upper ∷ Z ∷ G ∷ Ba ∷ Cycle ∷ Enable ∷ Disable ∷ Reset ∷ New
    ∷ Save ∷ Open ∷ Beside ∷ Help ∷ Q ∷ Size ∷ []

-- the command whose name a word is; none where it is none of them
unfoldable pub command_of : List ℕ → Option Command
command_of w = find (λ c. same (name_of c) w) commands

-- the controller's lines and its switch, each a word alone
abbrev pub is_switch : Option Command → Bool
is_switch (Some Ff00) = true
is_switch (Some Ff00Upper) = true
is_switch (Some Enable) = true
is_switch (Some Disable) = true
is_switch (Some Reset) = true
is_switch _ = false

-- whether a command is there to change the controller
abbrev pub is_change : Option Command → Bool
is_change (Some W) = true
is_change (Some Size) = true
is_change c = is_switch c
