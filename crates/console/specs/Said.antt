-- What is said of a command, and the line that a turn obeyed, as text.
use Rattle.std.specs.Prelude.{ℕ, List, cond, eqb, length, Option, Some, None}
use Rattle.std.specs.Borrow.{Bor}
use Rattle.text.specs.declared.line.Line.{Line}
use Rattle.text.specs.Shown.{text_of}

-- the text of a line that is said, where there is one
abbrev pub said_of : Option Line → Option (List ℕ)
said_of None = None
said_of (Some line) = Some (text_of line)

-- the text of the line that was obeyed, where there is one
abbrev pub obeyed_of : Option (Bor (List ℕ)) → Option (List ℕ)
obeyed_of None = None
obeyed_of (Some line) = Some line.now

-- a text is said where it has bytes
abbrev pub some_text : List ℕ → Option (List ℕ)
some_text t = cond (eqb (length t) 0) None (Some t)
