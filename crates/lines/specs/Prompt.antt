-- What stands before a command. t is the line.
use Rattle.std.specs.Prelude.{ℕ, cond, List, []}
use Rattle.text.specs.Shown.{◌⊕◌, ascii, decimal_of}
use Rattle.lines.specs.Commands.{is_comment}

-- the number of the next cycle
abbrev pub prompt_of : ℕ → List ℕ
prompt_of cycle = [] ⊕ ascii "(" ⊕ decimal_of cycle ⊕ ascii ") "

-- a command is shown behind it, a comment alone
abbrev pub echo_of : ℕ → List ℕ → List ℕ
echo_of cycle t = cond (is_comment t) t (prompt_of cycle ⊕ t)
