-- What a script does for a line l, and for each line of a table: s is what is lent.
use Rattle.std.specs.Prelude.{ℕ, ◌+◌, Bool, true, false, cond, ◌&&◌, List, [], ◌∷◌, eqb}
use Rattle.transfer.specs.Bytes.{bit_of}
use Rattle.script.specs.declared.rows.Line.{Line}
use Rattle.script.specs.declared.rows.Row.{Row}
use Rattle.script.specs.declared.rows.Row.TheVariants.{Case, CaseWhere}
use Rattle.script.specs.Lent.{Lent}
use Rattle.script.specs.Operations.{Played, and_then, row_of}
use Rattle.script.specs.Rows.{number_of}

-- ---- the rows of a line

-- a case is one of the line's if its number is that of the line's table, or if its two numbers are equal. It decides for the rows after it
abbrev pub is_on : Line → Bool → Row → Bool
is_on l before (Case n) = eqb n l.0
is_on l before (CaseWhere a v) = eqb (number_of l a) (number_of l v)
is_on l before _ = before

-- of rows, those in the cases of the line, by whether the row before them was in one
unfoldable pub chosen : Line → Bool → List Row → List Row
chosen l before [] = []
chosen l before (row ∷ rows) = cond (is_on l before row) (row ∷ chosen l true rows) (chosen l false rows)

-- of a script
abbrev pub rows_of : List Row → Line → List Row
rows_of script l = chosen l false script

-- there are rows
abbrev pub is_some : List Row → Bool
is_some [] = false
is_some (row ∷ rows) = true

-- ---- played

-- after what was played, rows one after another
unfoldable pub play_rows : Line → List Row → Played → Played
play_rows l [] x = x
play_rows l (row ∷ rows) x = play_rows l rows (and_then x (row_of l row))

-- a line agrees if there are rows of it and each agrees
abbrev pub play_line : List Row → Line → Lent → Played
play_line script l s =
    let x : Played = play_rows l (rows_of script l) (true, s) in (is_some (rows_of script l) && x.0, x.1)

-- ---- a table

-- how many lines agree, and what they leave of all that is lent
abbrev pub Counted : Type 0
Counted = ℕ × Lent

-- a line more
abbrev pub count_line : List Row → Line → Counted → Counted
count_line script l x = let y : Played = play_line script l x.1 in (x.0 + bit_of y.0, y.1)

-- one line after another
unfoldable pub count_lines : List Row → List Line → Counted → Counted
count_lines script [] x = x
count_lines script (l ∷ lines) x = count_lines script lines (count_line script l x)

-- of a table, from none on
abbrev pub play_table : List Row → List Line → Lent → Counted
play_table script table s = count_lines script table (0, s)
