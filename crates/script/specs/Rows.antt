-- The numbers and the grant of a row, with the columns of a line filled in.
use Rattle.std.specs.Prelude.{ℕ, ◌+◌, get_or}
use Rattle.transfer.specs.Timing.{action_number}
use Rattle.script.specs.declared.rows.Grant.{Grant}
use Rattle.script.specs.declared.rows.Grant.TheVariants.{Is, Numbered}
use Rattle.script.specs.declared.rows.Line.{Line}
use Rattle.script.specs.declared.rows.Number.{Number}
use Rattle.script.specs.declared.rows.Number.TheVariants.{Just, Column, Plus}

-- column k of a line, counted from 0: what it has not is 0
abbrev pub column_of : Line → ℕ → ℕ
column_of l k = get_or l.1.now k 0

-- a number as it stands, a column, or both, added
abbrev pub number_of : Line → Number → ℕ
number_of l (Just n) = n
number_of l (Column k) = column_of l k
number_of l (Plus n k) = n + column_of l k

-- the number of a grant: that of the one named, or as it stands
abbrev pub grant_of : Line → Grant → ℕ
grant_of l (Is action) = action_number action
grant_of l (Numbered n) = number_of l n
