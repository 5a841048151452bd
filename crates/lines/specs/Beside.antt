-- Two panes side by side: a row, and beside it what another machine has there, or what the row was before.
use Rattle.std.specs.Prelude.{ℕ, ◌≡◌, ◌<◌, Bool, true, false, cond, not, List, [], ◌∷◌, length, take, drop, eqb, Option, MatchOption}
use Rattle.text.specs.declared.line.Line.{Line}
use Rattle.text.specs.Shown.{◌⊕◌, ascii, padded, text_of}
use Rattle.text.specs.Typed.{same}
use Rattle.lines.specs.declared.beside.Between.{Between}
use Rattle.lines.specs.declared.beside.Between.TheVariants.{Every, Differing}

-- a line that is to be shown where there is one: none where the text has no bytes
abbrev pub Shows : Option Line → List ℕ → Type 0
Shows shown t = MatchOption shown (t ≡ []) (λ line. (text_of line ≡ t) × (0 < length t))

-- what stands between two panes: 124 is |
abbrev pub sign_of : Between → ℕ
sign_of Every = 124
sign_of (Differing sign) = sign

-- a pane of every row
abbrev pub every_of : Between → Bool
every_of Every = true
every_of (Differing sign) = false

-- a row with a mark in front
abbrev pub marked : ℕ → List ℕ → List ℕ
marked sign row = [] ⊕ (sign ∷ []) ⊕ ascii " " ⊕ row

-- a row's label has 13 bytes; a row that a machine has not is its label alone
abbrev pub labelled : List ℕ → List ℕ → List ℕ
labelled row other = cond (eqb (length row) 0) (take 13 other) row

-- the other row begins at column 44, without its label
abbrev pub two_rows : List ℕ → ℕ → List ℕ → List ℕ
two_rows row between other =
    cond (eqb (length other) 0) row (padded 44 (labelled row other) ⊕ (between ∷ []) ⊕ ascii " " ⊕ drop 13 other)

-- whether a row is shown: where the two agree, only in a pane of every row, and if there is one; where they differ, if it
-- is there or every row is to be shown
abbrev pub is_shown : Bool → Bool → Bool → Bool
is_shown agree every none = cond agree (cond every (not none) false) (cond every true (not none))

-- 42 is *
unfoldable pub beside_row : List ℕ → Between → List ℕ → List ℕ
beside_row row between other =
    cond (is_shown (same row other) (every_of between) (eqb (length row) 0))
    (marked (cond (same row other) 32 42) (two_rows row (sign_of between) other)) []
