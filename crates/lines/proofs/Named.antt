-- A word and its command: the word is the command's name.
use Rattle.std.proofs.Common.{◌≡◌, ℕ, Bool, true, false, cond, eqb, List, [], ◌∷◌, Some, None, Option, refl, eqb-true, subst}
use mathlib.Core.Bool.{false≢true}
use Rattle.std.specs.Prelude.{find}
use Rattle.text.specs.Typed.{same}
use Rattle.lines.specs.declared.keys.Command.{Command}
use Rattle.lines.specs.Keys.{command_of, commands, name_of}

ahead :
    {a b : ℕ} {s t : List ℕ} (x : Bool) → eqb a b ≡ x → cond x (same s t) false ≡ true → (same s t ≡ true → s ≡ t) →
    a ∷ s ≡ b ∷ t
ahead {a} {b} true q e further = λ j. eqb-true a b q j ∷ further e j
ahead false q e further = absurd (false≢true e)

pub same_true : (s t : List ℕ) → same s t ≡ true → s ≡ t
unfolding same
same_true [] [] e = refl
same_true [] (b ∷ t) e = absurd (false≢true e)
same_true (a ∷ s) [] e = absurd (false≢true e)
same_true (a ∷ s) (b ∷ t) e = ahead (eqb a b) refl e (same_true s t)

-- what is right of the command that is found
abbrev Right : List ℕ → Option Command → Type 0
Right w None = Unit {0}
Right w (Some c) = name_of c ≡ w

chosen : (w : List ℕ) (c : Command) (rest : Option Command) (b : Bool) → same (name_of c) w ≡ b → Right w rest → Right w (cond b (Some c) rest)
chosen w c rest true e r = same_true (name_of c) w e
chosen w c rest false e r = r

found : (w : List ℕ) (cs : List Command) → Right w (find (λ c. same (name_of c) w) cs)
found w [] = tt
found w (c ∷ cs) = chosen w c _ (same (name_of c) w) refl (found w cs)

pub named : (w : List ℕ) {c : Command} → command_of w ≡ Some c → name_of c ≡ w
unfolding command_of
named w {c} e = subst (Right w) e (found w commands)
