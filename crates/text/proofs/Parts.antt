-- Words as the parts of a line that is cut at its blanks, and what a check of several words says.
use mathlib.Core.Path.{◌≡◌, refl, sym, ◌∙◌, ap}
use mathlib.Core.Bool.{Bool, true, false, not, cond}
use mathlib.Core.List.{List, [], ◌∷◌, ◌++◌}
use Prim.Native.Nat.{ℕ, zero, suc, ◌+◌, ◌≤◌, ◌<◌}
use native.Mathlib.Nat.{zero-add}
use native.Mathlib.Omega.{arith}
use lib.Dec.{eqb}
use lib.ListN.{length, drop, get_or}
use borrow.Author.Tests.{eq-eqb, ne_eqb}
use Rattle.std.specs.Prelude.{Option, None, Some, filter}
use Rattle.std.specs.List.{slice_split, onto_first}
use Rattle.std.specs.Option.{option_map, unwrap_or}
use Rattle.text.specs.Typed.{is_blank, word_from, word_of, words_from, words_of}

-- what `filter` keeps
abbrev pub some : List ℕ → Bool
some part = not (eqb (length part) 0)

-- one of two, by a test
either : {X : Type 0} (f : List (List ℕ) → X) (q : Bool) {x y : X} {a b : List (List ℕ)} → x ≡ f a → y ≡ f b → cond q x y ≡ f (cond q a b)
either f true p q = p
either f false p q = q

-- a part with a character is one of them
kept : (b : ℕ) (part : List ℕ) → some (b ∷ part) ≡ true
kept b part = ap not (ne_eqb (suc (length part)) 0 (λ e. omega arith))

-- ---- how many words

-- the parts in which a word is still to begin: not the first, where a word goes on
abbrev fresh : Bool → List (List ℕ) → List (List ℕ)
fresh true parts = drop 1 parts
fresh false parts = parts

abbrev count : Bool → List (List ℕ) → ℕ
count inside parts = length (filter some (fresh inside parts))

-- a blank begins a part, in which no word is yet
gap : (inside : Bool) (parts : List (List ℕ)) → count false parts ≡ count inside ([] ∷ parts)
gap true parts = refl
gap false parts = refl

-- another character begins a word, or goes on with one
letter : (inside : Bool) (b : ℕ) (parts : List (List ℕ)) → cond inside 0 1 + count true parts ≡ count inside (onto_first b parts)
letter true b [] = refl
letter true b (part ∷ parts) = zero-add _
letter false b [] = refl
letter false b (part ∷ parts) = rw (kept b part) (omega arith)

counted : (inside : Bool) (s : List ℕ) → words_from inside s ≡ count inside (slice_split is_blank s)
unfolding words_from
counted true [] = refl
counted false [] = refl
counted inside (b ∷ s) =
    either (count inside) (is_blank b) (counted false s ∙ gap inside _)
    (ap (λ (n : ℕ). cond inside 0 1 + n) (counted true s) ∙ letter inside b _)

pub words_are : (s : List ℕ) → words_of s ≡ length (filter some (slice_split is_blank s))
words_are s = counted false s

-- each begins at a character of its own
begins : (q inside : Bool) {x y n : ℕ} → x ≤ n → y ≤ n → cond q x (cond inside 0 1 + y) ≤ suc n
begins true inside h k = omega arith
begins false true h k = omega arith
begins false false h k = omega arith

at_most : (inside : Bool) (s : List ℕ) → words_from inside s ≤ length s
unfolding words_from
at_most inside [] = omega arith
at_most inside (b ∷ s) = begins (is_blank b) inside (at_most false s) (at_most true s)

pub words_within : (s : List ℕ) → words_of s ≤ length s
words_within s = at_most false s

-- ---- one word

-- the word that is k ends of words ahead: where a word goes on, its rest is what is none ahead
abbrev ahead : Bool → ℕ → List (List ℕ) → List ℕ
ahead false k parts = get_or (filter some parts) k []
ahead true zero parts = get_or parts 0 []
ahead true (suc k) parts = get_or (filter some (drop 1 parts)) k []

abbrev is_here : ℕ → Bool
is_here zero = true
is_here (suc k) = false

-- a character of the wanted word, or of one before it
spelt : (inside : Bool) (k b : ℕ) (parts : List (List ℕ)) → cond (is_here k) (b ∷ []) [] ++ ahead true k parts ≡ ahead inside k (onto_first b parts)
spelt true zero b [] = refl
spelt true zero b (part ∷ parts) = refl
spelt false zero b [] = refl
spelt false zero b (part ∷ parts) = rw (kept b part) refl
spelt true (suc k) b [] = refl
spelt true (suc k) b (part ∷ parts) = refl
spelt false (suc k) b [] = refl
spelt false (suc k) b (part ∷ parts) = rw (kept b part) refl

-- whether the wanted word is none ahead
here : (wanted ended k : ℕ) → wanted ≡ ended + k → eqb ended wanted ≡ is_here k
here wanted ended zero e = eq-eqb ended wanted (omega arith)
here wanted ended (suc k) e = ne_eqb ended wanted (λ f. omega arith)

both_none : (q : Bool) {x y : List ℕ} → x ≡ [] → y ≡ [] → cond q x y ≡ []
both_none true p q = p
both_none false p q = q

later : (inside : Bool) {wanted ended : ℕ} → wanted < ended → wanted < ended + cond inside 1 0
later true h = omega arith
later false h = omega arith

-- a word that is behind
behind : (wanted ended : ℕ) (inside : Bool) (s : List ℕ) → wanted < ended → word_from wanted ended inside s ≡ []
unfolding word_from
behind wanted ended inside [] h = refl
behind wanted ended inside (b ∷ s) h =
    both_none (is_blank b) (behind wanted (ended + cond inside 1 0) false s (later inside h))
    (rw (ne_eqb ended wanted (λ f. omega arith)) (behind wanted ended true s h))

word_ahead : (wanted ended k : ℕ) (inside : Bool) (s : List ℕ) → wanted ≡ ended + k
    → word_from wanted ended inside s ≡ ahead inside k (slice_split is_blank s)
unfolding word_from
word_ahead wanted ended k false [] e = refl
word_ahead wanted ended zero true [] e = refl
word_ahead wanted ended (suc k) true [] e = refl
word_ahead wanted ended k false (b ∷ s) e =
    either (ahead false k) (is_blank b) (word_ahead wanted (ended + 0) k false s (omega arith))
    (rw (here wanted ended k e) (ap (λ (t : List ℕ). cond (is_here k) (b ∷ []) [] ++ t) (word_ahead wanted ended k true s e) ∙ spelt false k b _))
word_ahead wanted ended zero true (b ∷ s) e =
    either (ahead true zero) (is_blank b) (behind wanted (ended + 1) false s (omega arith))
    (rw (here wanted ended zero e) (ap (λ (t : List ℕ). (b ∷ []) ++ t) (word_ahead wanted ended zero true s e) ∙ spelt true zero b _))
word_ahead wanted ended (suc k) true (b ∷ s) e =
    either (ahead true (suc k)) (is_blank b) (word_ahead wanted (ended + 1) k false s (omega arith))
    (rw (here wanted ended (suc k) e) (word_ahead wanted ended (suc k) true s e ∙ spelt true (suc k) b (slice_split is_blank s)))

pub word_is : (s : List ℕ) (wanted : ℕ) → get_or (filter some (slice_split is_blank s)) wanted [] ≡ word_of wanted s
word_is s wanted = sym (word_ahead wanted 0 wanted false s (omega arith))

-- what a reference shows that may not be there
pub shows : {R : Type 0} (now : R → List ℕ) (r : Option R) (other : R) → now (unwrap_or r other) ≡ unwrap_or (option_map now r) (now other)
shows now None other = refl
shows now (Some x) other = refl

-- ---- its length

one_kept : (b q : Bool) (x y : List ℕ) (a n : ℕ) → length x ≤ n → length y ≤ n → length (cond b x (cond q (a ∷ []) [] ++ y)) ≤ suc n
one_kept true q x y a n h k = omega arith
one_kept false true x y a n h k = omega arith
one_kept false false x y a n h k = omega arith

word_length : (wanted ended : ℕ) (inside : Bool) (s : List ℕ) → length (word_from wanted ended inside s) ≤ length s
unfolding word_from
word_length wanted ended inside [] = omega arith
word_length wanted ended inside (b ∷ s) =
    one_kept (is_blank b) (eqb ended wanted) _ _ b (length s) (word_length wanted (ended + cond inside 1 0) false s)
    (word_length wanted ended true s)

-- a word is no longer than the text that it is in
pub word_within : (s : List ℕ) (wanted : ℕ) → length (word_of wanted s) ≤ length s
word_within s wanted = word_length wanted 0 false s
