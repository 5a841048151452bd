-- What is laid down is lifted again, and the other way: by induction on the fields.
use mathlib.Core.Path.{◌≡◌, refl, ap, ap₂, ◌∙◌, subst}
use mathlib.Core.List.{List, [], ◌∷◌, ◌++◌}
use mathlib.Core.Bool.{Bool, true, false, cond, ◌&&◌}
use Prim.Native.Nat.{ℕ, zero, suc, ◌+◌, ◌≤◌, ◌<◌}
use native.Mathlib.Omega.{arith}
use lib.Dec.{ltb, leb}
use lib.ListN.{length, get_or, take, drop, length-append, length-drop, length-replicate, take-append-drop}
use lib.Seq.{take_all, take_at, drop_at, get_or-drop}
use borrow.Author.Tests.{lt-ltb, ltb-true, leb-true}
use Rattle.image.specs.Radix.{joined, parted, below, product}
use Rattle.image.specs.Fields.{radices, size, values, laid, lifted}
use Rattle.image.proofs.Radix.{Below, joined_parted, parted_joined, joined_below, parted_below, length_parted}

pub and_left : (a b : Bool) → a && b ≡ true → a ≡ true
and_left true b h = refl
and_left false b h = h

pub and_right : (a b : Bool) → a && b ≡ true → b ≡ true
and_right true b h = h
and_right false b h = absurd (mathlib.Core.Bool.false≢true h)

-- the test of the digits, and what it says
pub test_below : (rs ds : List ℕ) → Below rs ds → below rs ds ≡ true
test_below [] ds h = refl
test_below (r ∷ rs) [] h = absurd h
test_below (r ∷ rs) (d ∷ ds) h = λ i. lt-ltb d r h.0 i && test_below rs ds h.1 i

pub below_test : (rs ds : List ℕ) → length ds ≡ length rs → below rs ds ≡ true → Below rs ds
below_test [] [] l h = tt
below_test [] (d ∷ ds) l h = absurd (omega arith)
below_test (r ∷ rs) [] l h = absurd (omega arith)
below_test (r ∷ rs) (d ∷ ds) l h =
    (ltb-true d r (and_left (ltb d r) (below rs ds) h), below_test rs ds (omega arith) (and_right (ltb d r) (below rs ds) h))

pub below_append : (rs ds qs es : List ℕ) → Below rs ds → Below qs es → Below (rs ++ qs) (ds ++ es)
below_append [] [] qs es h k = k
below_append [] (d ∷ ds) qs es h k = absurd h
below_append (r ∷ rs) [] qs es h k = absurd h
below_append (r ∷ rs) (d ∷ ds) qs es h k = (h.0, below_append rs ds qs es h.1 k)

pub below_front : (rs qs ds : List ℕ) → Below (rs ++ qs) ds → Below rs (take (length rs) ds)
below_front [] qs ds h = tt
below_front (r ∷ rs) qs [] h = absurd h
below_front (r ∷ rs) qs (d ∷ ds) h = (h.0, below_front rs qs ds h.1)

pub below_at : (rs ds : List ℕ) → Below rs ds → (k : ℕ) → k < length rs → get_or ds k 0 < get_or rs k 0
below_at [] ds h k l = absurd (omega arith)
below_at (r ∷ rs) [] h k l = absurd h
below_at (r ∷ rs) (d ∷ ds) h zero l = h.0
below_at (r ∷ rs) (d ∷ ds) h (suc k) l = below_at rs ds h.1 k (omega arith)

-- every field has a byte at least, and room for its values
abbrev pub Roomy : List (ℕ × ℕ) → Type 0
Roomy [] = Unit {0}
Roomy (f ∷ fs) = (0 < f.0) × ((f.1 ≤ product (radices f.0)) × Roomy fs)

abbrev pub roomy : List (ℕ × ℕ) → Bool
roomy [] = true
roomy (f ∷ fs) = ltb 0 f.0 && (leb f.1 (product (radices f.0)) && roomy fs)

pub roomy_test : (fs : List (ℕ × ℕ)) → roomy fs ≡ true → Roomy fs
roomy_test [] h = tt
roomy_test (f ∷ fs) h =
    let rest = and_right (ltb 0 f.0) _ h in
    let room = leb f.1 (product (radices f.0)) in
    (ltb-true 0 f.0 (and_left (ltb 0 f.0) _ h), (leb-true _ _ (and_left room (roomy fs) rest), roomy_test fs (and_right room (roomy fs) rest)))

-- ---- one field

long : (w n : ℕ) → length (parted (radices w) n) ≡ w
long w n = length_parted (radices w) n ∙ length-replicate w 256

number_back : (w n : ℕ) → 0 < w → joined (radices w) (parted (radices w) n) ≡ n
number_back zero n h = absurd (omega arith)
number_back (suc w) n h = joined_parted 256 (radices w) n

take_below : (w : ℕ) (s : List ℕ) → ((i : ℕ) → get_or s i 0 < 256) → w ≤ length s → Below (radices w) (take w s)
take_below zero s b h = tt
take_below (suc w) [] b h = absurd (omega arith)
take_below (suc w) (x ∷ s) b h = (b 0, take_below w s (λ i. b (suc i)) (omega arith))

pub bytes_below : (w : ℕ) (s : List ℕ) → ((i : ℕ) → get_or s i 0 < 256) → length s ≡ w → Below (radices w) s
bytes_below w s b h = subst (Below (radices w)) (take_all w s (omega arith)) (take_below w s b (omega arith))

pub byte_of : (w : ℕ) (ds : List ℕ) → Below (radices w) ds → (j : ℕ) → get_or ds j 0 < 256
byte_of w [] h j = omega arith
byte_of zero (d ∷ ds) h j = absurd h
byte_of (suc w) (d ∷ ds) h zero = h.0
byte_of (suc w) (d ∷ ds) h (suc j) = byte_of w ds h.1 j

pub append_bytes : (l k : List ℕ) → ((j : ℕ) → get_or l j 0 < 256) → ((j : ℕ) → get_or k j 0 < 256) → (j : ℕ) → get_or (l ++ k) j 0 < 256
append_bytes [] k a b j = b j
append_bytes (x ∷ l) k a b zero = a zero
append_bytes (x ∷ l) k a b (suc j) = append_bytes l k (λ i. a (suc i)) b j

-- ---- all of them

pub lifted_long : (fs : List (ℕ × ℕ)) (s : List ℕ) → length (lifted fs s) ≡ length (values fs)
lifted_long [] s = refl
lifted_long (f ∷ fs) s = ap suc (lifted_long fs (drop f.0 s))

-- how many values the bytes of each field can say
abbrev pub rooms : List (ℕ × ℕ) → List ℕ
rooms [] = []
rooms (f ∷ fs) = product (radices f.0) ∷ rooms fs

pub lifted_below : (fs : List (ℕ × ℕ)) (s : List ℕ) → ((i : ℕ) → get_or s i 0 < 256) → length s ≡ size fs → Below (rooms fs) (lifted fs s)
lifted_below [] s b l = tt
lifted_below (f ∷ fs) s b l = (
  joined_below (radices f.0) (take f.0 s) (take_below f.0 s b (omega arith)),
  lifted_below fs (drop f.0 s) (λ i. rw get_or-drop (b (f.0 + i))) (simp length-drop (omega arith)),
)

pub lifted_laid : (fs : List (ℕ × ℕ)) (ns : List ℕ) → Roomy fs → Below (values fs) ns → lifted fs (laid fs ns) ≡ ns
lifted_laid [] [] r h = refl
lifted_laid [] (n ∷ ns) r h = absurd h
lifted_laid (f ∷ fs) [] r h = absurd h
lifted_laid (f ∷ fs) (n ∷ ns) r h =
    let p = parted (radices f.0) n in
    ap₂ ◌∷◌ (ap (joined (radices f.0)) (take_at p (laid fs ns) f.0 (long f.0 n)) ∙ number_back f.0 n r.0)
    (ap (lifted fs) (drop_at p (laid fs ns) f.0 (long f.0 n)) ∙ lifted_laid fs ns r.1.1 h.1)

pub laid_lifted : (fs : List (ℕ × ℕ)) (s : List ℕ) → ((i : ℕ) → get_or s i 0 < 256) → length s ≡ size fs → laid fs (lifted fs s) ≡ s
laid_lifted [] [] b l = refl
laid_lifted [] (x ∷ s) b l = absurd (omega arith)
laid_lifted (f ∷ fs) s b l =
    ap₂ ◌++◌ (parted_joined (radices f.0) (take f.0 s) (take_below f.0 s b (omega arith)))
    (laid_lifted fs (drop f.0 s) (λ i. rw get_or-drop (b (f.0 + i))) (simp length-drop (omega arith)))
    ∙ take-append-drop f.0 s

pub laid_long : (fs : List (ℕ × ℕ)) (ns : List ℕ) → Below (values fs) ns → length (laid fs ns) ≡ size fs
laid_long [] ns h = refl
laid_long (f ∷ fs) [] h = absurd h
laid_long (f ∷ fs) (n ∷ ns) h = length-append (parted (radices f.0) n) (laid fs ns) ∙ ap₂ ◌+◌ (long f.0 n) (laid_long fs ns h.1)

pub laid_bytes : (fs : List (ℕ × ℕ)) (ns : List ℕ) → Roomy fs → Below (values fs) ns → (j : ℕ) → get_or (laid fs ns) j 0 < 256
laid_bytes [] ns r h j = omega arith
laid_bytes (f ∷ fs) [] r h j = absurd h
laid_bytes (f ∷ fs) (n ∷ ns) r h j =
    append_bytes (parted (radices f.0) n) (laid fs ns)
    (byte_of f.0 (parted (radices f.0) n) (parted_below (radices f.0) n (omega (arith, h.0, r.1.0))))
    (laid_bytes fs ns r.1.1 h.1) j

-- ---- the tests that are left where the numbers are made of bytes

abbrev pub all_true : List Bool → Bool
all_true [] = true
all_true (t ∷ ts) = t && all_true ts

-- one after another, from the first on
abbrev pub all_from : Bool → List Bool → Bool
all_from b [] = b
all_from b (t ∷ ts) = all_from (b && t) ts

pub all_from_lem : (b : Bool) (ts : List Bool) → all_from b ts ≡ b && all_true ts
all_from_lem true [] = refl
all_from_lem false [] = refl
all_from_lem true (t ∷ ts) = all_from_lem t ts
all_from_lem false (t ∷ ts) = all_from_lem false ts

-- a field whose bytes can say no more than its values needs none
abbrev pub needed : List (ℕ × ℕ) → List ℕ → List Bool
needed [] ns = []
needed (f ∷ fs) [] = []
needed (f ∷ fs) (n ∷ ns) = let rest : List Bool = needed fs ns in cond (leb (product (radices f.0)) f.1) rest (ltb n f.1 ∷ rest)

pub needed_are : (fs : List (ℕ × ℕ)) (ns : List ℕ) → Below (rooms fs) ns → below (values fs) ns ≡ all_true (needed fs ns)
needed_are [] ns h = refl
needed_are (f ∷ fs) [] h = absurd h
needed_are (f ∷ fs) (n ∷ ns) h = one (leb (product (radices f.0)) f.1) refl (needed_are fs ns h.1)
  where
    one : (t : Bool) → leb (product (radices f.0)) f.1 ≡ t → below (values fs) ns ≡ all_true (needed fs ns)
        → ltb n f.1 && below (values fs) ns ≡ all_true (cond t (needed fs ns) (ltb n f.1 ∷ needed fs ns))
    one true e k = ap (λ (b : Bool). b && below (values fs) ns) (lt-ltb n f.1 (omega (arith, h.0, leb-true (product (radices f.0)) f.1 e))) ∙ k
    one false e k = ap (λ (b : Bool). ltb n f.1 && b) k
