-- Sizes of a storage: which numbers they are, how many lines each has, and folding by them.
use Rattle.std.proofs.Common.{◌≡◌, ℕ, zero, suc, ◌+◌, ◌-◌, ◌*◌, ◌/◌, ◌%◌, ◌^◌, ◌<◌, ◌≤◌, true, ◌&&◌, eqb, leb, ◌⊎◌, sym, refl, ap, ◌∙◌, inl, inr, lt_of_lt_of_le, mod-eq_of_lt, one-mul, pow-suc, sub-add_cancel, arith, pow_pos, pow_mono, shl_exact, eq-eqb, eqb-true, le-leb, leb-true}
use lib.Bits.{bit_and, and_mask}
use lib.Count.{ones_in, ones, ones_step, ones_cat, count_trailing_zeros, under}
use lib.Pow.{mod-mod-pow}
use Rattle.transfer.specs.Memory.{lines, is_size}
use Rattle.transfer.proofs.Pick.{fst, snd}

-- ---- the code's mask

-- fewer than 32 lines: a one shifted up by them fits, and one less keeps as many low bits
shifted : (k : ℕ) → k < 32 → 1 * 2 ^ k % 4294967296 ≡ 2 ^ k
shifted k h = shl_exact {a = 1} 1 k 32 (omega arith) (omega arith) ∙ one-mul (2 ^ k)

pub fold_some : (a k : ℕ) → k < 32 → bit_and a (1 * 2 ^ k % 4294967296 - 1) ≡ a % 2 ^ k
fold_some a k h = ap (λ (n : ℕ). bit_and a (n - 1)) (shifted k h) ∙ and_mask a k

-- 32 lines or more keep a number of 32 bits
pub fold_all : (a k : ℕ) → a < 4294967296 → 32 ≤ k → bit_and a 4294967295 ≡ a % 2 ^ k
fold_all a k h g = and_mask a 32 ∙ mod-eq_of_lt h ∙ sym (mod-eq_of_lt (lt_of_lt_of_le h (pow_mono g)))

-- ---- a number with a single one bit

no_ones : (f m : ℕ) → m ≤ f → ones m ≡ 0 → m ≡ 0
no_ones zero m h e = omega arith
no_ones (suc f) zero h e = refl
no_ones (suc f) (suc m) h e =
    let step : ones (suc m) ≡ suc m % 2 + ones (suc m / 2) = ones_step (suc m) in
    let half : suc m / 2 ≡ 0 = no_ones f (suc m / 2) (omega arith) (omega arith) in
    absurd (omega arith)

-- it is as many times 2 as it has zeros below
single : (k n : ℕ) → ones n ≡ 1 → count_trailing_zeros k n < k → n ≡ 2 ^ count_trailing_zeros k n
unfolding count_trailing_zeros
single zero n e h = absurd (omega arith)
single (suc k) n e h = go (single k (n / 2)) (n % 2) refl h
  where
    step : ones n ≡ n % 2 + ones (n / 2)
    step = ones_step n

    go : (ones (n / 2) ≡ 1 → count_trailing_zeros k (n / 2) < k → n / 2 ≡ 2 ^ count_trailing_zeros k (n / 2)) → (d : ℕ) → n % 2 ≡ d
        → under d (count_trailing_zeros k (n / 2)) < suc k → n ≡ 2 ^ under d (count_trailing_zeros k (n / 2))
    go rec zero q g =
        let half : n / 2 ≡ 2 ^ count_trailing_zeros k (n / 2) = rec (omega (arith, step)) (omega arith) in
        omega (arith, pow-suc 2 (count_trailing_zeros k (n / 2)))
    go rec (suc d) q g =
        let none : n / 2 ≡ 0 = no_ones (n / 2) (n / 2) (omega arith) (omega (arith, step)) in
        omega arith

-- ---- the sizes

pub record Lines (size : ℕ) : Type 0 where
  pub fewest : 17 ≤ lines size
  pub most : lines size ≤ 19
  pub power : 2 ^ lines size ≡ size

pub size_lines : (size : ℕ) → is_size size ≡ true → Lines size
unfolding is_size lines
size_lines size e =
    let k = count_trailing_zeros 64 size in
    let both = snd (eqb (ones size) 1) _ e in
    let low = leb-true 17 k (fst (leb 17 k) _ both) in
    let high = leb-true k 19 (snd (leb 17 k) _ both) in
    record {
      fewest = low;
      most = high;
      power = sym (single 64 size (eqb-true (ones size) 1 (fst (eqb (ones size) 1) _ e)) (omega arith));
    }

pub size_small : (size : ℕ) → is_size size ≡ true → size < 4294967296
size_small size e = let l = size_lines size e in omega (arith, l.power, pow_mono {i = lines size} {j = 19} l.most)

-- exactly three
pub three_sizes : (size : ℕ) → is_size size ≡ true → (size ≡ 131072) ⊎ (size ≡ 262144) ⊎ (size ≡ 524288)
three_sizes size e =
    let l = size_lines size e in
    let k = lines size in
    pick (k - 17) (omega (arith, l.most)) (sym l.power ∙ ap (λ (j : ℕ). 2 ^ j) (omega (arith, l.fewest)))
  where
    pick : (i : ℕ) → i ≤ 2 → size ≡ 2 ^ (17 + i) → (size ≡ 131072) ⊎ (size ≡ 262144) ⊎ (size ≡ 524288)
    pick zero h p = inl p
    pick (suc zero) h p = inr (inl p)
    pick (suc (suc zero)) h p = inr (inr p)
    pick (suc (suc (suc i))) h p = absurd (omega arith)

one_one : (k : ℕ) → ones (2 ^ k) ≡ 1
unfolding ones ones_in
one_one k =
    let e : 2 ^ k ≡ 1 * 2 ^ k + 0 = omega (arith, one-mul (2 ^ k)) in
    ap ones e ∙ ones_cat k 1 0 (pow_pos k)

-- a power of two is one if it has as many lines
is_power : (k : ℕ) → lines (2 ^ k) ≡ k → 17 ≤ k → k ≤ 19 → is_size (2 ^ k) ≡ true
unfolding is_size
is_power k e lo hi =
    λ i. eq-eqb (ones (2 ^ k)) 1 (one_one k) i && (le-leb 17 (lines (2 ^ k)) (omega arith) i && le-leb (lines (2 ^ k)) 19 (omega arith) i)

pub lines_17 : lines 131072 ≡ 17
unfolding lines count_trailing_zeros
lines_17 = refl

pub lines_18 : lines 262144 ≡ 18
unfolding lines count_trailing_zeros
lines_18 = refl

pub lines_19 : lines 524288 ≡ 19
unfolding lines count_trailing_zeros
lines_19 = refl

pub size_128 : is_size 131072 ≡ true
size_128 = is_power 17 lines_17 (omega arith) (omega arith)

pub size_256 : is_size 262144 ≡ true
size_256 = is_power 18 lines_18 (omega arith) (omega arith)

pub size_512 : is_size 524288 ≡ true
size_512 = is_power 19 lines_19 (omega arith) (omega arith)

-- ---- folding

-- what more lines keep is no matter to fewer
pub fold_fold : (a k m : ℕ) → k ≤ m → a % 2 ^ m % 2 ^ k ≡ a % 2 ^ k
fold_fold a k m h = ap (λ (j : ℕ). a % 2 ^ j % 2 ^ k) (sym (sub-add_cancel h)) ∙ mod-mod-pow a (m - k) k
