-- The places of a block, and what bus and storage hold while it is swapped: some bytes have changed places, or besides the storage has the
-- bus's next byte, which the latch has of the storage.
use Prim.Native.Nat.{ℕ, suc, ◌+◌, ◌*◌, ◌/◌, ◌%◌, ◌^◌, ◌<◌, ◌≤◌}
use native.Mathlib.Nat.{mul-suc, mul-le-mul_left, mod-lt, div-add-mod}
use lib.Pow.{pow_mono, pow_pos}
use mathlib.Core.Bool.{Bool, true, false}
use mathlib.Core.Path.{◌≡◌, refl, sym, ap, ◌∙◌, subst}
use mathlib.Core.Logic.{◌≢◌}
use mathlib.Core.List.{List}
use lib.ListN.{length, get_or, set, length-set}
use lib.Seq.{get_or-set_same, set-set, set-get_or}
use lib.Dec.{leb}
use native.Mathlib.Omega.{arith}
use borrow.Author.Tests.{leb-true, leb-false}
use Rattle.transfer.specs.Memory.{lines}
use Rattle.transfer.proofs.Sizes.{fold_fold}
use Rattle.claims.proofs.Exchange.{Exch, exch_next, Part, exch_part, part_next, together, exch_count}

abbrev pub on_bus : ℕ → ℕ → ℕ
on_bus c i = (c + i) % 65536

-- with so many address lines
abbrev pub on_storage : ℕ → ℕ → ℕ → ℕ
on_storage lines e i = (e + i) % 2 ^ lines

bus_apart : (c i j : ℕ) → i < j → j < 65536 → on_bus c i ≢ on_bus c j
bus_apart c i j h k = omega arith

-- two numbers that are less than p apart have other remainders
remainders : (p a b : ℕ) → a < b → b < a + p → a % p ≢ b % p
remainders p a b lt near e = go (leb (b / p) (a / p)) refl
  where
    da : p * (a / p) + a % p ≡ a
    da = div-add-mod a p

    db : p * (b / p) + b % p ≡ b
    db = div-add-mod b p

    go : (t : Bool) → leb (b / p) (a / p) ≡ t → ⊥
    go true h = let m : p * (b / p) ≤ p * (a / p) = mul-le-mul_left p (leb-true (b / p) (a / p) h) in omega (arith, da, db)
    go false h =
        let m : p * suc (a / p) ≤ p * (b / p) = mul-le-mul_left p (leb-false (b / p) (a / p) h) in
        omega (arith, da, db, mul-suc p (a / p))

-- a block has at most 65,536 bytes, which 16 lines or more keep apart
storage_apart : (lines e i j : ℕ) → 16 ≤ lines → i < j → j < 65536 → on_storage lines e i ≢ on_storage lines e j
storage_apart lines e i j wide h k =
    let most : 65536 ≤ 2 ^ lines = pow_mono wide in
    remainders (2 ^ lines) (e + i) (e + j) (omega arith) (omega arith)

pub next_bus : (c j : ℕ) → (on_bus c j + 1) % 65536 ≡ on_bus c (suc j)
next_bus c j = omega arith

pub next_storage : (e j : ℕ) → ((e + j) % 16777216 + 1) % 16777216 ≡ (e + suc j) % 16777216
next_storage e j = omega arith

-- ---- a block

-- L address lines, from 16 on; the block's bus place, expansion address and length; bus and storage before it is swapped
pub record Block : Type 0 where
  pub L : ℕ
  pub wide : 16 ≤ L
  pub within : L ≤ 24
  pub c : ℕ
  pub e : ℕ
  pub n : ℕ
  pub few : n ≤ 65536
  pub bus : List ℕ
  pub storage : List ℕ
  pub bus_length : length bus ≡ 65536
  pub storage_long : length storage ≡ 2 ^ L

module _ (b : Block) where
  -- the places of byte j
  abbrev pub bus_at : ℕ → ℕ
  bus_at = on_bus b.c

  abbrev pub storage_at : ℕ → ℕ
  storage_at = on_storage b.L b.e

  -- its expansion address, of 24 bits
  abbrev pub exp_at : ℕ → ℕ
  exp_at j = (b.e + j) % 16777216

  -- the bytes that are there at first
  abbrev pub sent : ℕ → ℕ
  sent j = get_or b.bus (bus_at j) 0

  abbrev pub latched : ℕ → ℕ
  latched j = get_or b.storage (storage_at j) 0

  -- j bytes have changed places; or besides, the storage has the bus's byte j
  abbrev pub Clean : ℕ → List ℕ → List ℕ → Type 0
  Clean j m s = Exch bus_at storage_at j b.bus b.storage m s

  pub record Half (j : ℕ) (m s : List ℕ) : Type 0 where
    pub old : List ℕ
    pub clean : Clean j m old
    pub now : s ≡ set old (storage_at j) (sent j)

  bus_unlike : (i j : ℕ) → i < j → j < b.n → bus_at i ≢ bus_at j
  bus_unlike i j h k = bus_apart b.c i j h (omega (arith, b.few))

  storage_unlike : (i j : ℕ) → i < j → j < b.n → storage_at i ≢ storage_at j
  storage_unlike i j h k = storage_apart b.L b.e i j b.wide h (omega (arith, b.few))

  in_bus : (j : ℕ) → bus_at j < length b.bus
  in_bus j = omega (arith, b.bus_length)

  in_storage : (j : ℕ) → storage_at j < length b.storage
  in_storage j = subst (λ (k : ℕ). storage_at j < k) (sym b.storage_long) (mod-lt (b.e + j) (pow_pos b.L))

  -- where a controller of this size folds byte j to
  abbrev pub folds : ℕ → ℕ → ℕ
  folds size j = exp_at j % 2 ^ lines size

  pub folds_to : (size : ℕ) → lines size ≡ b.L → (j : ℕ) → folds size j ≡ storage_at j
  folds_to size same j = ap (λ (k : ℕ). exp_at j % 2 ^ k) same ∙ fold_fold (b.e + j) b.L 24 b.within

  -- at is byte j's place in the storage
  module _ (j : ℕ) (lt : j < b.n) (m : List ℕ) (at : ℕ) (is : at ≡ storage_at j) where
    clean_bus : (s : List ℕ) → Clean j m s → get_or m (bus_at j) 0 ≡ sent j
    clean_bus s x = x.other_bus (bus_at j) (λ i h q. bus_unlike i j h lt (sym q))

    pub clean_latch : (s : List ℕ) → Clean j m s → get_or s at 0 ≡ latched j
    clean_latch s x = ap (λ (q : ℕ). get_or s q 0) is ∙ x.other_storage (storage_at j) (λ i h q. storage_unlike i j h lt (sym q))

    -- the read
    pub clean_read : (s : List ℕ) → Clean j m s → Half j m (set s at (get_or m (bus_at j) 0))
    clean_read s x = record { old = s; clean = x; now = λ i. set s (is i) (clean_bus s x i) }

    module _ (s : List ℕ) (x : Half j m s) where
      half_size : at < length s
      half_size =
          subst (λ (k : ℕ). at < k) (sym (ap length x.now ∙ length-set x.old (storage_at j) (sent j) ∙ x.clean.storage_size))
          (subst (λ (k : ℕ). k < length b.storage) (sym is) (in_storage j))

      -- the storage's byte put back
      pub half_back : Clean j m (set s at (latched j))
      half_back =
          subst (Clean j m)
          (sym ((λ i. set (x.now i) (is i) (sym (clean_latch x.old x.clean) i))
          ∙ set-set x.old (storage_at j) (sent j) (get_or x.old at 0)
          ∙ (λ i. set x.old (storage_at j) (get_or x.old (is i) 0))
          ∙ set-get_or x.old (storage_at j) 0))
          x.clean

      -- and read again
      pub half_again : Half j m (set (set s at (latched j)) at (get_or m (bus_at j) 0))
      half_again = clean_read (set s at (latched j)) half_back

      pub again_latch : get_or (set s at (latched j)) at 0 ≡ latched j
      again_latch = get_or-set_same s at (latched j) 0 half_size

      -- refreshed
      pub half_refresh : Half j m (set s at (get_or m (bus_at j) 0))
      half_refresh =
          record {
            old = x.old;
            clean = x.clean;
            now = (λ i. set (x.now i) (is i) (clean_bus x.old x.clean i)) ∙ set-set x.old (storage_at j) (sent j) (sent j);
          }

  -- the write
  pub half_write : (j : ℕ) → j < b.n → (m s : List ℕ) → Half j m s → Clean (suc j) (set m (bus_at j) (latched j)) s
  half_write j lt m s x =
      rw x.now
      (exch_next bus_at storage_at j b.bus b.storage m x.old x.clean (in_bus j) (in_storage j)
      (λ i h. bus_unlike i j h lt) (λ i h. storage_unlike i j h lt))

  -- and what all of the memories is on the way
  abbrev pub Partly : ℕ → List ℕ → List ℕ → Type 0
  Partly j m s = Part bus_at storage_at j b.n b.bus b.storage m s

  pub clean_part : (j : ℕ) (m s : List ℕ) → Clean j m s → Partly j m s
  clean_part j m s x = exch_part bus_at storage_at j b.n b.bus b.storage m s x (λ i h more. storage_unlike i j h more)

  pub half_part : (j : ℕ) → j < b.n → (m s : List ℕ) → Half j m s → Partly j m s
  half_part j lt m s x =
      rw x.now
      (part_next bus_at storage_at j b.n b.bus b.storage m x.old x.clean
      (subst (λ (k : ℕ). storage_at j < k) (sym x.clean.storage_size) (in_storage j)) (λ i h. storage_unlike i j h lt))

  -- when all bytes have changed places, each value occurs as often as before
  pub clean_count : (v : ℕ) (m s : List ℕ) → Clean b.n m s → together bus_at storage_at v m s ≡ together bus_at storage_at v b.bus b.storage
  clean_count v = exch_count bus_at storage_at v b.n b.bus b.storage (λ j h. in_bus j) (λ j h. in_storage j) bus_unlike storage_unlike
