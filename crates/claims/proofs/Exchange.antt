-- Exchanging bytes of two lists at pairs of places, one pair after the other, and twice. The places are any functions
-- that have no value twice below the length. And that this keeps how often each value occurs in both lists.
use Prim.Native.Nat.{ℕ, zero, suc, ◌+◌, ◌<◌, ◌≤◌}
use mathlib.Core.Bool.{cond}
use mathlib.Core.Path.{◌≡◌, refl, sym, ap, ◌∙◌}
use mathlib.Core.Logic.{◌≢◌, ◌⊎◌, inl, inr}
use mathlib.Core.List.{List}
use lib.ListN.{length, get_or, set, length-set}
use lib.Seq.{get_or-set_same, get_or-set_other, ext_get_or}
use lib.Dec.{eqb}
use native.Mathlib.Omega.{arith}
use native.Mathlib.Decide.{ℕ_discrete}
use Rattle.std.specs.Prelude.{count_by}
use Rattle.std.proofs.lemmas.List.Sums.{sum_by-set}

-- x is one of the first n values of f, or none
pub place : (f : ℕ → ℕ) (n x : ℕ) → ((i : ℕ) × (i < n) × (x ≡ f i)) ⊎ ((i : ℕ) → i < n → x ≢ f i)
place f zero x = inr (λ i h. absurd (omega arith))
place f (suc n) x = go (place f n x) (ℕ_discrete x (f n))
  where
    below : (i : ℕ) → i < suc n → x ≢ f n → ((k : ℕ) → k < n → x ≢ f k) → x ≢ f i
    below i h ne nw e = elim (ℕ_discrete i n) [ yes p ↦ ne (e ∙ ap f p) | no np ↦ nw i (omega arith) e ]

    go : ((i : ℕ) × (i < n) × (x ≡ f i)) ⊎ ((i : ℕ) → i < n → x ≢ f i) → Dec (x ≡ f n)
        → ((i : ℕ) × (i < suc n) × (x ≡ f i)) ⊎ ((i : ℕ) → i < suc n → x ≢ f i)
    go (inl w) d = inl (w.0, omega (arith, w.1), w.2)
    go (inr nw) (yes e) = inl (n, omega arith, e)
    go (inr nw) (no ne) = inr (λ i h. below i h ne nw)

module _ (C E : ℕ → ℕ) where
  -- from m₀ and s₀ to m and s the first n pairs have changed places, and nothing else has changed
  pub record Exch (n : ℕ) (m₀ s₀ m s : List ℕ) : Type 0 where
    pub to_bus : (i : ℕ) → i < n → get_or m (C i) 0 ≡ get_or s₀ (E i) 0
    pub to_storage : (i : ℕ) → i < n → get_or s (E i) 0 ≡ get_or m₀ (C i) 0
    pub other_bus : (x : ℕ) → ((i : ℕ) → i < n → x ≢ C i) → get_or m x 0 ≡ get_or m₀ x 0
    pub other_storage : (x : ℕ) → ((i : ℕ) → i < n → x ≢ E i) → get_or s x 0 ≡ get_or s₀ x 0
    pub bus_length : length m ≡ length m₀
    pub storage_size : length s ≡ length s₀

  pub exch_zero : (m s : List ℕ) → Exch 0 m s m s
  exch_zero m s =
      record { to_bus = λ i h. absurd (omega arith); to_storage = λ i h. absurd (omega arith); other_bus = λ x h. refl; other_storage = λ x h. refl; bus_length = refl; storage_size = refl }

  -- one place list: the value at place n put in
  put_new : (f : ℕ → ℕ) (l : List ℕ) (n v i : ℕ) (w : ℕ → ℕ) → f n < length l → ((k : ℕ) → k < n → f k ≢ f n)
      → ((k : ℕ) → k < n → get_or l (f k) 0 ≡ w k) → v ≡ w n → i < suc n → get_or (set l (f n) v) (f i) 0 ≡ w i
  put_new f l n v i w fits apart old new h = go (ℕ_discrete i n)
    where
      go : Dec (i ≡ n) → get_or (set l (f n) v) (f i) 0 ≡ w i
      go (yes e) = rw e (get_or-set_same l (f n) v 0 fits ∙ new)
      go (no ne) =
          let lt : i < n = omega arith in
          get_or-set_other l (f n) (f i) v 0 (apart i lt) ∙ old i lt

  pub exch_next : (n : ℕ) (m₀ s₀ m s : List ℕ) → Exch n m₀ s₀ m s → C n < length m₀ → E n < length s₀
      → ((k : ℕ) → k < n → C k ≢ C n) → ((k : ℕ) → k < n → E k ≢ E n)
      → Exch (suc n) m₀ s₀ (set m (C n) (get_or s₀ (E n) 0)) (set s (E n) (get_or m₀ (C n) 0))
  exch_next n m₀ s₀ m s x fm fs apm aps =
      record {
        to_bus = λ i h. put_new C m n (get_or s₀ (E n) 0) i (λ k. get_or s₀ (E k) 0) (omega (arith, x.bus_length)) apm x.to_bus refl h;
        to_storage = λ i h. put_new E s n (get_or m₀ (C n) 0) i (λ k. get_or m₀ (C k) 0) (omega (arith, x.storage_size)) aps x.to_storage refl h;
        other_bus = λ j nw. get_or-set_other m (C n) j (get_or s₀ (E n) 0) 0 (nw n (omega arith)) ∙ x.other_bus j (λ i h. nw i (omega arith));
        other_storage = λ j nw. get_or-set_other s (E n) j (get_or m₀ (C n) 0) 0 (nw n (omega arith)) ∙ x.other_storage j (λ i h. nw i (omega arith));
        bus_length = length-set m (C n) (get_or s₀ (E n) 0) ∙ x.bus_length;
        storage_size = length-set s (E n) (get_or m₀ (C n) 0) ∙ x.storage_size;
      }

  -- of n pairs the first d have changed places, and nothing else has changed, but that the second list may have the first's next one
  pub record Part (d n : ℕ) (m₀ s₀ m s : List ℕ) : Type 0 where
    pub to_bus : (i : ℕ) → i < d → get_or m (C i) 0 ≡ get_or s₀ (E i) 0
    pub to_storage : (i : ℕ) → i < d → get_or s (E i) 0 ≡ get_or m₀ (C i) 0
    pub other_bus : (x : ℕ) → ((i : ℕ) → i < d → x ≢ C i) → get_or m x 0 ≡ get_or m₀ x 0
    pub other_storage : (x : ℕ) → ((i : ℕ) → i ≤ d → x ≢ E i) → get_or s x 0 ≡ get_or s₀ x 0
    pub next : d < n → (get_or s (E d) 0 ≡ get_or s₀ (E d) 0) ⊎ (get_or s (E d) 0 ≡ get_or m₀ (C d) 0)

  pub exch_part : (d n : ℕ) (m₀ s₀ m s : List ℕ) → Exch d m₀ s₀ m s → ((i : ℕ) → i < d → d < n → E i ≢ E d) → Part d n m₀ s₀ m s
  exch_part d n m₀ s₀ m s x apart =
      record {
        to_bus = x.to_bus;
        to_storage = x.to_storage;
        other_bus = x.other_bus;
        other_storage = λ j nw. x.other_storage j (λ i h. nw i (omega arith));
        next = λ more. inl (x.other_storage (E d) (λ i h q. apart i h more (sym q)));
      }

  -- the next one put into the second list
  pub part_next : (d n : ℕ) (m₀ s₀ m s : List ℕ) → Exch d m₀ s₀ m s → E d < length s → ((i : ℕ) → i < d → E i ≢ E d)
      → Part d n m₀ s₀ m (set s (E d) (get_or m₀ (C d) 0))
  part_next d n m₀ s₀ m s x fits apart =
      record {
        to_bus = x.to_bus;
        to_storage = λ i h. get_or-set_other s (E d) (E i) (get_or m₀ (C d) 0) 0 (apart i h) ∙ x.to_storage i h;
        other_bus = x.other_bus;
        other_storage = λ j nw. get_or-set_other s (E d) j (get_or m₀ (C d) 0) 0 (nw d (omega arith)) ∙ x.other_storage j (λ i h. nw i (omega arith));
        next = λ more. inr (get_or-set_same s (E d) (get_or m₀ (C d) 0) 0 fits);
      }

  -- what is exchanged is determined
  exch_only : (n : ℕ) (m₀ s₀ m s m' s' : List ℕ) → Exch n m₀ s₀ m s → Exch n m₀ s₀ m' s' → (m ≡ m') × (s ≡ s')
  exch_only n m₀ s₀ m s m' s' x y = (
    ext_get_or 0 m m' (x.bus_length ∙ sym y.bus_length) (λ j h. bus j (place C n j)),
    ext_get_or 0 s s' (x.storage_size ∙ sym y.storage_size) (λ j h. sto j (place E n j)),
  )
    where
      bus : (j : ℕ) → ((i : ℕ) × (i < n) × (j ≡ C i)) ⊎ ((i : ℕ) → i < n → j ≢ C i) → get_or m j 0 ≡ get_or m' j 0
      bus j (inl w) = rw w.2 (x.to_bus w.0 w.1 ∙ sym (y.to_bus w.0 w.1))
      bus j (inr nw) = x.other_bus j nw ∙ sym (y.other_bus j nw)

      sto : (j : ℕ) → ((i : ℕ) × (i < n) × (j ≡ E i)) ⊎ ((i : ℕ) → i < n → j ≢ E i) → get_or s j 0 ≡ get_or s' j 0
      sto j (inl w) = rw w.2 (x.to_storage w.0 w.1 ∙ sym (y.to_storage w.0 w.1))
      sto j (inr nw) = x.other_storage j nw ∙ sym (y.other_storage j nw)

  -- it goes back, so twice is back
  exch_back : (n : ℕ) (m₀ s₀ m s : List ℕ) → Exch n m₀ s₀ m s → Exch n m s m₀ s₀
  exch_back n m₀ s₀ m s x =
      record {
        to_bus = λ i h. sym (x.to_storage i h);
        to_storage = λ i h. sym (x.to_bus i h);
        other_bus = λ j nw. sym (x.other_bus j nw);
        other_storage = λ j nw. sym (x.other_storage j nw);
        bus_length = sym x.bus_length;
        storage_size = sym x.storage_size;
      }

  pub exch_twice : (n : ℕ) (m₀ s₀ m s m₂ s₂ : List ℕ) → Exch n m₀ s₀ m s → Exch n m s m₂ s₂ → (m₂ ≡ m₀) × (s₂ ≡ s₀)
  exch_twice n m₀ s₀ m s m₂ s₂ x y = exch_only n m s m₂ s₂ m₀ s₀ y (exch_back n m₀ s₀ m s x)

  -- ---- how often a value occurs in both lists together

  abbrev pub together : ℕ → List ℕ → List ℕ → ℕ
  together v m s = count_by (λ x. eqb x v) m + count_by (λ x. eqb x v) s

  abbrev one_if : ℕ → ℕ → ℕ
  one_if v x = cond (eqb x v) 1 0

  record Same (v n : ℕ) (m₀ s₀ : List ℕ) : Type 0 where
    m : List ℕ
    s : List ℕ
    exch : Exch n m₀ s₀ m s
    same : together v m s ≡ together v m₀ s₀

  module _ (v most : ℕ) (m₀ s₀ : List ℕ) (fm : (i : ℕ) → i < most → C i < length m₀) (fs : (i : ℕ) → i < most → E i < length s₀)
      (apm : (i j : ℕ) → i < j → j < most → C i ≢ C j) (aps : (i j : ℕ) → i < j → j < most → E i ≢ E j) where
    one_more : (n : ℕ) → n < most → Same v n m₀ s₀ → Same v (suc n) m₀ s₀
    one_more n h x =
        let a = sum_by-set (one_if v) x.m (C n) (get_or s₀ (E n) 0) 0 (omega (arith, fm n h, x.exch.bus_length)) in
        let b = sum_by-set (one_if v) x.s (E n) (get_or m₀ (C n) 0) 0 (omega (arith, fs n h, x.exch.storage_size)) in
        let p : one_if v (get_or x.m (C n) 0) ≡ one_if v (get_or m₀ (C n) 0) = ap (one_if v) (x.exch.other_bus (C n) (λ i l q. apm i n l h (sym q))) in
        let q : one_if v (get_or x.s (E n) 0) ≡ one_if v (get_or s₀ (E n) 0) = ap (one_if v) (x.exch.other_storage (E n) (λ i l q. aps i n l h (sym q))) in
        record {
          m = set x.m (C n) (get_or s₀ (E n) 0);
          s = set x.s (E n) (get_or m₀ (C n) 0);
          exch = exch_next n m₀ s₀ x.m x.s x.exch (fm n h) (fs n h) (λ i l. apm i n l h) (λ i l. aps i n l h);
          same = omega (arith, a, b, p, q, x.same);
        }

    made : (n : ℕ) → n ≤ most → Same v n m₀ s₀
    made zero h = record { m = m₀; s = s₀; exch = exch_zero m₀ s₀; same = refl }
    made (suc n) h = one_more n (omega arith) (made n (omega arith))

    pub exch_count : (m s : List ℕ) → Exch most m₀ s₀ m s → together v m s ≡ together v m₀ s₀
    exch_count m s x =
        let y = made most (omega arith) in
        let e = exch_only most m₀ s₀ m s y.m y.s x y.exch in
        (λ i. together v (e.0 i) (e.1 i)) ∙ y.same
