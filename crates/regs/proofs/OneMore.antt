-- Stores made one after another.
use mathlib.Core.Path.{◌≡◌, ap, ◌∙◌, sym}
use mathlib.Core.List.{List}
use Prim.Native.Nat.{ℕ, ◌+◌, ◌<◌, ◌≤◌}
use lib.ListN.{length, get_or, set, drop}
use Rattle.std.proofs.lemmas.List.{at_drop_all, at_drop_more, set_past}
use Rattle.regs.specs.Prelude.{RegisterStore}
use Rattle.regs.specs.Stores.{made, store}

-- the next store, and one of no register
module _ (stores : List RegisterStore) (i : ℕ) (h : i < length stores) (r : List ℕ) where
  abbrev pub next : RegisterStore
  next = get_or stores i (store 0 0)

  pub one_more : made (drop (i + 1) stores) (set r next.index next.value) ≡ made (drop i stores) r
  one_more = sym (at_drop_more (λ (l : List RegisterStore). made l r) stores i (store 0 0) h)

  pub one_past : length r ≤ next.index → made (drop (i + 1) stores) r ≡ made (drop i stores) r
  one_past k = sym (ap (λ (s : List ℕ). made (drop (i + 1) stores) s) (set_past r next.index next.value k)) ∙ one_more

-- no more are left
pub all_made : (stores : List RegisterStore) (i : ℕ) (r : List ℕ) → length stores ≤ i → made (drop i stores) r ≡ r
all_made stores i r h = at_drop_all (λ (l : List RegisterStore). made l r) stores i h
