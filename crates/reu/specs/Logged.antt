-- L5 on an image: "The core step hands out these stores, index and value, beside its answer", for a host in Rattle that keeps a log. No
-- exported contract cites this file. i is the image, m the bus, s the storage.
use Rattle.controller.specs.Prelude.{ℕ, List, None}
use Rattle.regs.specs.Stores.{Stores}
use Rattle.controller.specs.declared.reu.Reu.{Reu}
use Rattle.controller.specs.Refusals.{checked}
use Rattle.controller.specs.TickDma.{Ticked}
use Rattle.controller.specs.Calls.{cycle_call}
use Rattle.image.specs.Open.{open_image}
use Rattle.reu.specs.declared.Logged.{Logged}
use Rattle.reu.specs.Exports.{change_both, flag}

-- the stores of a call f on the controller; an image that is refused makes none
unfoldable pub stores_by : (Reu → List ℕ → List ℕ → Ticked) → List ℕ → List ℕ → List ℕ → Stores
stores_by f i m s = checked (open_image i).refusal (λ n. None) (f (open_image i).reu m s).0.stores

-- what a call answers and leaves, with its stores beside its answer
abbrev pub logged : (ℕ × List ℕ × List ℕ × List ℕ) → Stores → (Logged × List ℕ × List ℕ × List ℕ)
logged k x = (record { answer = k.0; stores = x }, k.1, k.2, k.3)

abbrev pub logged_both :
    (Reu → List ℕ → List ℕ → Ticked) → List ℕ → List ℕ → List ℕ → (Logged × List ℕ × List ℕ × List ℕ)
logged_both f i m s = logged (change_both f i m s) (stores_by f i m s)

-- the exported cycle with its stores
abbrev pub logged_cycle : List ℕ → List ℕ → List ℕ → ℕ → ℕ → ℕ → ℕ → (Logged × List ℕ × List ℕ × List ℕ)
logged_cycle i m s high cycle low phi1 = logged_both (λ u b t. cycle_call u b t (flag high) (flag phi1) cycle (flag low)) i m s
