-- What a script is played on.
use Rattle.std.specs.Prelude.{◌≡◌, ℕ, List}
use Rattle.script.specs.declared.machine.Machine.{Machine}

-- the bytes of a controller's image, of a bus and of a storage
pub record Lent : Type 0 where
  pub image : List ℕ
  pub bus : List ℕ
  pub storage : List ℕ

-- those of a machine
abbrev pub lent : Machine → Lent
lent m = record { image = m.image.now; bus = m.bus.now; storage = m.storage.now }

-- a machine has the same three buffers as before, so what is left in them is what their lender finds
abbrev pub KeepsBuffers : Machine → Machine → Type 0
KeepsBuffers old new =
    (new.image.ghost_name ≡ old.image.ghost_name)
    × (new.bus.ghost_name ≡ old.bus.ghost_name)
    × (new.storage.ghost_name ≡ old.storage.ghost_name)

-- of a machine that was old and is new: the answer and the bytes that it has now are what f says of the bytes that it had
abbrev pub Plays : {A : Type 0} → (Lent → A × Lent) → Machine → A → Machine → Type 0
Plays f old answer new = ((answer, lent new) ≡ f (lent old)) × KeepsBuffers old new
