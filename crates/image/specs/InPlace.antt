-- What an image that is not opened says of its controller: the facts that the short ways of the calls ask for.
use Rattle.std.specs.Prelude.{◌≡◌, ◌/◌, ◌<◌, Some}
use Rattle.controller.specs.Prelude.{ℕ, Bool, true, false, bool_eq, List}
use Rattle.controller.specs.declared.reu.Reu.{Reu}
use Rattle.controller.specs.Inner.{Rests}
use Rattle.transfer.specs.Constants.{bus_size, status, version}
use Rattle.transfer.specs.Bytes.{bit}
use Rattle.transfer.specs.Memory.{chip_mark}
use Rattle.transfer.specs.declared.dma.DmaState.{DmaState}
use Rattle.image.specs.Fields.{lifted}
use Rattle.image.specs.Layout.{at, fields, more_flags, place_of, reu_at, size_of, transfer_of}
use Rattle.image.specs.Open.{image_ok}

-- STATUS has the mark of the size
abbrev pub marked_at : List ℕ → Bool
marked_at i = bool_eq (bit (at i status) version) (chip_mark (size_of (at i (place_of more_flags) / 4)))

-- byte 19 codes a size, which the lent storage has, and whose mark STATUS has
pub record Sized (i : List ℕ) (storage : ℕ) : Type 0 where
  pub coded : at i (place_of more_flags) < 12
  pub fits : storage ≡ size_of (at i (place_of more_flags) / 4)
  pub marked : marked_at i ≡ true

-- the image is accepted, and the bus and the storage that are lent have their lengths
pub record Lent (i : List ℕ) (bus storage : ℕ) : Type 0 where
  pub ok : image_ok i ≡ true
  pub bus_fits : bus ≡ bus_size
  pub storage_fits : storage ≡ (reu_at i).size

-- d runs, on attached storage, with no tail; no recall repeat, terminal pair, refresh or delay is left
pub record Moves (u : Reu) (d : DmaState) : Type 0 where
  pub runs : u.dma ≡ Some d
  pub attached : u.attached ≡ true
  pub repeat : u.recall_repeat ≡ false
  pub terminal : u.terminal_swap_write ≡ false
  pub refresh : u.swap_refresh ≡ false
  pub delay : u.swap_read_delay ≡ 0
  pub tail : d.verify_tail ≡ false

-- an image whose controller rests, and one whose transfer moves
pub record Resting (i : List ℕ) (bus storage : ℕ) : Type 0 where
  pub lent : Lent i bus storage
  pub rests : Rests (reu_at i)

-- the transfer whose fields an image has
abbrev pub transfer_at : List ℕ → DmaState
transfer_at i = transfer_of (lifted fields i)

pub record Moving (i : List ℕ) (bus storage : ℕ) : Type 0 where
  pub lent : Lent i bus storage
  pub moves : Moves (reu_at i) (transfer_at i)
