-- Worked examples of the definitions, with what was expected written by hand: rows of images.
use mathlib.Core.Path.{◌≡◌, refl}
use mathlib.Core.List.{List, [], ◌∷◌, ◌++◌}
use Prim.Native.Nat.{ℕ}
use lib.ListN.{replicate}
use Rattle.controller.specs.Calls.{dma_active_call}
use Rattle.transfer.specs.Dma.{length_of, type_of}
use Rattle.transfer.proofs.Sizes.{size_512}
use Rattle.controller.specs.Refusals.{checked, refusal_of, well_formed}
use Rattle.image.specs.Layout.{image_size, reu_at}
use Rattle.image.specs.Open.{bytes_ok, image_ok, open_image}
use Rattle.reu.specs.Exports.{code, look, reu_dma_active}
use Rattle.pane.specs.Rows.{copy_of, flags_row, granted_in, granted_row, held_row, refused_row, remaining_in, row_of, running_row, size_in, storage_row, transfer_row}
use Rattle.text.specs.Shown.{◌⊕◌, ascii, bits_from, decimal_up_to, hex_of}

-- STATUS 10 and byte 19 00: 512 KiB and its mark; flags 0D: enabled, attached, armed; a swap of two bytes in its write phase at bus 2000 and expansion F80000, with 01020304 cycles granted
unfoldable image : List ℕ
image =
    0x10 ∷ replicate 17 0 ++ (0x0D ∷ 0 ∷ 0 ∷ 1 ∷ 2 ∷ 1 ∷ 0x00 ∷ 0x20 ∷ 0x00 ∷ 0x00 ∷ 0xF8 ∷ 2 ∷ 0 ∷ 0x33 ∷ 0x1C
    ∷ 0x04 ∷ 0x03 ∷ 0x02 ∷ 0x01 ∷ [])

armed : flags_row image 12 ≡ ascii "machine      enabled=1 attached=1 armed=1"
unfolding image flags_row bits_from ◌⊕◌
armed = refl

-- bits 2-3 of byte 19, whatever its bits 0-1 are
half : storage_row (replicate 19 0 ++ (0b0111 ∷ replicate 17 0)) ≡ ascii "storage      256 KiB"
unfolding storage_row size_in decimal_up_to ◌⊕◌
half = refl

quarter : storage_row (replicate 19 0 ++ (0b1001 ∷ replicate 17 0)) ≡ ascii "storage      128 KiB"
unfolding storage_row size_in decimal_up_to ◌⊕◌
quarter = refl

-- 16,909,060 is 01020304; the top is a byte FF four times
granted : granted_row image ≡ ascii "granted      +16909060 cycles"
unfolding image granted_row granted_in decimal_up_to ◌⊕◌
granted = refl

granted_top : granted_row (replicate image_size 255) ≡ ascii "granted      +4294967295 cycles or more"
unfolding granted_row granted_in decimal_up_to ◌⊕◌
granted_top = refl

swaps : transfer_row image ≡ ascii "transfer     swap, write phase"
unfolding image transfer_row ◌⊕◌
swaps = refl

place : running_row image 20 ≡ ascii "  at         c64 2000 exp F80000 left 00002"
unfolding image running_row remaining_in length_of hex_of ◌⊕◌
place = refl

-- two bytes of 0 are 65,536, and FF FF are 65,535; a transfer is there since byte 21 is 1
left_all : running_row (replicate 21 0 ++ (1 ∷ replicate 15 0)) 20 ≡ ascii "  at         c64 0000 exp 000000 left 10000"
unfolding running_row remaining_in length_of hex_of ◌⊕◌
left_all = refl

left_less : running_row (replicate 21 0 ++ (1 ∷ replicate 7 0 ++ (0xFF ∷ 0xFF ∷ replicate 6 0))) 20 ≡ ascii "  at         c64 0000 exp 000000 left 0FFFF"
unfolding running_row remaining_in length_of hex_of ◌⊕◌
left_less = refl

latch : running_row image 21 ≡ ascii "  latch      33 first=1 odd=1 tail=0"
unfolding image running_row bits_from hex_of ◌⊕◌
latch = refl

options : running_row image 22 ≡ ascii "  options    fixc64=0 fixexp=0 load=1"
unfolding image running_row bits_from ◌⊕◌
options = refl

-- ---- images that are accepted or refused: this one runs a command, 34 bytes, as before L1, are too few, 38, as before L3, too many, and ones alone are out of range

runs : reu_dma_active image ≡ 1
unfolding image look checked open_image image_ok bytes_ok well_formed dma_active_call refusal_of code reu_at type_of length_of
runs = simp size_512

too_short : reu_dma_active (replicate 34 0) ≡ 16777216
unfolding look checked open_image
too_short = refl

too_long : reu_dma_active (replicate 38 0) ≡ 16777216
unfolding look checked open_image
too_long = refl

out_of_range : reu_dma_active (replicate image_size 255) ≡ 33554432
unfolding look checked open_image image_ok bytes_ok
out_of_range = refl

-- an accepted one has its rows, and none that says otherwise
accepted_row : row_of image 12 ≡ ascii "machine      enabled=1 attached=1 armed=1"
unfolding row_of held_row
accepted_row = rw runs armed

-- of an accepted image, directly behind the delay
whole : row_of image 17 ≡ ascii "storage      512 KiB"
unfolding image row_of held_row storage_row size_in decimal_up_to ◌⊕◌
whole = rw runs

accepted_says_nothing : row_of image 23 ≡ []
unfolding image row_of held_row running_row
accepted_says_nothing = rw runs

-- a refused one has no row but that
refused_short : row_of (replicate 34 0) 23 ≡ ascii "image        refused by 1: no controller"
unfolding row_of refused_row decimal_up_to ◌⊕◌
refused_short = rw too_short

refused_range : row_of (replicate image_size 255) 23 ≡ ascii "image        refused by 2: no controller"
unfolding row_of refused_row decimal_up_to ◌⊕◌
refused_range = rw out_of_range

no_register : row_of (replicate image_size 255) 0 ≡ []
unfolding row_of refused_row
no_register = rw out_of_range

-- nor has the copy with which it is compared later
no_register_before : row_of (copy_of (replicate 34 0)) 0 ≡ []
no_register_before = no_register
