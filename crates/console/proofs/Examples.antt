-- Worked examples of the definitions, with what was expected written by hand: no command, what is said of a refused image and of a size, the marks,
-- and the stores.
use Rattle.std.proofs.Common.{◌≡◌, ℕ, true, false, List, [], ◌∷◌, map, Some, None, Result, Ok, Err, arith, replicate, refl}
use Rattle.image.specs.Layout.{image_size}
use Rattle.controller.specs.Refusals.{checked}
use Rattle.image.specs.Open.{bytes_ok, image_ok, open_image}
use Rattle.regs.specs.Stores.{counter_stores, store}
use Rattle.transfer.specs.Dma.{passed_in}
use Rattle.reu.specs.Exports.{change, look}
use Rattle.text.specs.Shown.{◌⊕◌, ascii, decimal_up_to, fill_from, hex_of}
use Rattle.text.specs.Typed.{digits_from, number_of, same, word_from}
use Rattle.lines.specs.declared.clock.Clock.{Clock}
use Rattle.console.specs.declared.step.Cycle.{Cycle}
use Rattle.pane.specs.declared.answers.Refused.{Refused}
use Rattle.transfer.specs.declared.timing.ReuBusAction.TheVariants.{Cpu, Hold, Transfer}
use Rattle.transfer.specs.declared.timing.ReuC64Access.TheVariants.{Read, Write}
use Rattle.lines.specs.Keys.{command_of}
use Rattle.console.specs.Apply.{apply_of, control_of, size_text, sized}
use Rattle.lines.specs.Clock.{time_of}
use Rattle.console.specs.Registers.{read_text, warning_of}
use Rattle.console.specs.Step.{access_in, access_text, action_in, advanced, ba_text, bytes_by, counted, done_text, cycle_line, go_of, passed_text, refused_in, run_line, run_text, started, store_line}

-- a word that only ends in a name is no command: nothing is done
left_alone :
    (t : List ℕ) (c : Clock) (i m s : List ℕ) → apply_of (command_of (0 ∷ ascii "reset")) t c i m s ≡ (time_of c, None, i, m, s)
unfolding apply_of control_of command_of same
left_alone t c i m s = refl

-- ---- an image that no controller is: ones alone are out of range

unfoldable bad : List ℕ
bad = replicate image_size 255

-- cycle 5, with BA high
unfoldable fifth : Clock
fifth = record { cycle = 5; ba = record { bytes = []; used = 0; fits = omega arith }; at = 0 }

-- refused by 2: no access is shown
refused_cycle_lem :
    cycle_line fifth (Err (refused_in 33554432)) [] [] ≡ ascii "+5  BA high  refused by 2"
unfolding fifth cycle_line done_text ba_text decimal_up_to ◌⊕◌
refused_cycle_lem = refl

refused_run :
    run_line (go_of 3 (started fifth, bad, [], [])).0 bad ≡ ascii "+0 cycles granted, +0 held: the image is refused by 2"
unfolding bad fifth go_of advanced run_line run_text passed_text look checked open_image image_ok bytes_ok decimal_up_to ◌⊕◌
refused_run = refl

refused_read : read_text (ascii "rd DF00") bad ≡ ascii "DF00 is not read: refused by 2"
unfolding bad read_text word_from number_of digits_from fill_from change checked open_image image_ok bytes_ok decimal_up_to ◌⊕◌
refused_read = refl

refused_write : warning_of bad ≡ Some (ascii "(nothing is written: the image is refused by 2)")
unfolding bad warning_of look checked open_image image_ok bytes_ok decimal_up_to ◌⊕◌
refused_write = refl

-- ---- a size: nothing is said of one that was set; 6 says why; 2 is no matter of the storage

size_set_lem : size_text 0 ≡ None
unfolding size_text
size_set_lem = refl

size_attached : size_text 100663296 ≡ Some (ascii "the size is refused by 6: storage is attached (new makes a machine without)")
unfolding size_text decimal_up_to ◌⊕◌
size_attached = refl

size_of_none : size_text (sized (ascii "size 128") bad).0 ≡ Some (ascii "the size is refused by 2")
unfolding bad size_text change checked open_image image_ok bytes_ok decimal_up_to ◌⊕◌
size_of_none = refl

-- ---- the marks: a cycle that was granted answers 1, plus 2 for the C64's and plus 4 for the expansion's

unfoldable granted : ℕ → Result Cycle Refused
granted answer = Ok record { grant = action_in 2; access = access_in 0x1FFFF; offset = 0x7FFFF; passed = passed_in answer; stores = None }

over_both :
    cycle_line fifth (granted 7) [] []
    ≡ ascii "+5  BA high  Transfer  read  FFFF  bus 00  storage 7FFFF 00  c64 passed FFFF  exp passed FFFFFF"
unfolding fifth granted access_in cycle_line done_text access_text bytes_by passed_text ba_text hex_of decimal_up_to ◌⊕◌
over_both = refl

over_neither :
    cycle_line fifth (granted 1) [] [] ≡ ascii "+5  BA high  Transfer  read  FFFF  bus 00  storage 7FFFF 00"
unfolding fifth granted access_in cycle_line done_text access_text bytes_by passed_text ba_text hex_of decimal_up_to ◌⊕◌
over_neither = refl

-- one mark and then none: it stays for the rest of the run
over_once : (counted (counted (started fifth) (granted 5)) (granted 1)).passed ≡ record { c64 = false; expansion = true }
unfolding fifth granted counted
over_once = refl

-- ---- the stores: a line of each, by its address; a run has those of its last cycle, and none of a cycle before that

bank_stored : store_line (store 6 0xF8) ≡ ascii "DF06 stored F8"
unfolding hex_of ◌⊕◌
bank_stored = refl

unfoldable ended : Result Cycle Refused
ended =
    Ok record { grant = action_in 2; access = access_in 0x12001; offset = 1; passed = passed_in 1; stores = Some (counter_stores 0x2000 0xF80000 2) }

stored_last : (counted (counted (started fifth) (granted 1)) ended).stores ≡ Some (counter_stores 0x2000 0xF80000 2)
unfolding fifth granted ended counted
stored_last = refl

stored_before : (counted (counted (started fifth) ended) (granted 1)).stores ≡ None
unfolding fifth granted ended counted
stored_before = refl

-- ---- the numbers of the calls, back: every action's
every_action : map action_in (0 ∷ 1 ∷ 2 ∷ []) ≡ Cpu ∷ Hold ∷ Transfer ∷ []
every_action = refl

a_read_and_a_write : map access_in (0x1FFFF ∷ 0x21000 ∷ []) ≡ Read record { 0 = 0xFFFF } ∷ Write record { 0 = 0x1000 } ∷ []
unfolding access_in
a_read_and_a_write = refl
