-- What each exported call answers, and what it leaves in what it is lent: i the image, m the bus, s the storage.
use Rattle.std.specs.Prelude.{◌+◌, ◌*◌}
use Rattle.controller.specs.Prelude.{ℕ, Bool, not, cond, List, eqb, length}
use Rattle.controller.specs.Answers.{Answer}
use Rattle.controller.specs.declared.reu.Reu.{Reu}
use Rattle.controller.specs.Enable.{new_reu}
use Rattle.controller.specs.Refusals.{checked}
use Rattle.controller.specs.TickDma.{Ticked}
use Rattle.controller.specs.Calls.{numbered, reset_call, set_size_call, set_enabled_call, storage_present_call, capacity_bytes_call, trigger_call, read_call, write_call, dma_active_call, bus_action_call, cpu_ready_call, debug_register_call, c64_access_call, tick_call, cycle_call}
use Rattle.image.specs.Layout.{image_size, pack_image}
use Rattle.image.specs.Open.{open_image}

-- "Each returns 16,777,216 times the refusal number plus a value"
abbrev pub refusal_unit : ℕ
refusal_unit = 16777216

abbrev pub refusal : ℕ → ℕ
refusal n = refusal_unit * n

unfoldable pub code : Answer → ℕ
code a = refusal a.refusal + a.value

-- "Input flags: 0 is false"
abbrev pub flag : ℕ → Bool
flag n = not (eqb n 0)

-- ---- a call f on the controller, made on its image. A refused one leaves all as it was

unfoldable pub image_after : Answer → List ℕ → List ℕ
image_after a i = cond (eqb a.refusal 0) (pack_image a.reu) i

abbrev pub changed : Answer → List ℕ → (ℕ × List ℕ)
changed a i = (code a, image_after a i)

abbrev pub changed_storage : (Answer × List ℕ) → List ℕ → (ℕ × List ℕ × List ℕ)
changed_storage x i = (code x.0, image_after x.0 i, x.1)

abbrev pub changed_both : Ticked → List ℕ → (ℕ × List ℕ × List ℕ × List ℕ)
changed_both x i = (code (numbered x.0), image_after (numbered x.0) i, x.1, x.2)

-- it looks at the controller; it changes it; it lends the storage too; it lends bus and storage too
unfoldable pub look : (Reu → Answer) → List ℕ → ℕ
look f i = checked (open_image i).refusal refusal (code (f (open_image i).reu))

unfoldable pub change : (Reu → Answer) → List ℕ → (ℕ × List ℕ)
change f i = checked (open_image i).refusal (λ n. (refusal n, i)) (changed (f (open_image i).reu) i)

unfoldable pub change_storage : (Reu → List ℕ → (Answer × List ℕ)) → List ℕ → List ℕ → (ℕ × List ℕ × List ℕ)
change_storage f i s =
    checked (open_image i).refusal (λ n. (refusal n, i, s)) (changed_storage (f (open_image i).reu s) i)

unfoldable pub change_both :
    (Reu → List ℕ → List ℕ → Ticked) → List ℕ → List ℕ → List ℕ → (ℕ × List ℕ × List ℕ × List ℕ)
change_both f i m s =
    checked (open_image i).refusal (λ n. (refusal n, i, m, s)) (changed_both (f (open_image i).reu m s) i)

-- ---- the exported calls; "Making a new image tests only 1"

unfoldable pub reu_new : List ℕ → (ℕ × List ℕ)
reu_new i = cond (eqb (length i) image_size) (0, pack_image new_reu) (refusal 1, i)

abbrev pub reu_reset : List ℕ → ℕ → (ℕ × List ℕ)
reu_reset i hard = change reset_call i

-- L4: "A size in bytes may be set before storage is attached"
abbrev pub reu_set_size : List ℕ → ℕ → (ℕ × List ℕ)
reu_set_size i size = change (λ u. set_size_call u size) i

abbrev pub reu_set_enabled : List ℕ → List ℕ → ℕ → (ℕ × List ℕ × List ℕ)
reu_set_enabled i s enabled = change_storage (λ u t. set_enabled_call u t (flag enabled)) i s

abbrev pub reu_storage_present : List ℕ → ℕ
reu_storage_present i = look storage_present_call i

abbrev pub reu_capacity_bytes : List ℕ → ℕ
reu_capacity_bytes i = look capacity_bytes_call i

abbrev pub reu_trigger_ff00 : List ℕ → (ℕ × List ℕ)
reu_trigger_ff00 i = change trigger_call i

abbrev pub reu_read : List ℕ → ℕ → (ℕ × List ℕ)
reu_read i addr = change (λ u. read_call u addr) i

abbrev pub reu_write : List ℕ → ℕ → ℕ → (ℕ × List ℕ)
reu_write i addr v = change (λ u. write_call u addr v) i

abbrev pub reu_dma_active : List ℕ → ℕ
reu_dma_active i = look dma_active_call i

abbrev pub reu_cpu_ready : List ℕ → ℕ → (ℕ × List ℕ)
reu_cpu_ready i high = change (λ u. cpu_ready_call u (flag high)) i

abbrev pub reu_bus_action : List ℕ → List ℕ → ℕ → ℕ → ℕ → (ℕ × List ℕ × List ℕ)
reu_bus_action i s high phi1 cycle = change_storage (λ u t. bus_action_call u t (flag high) (flag phi1) cycle) i s

abbrev pub reu_debug_register : List ℕ → ℕ → ℕ
reu_debug_register i index = look (λ u. debug_register_call u index) i

abbrev pub reu_c64_access : List ℕ → ℕ
reu_c64_access i = look c64_access_call i

abbrev pub reu_tick_dma : List ℕ → List ℕ → List ℕ → ℕ → ℕ → (ℕ × List ℕ × List ℕ × List ℕ)
reu_tick_dma i m s cycle low = change_both (λ u b t. tick_call u b t cycle (flag low)) i m s

abbrev pub reu_cycle : List ℕ → List ℕ → List ℕ → ℕ → ℕ → ℕ → ℕ → (ℕ × List ℕ × List ℕ × List ℕ)
reu_cycle i m s high cycle low phi1 = change_both (λ u b t. cycle_call u b t (flag high) (flag phi1) cycle (flag low)) i m s
