-- What a row does: l is the line that it is played for, a its place, v its value, i the image, m a memory, s all that is lent.
-- A row agrees if each call in it answers what it should.
use Rattle.std.specs.Prelude.{ℕ, zero, suc, ◌+◌, ◌*◌, ◌/◌, ◌%◌, Bool, true, false, cond, ◌&&◌, List, eqb, ltb, length, get_or, set}
use Rattle.transfer.specs.declared.timing.ReuBusAction.TheVariants.{Transfer}
use Rattle.transfer.specs.Bytes.{bit, bit_of}
use Rattle.transfer.specs.Timing.{action_number}
use Rattle.image.specs.Layout.{place_of as image_place, flags}
use Rattle.reu.specs.Exports.{refusal_unit, reu_bus_action, reu_cycle, reu_debug_register, reu_new, reu_read, reu_reset, reu_set_enabled, reu_set_size, reu_tick_dma, reu_trigger_ff00, reu_write}
use Rattle.script.specs.declared.rows.Inputs.{Inputs}
use Rattle.script.specs.declared.rows.Line.{Line}
use Rattle.script.specs.declared.rows.Row.{Row}
use Rattle.script.specs.declared.rows.Row.TheVariants.{Case, CaseWhere, New, Reset, Ff00, Write, WritePair, Expansion, Reads, Shows, ShowsPair, LevelIs, Size, Bus, BusIs, Storage, StorageIs, Enable, Ticks, Idle, Answers, Grants}
use Rattle.script.specs.Lent.{Lent}
use Rattle.script.specs.Rows.{grant_of, number_of}

-- whether it agrees, and what it leaves of the one buffer that it changes
abbrev pub OnOne : Type 0
OnOne = Bool × List ℕ

-- whether it agrees, and what it leaves of all that is lent
abbrev pub Played : Type 0
Played = Bool × Lent

-- one after the other, on one buffer or on all that is lent: both agree
abbrev pub and_then : {A : Type 0} → Bool × A → (A → Bool × A) → Bool × A
and_then x f = (x.0 && (f x.1).0, (f x.1).1)

-- the one buffer is the image
abbrev pub on_image : OnOne → Lent → Played
on_image x s = (x.0, record s { image = x.1 })

-- it is the bus
abbrev pub on_bus : OnOne → Lent → Played
on_bus x s = (x.0, record s { bus = x.1 })

-- it is the storage
abbrev pub on_storage : OnOne → Lent → Played
on_storage x s = (x.0, record s { storage = x.1 })

-- ---- the controller alone

-- a call on the image agrees if it answers n
abbrev pub answers : ℕ → (ℕ × List ℕ) → OnOne
answers n x = (eqb x.0 n, x.1)

-- a byte to an address: what is no address, or no byte, is not written
unfoldable pub write_row : ℕ → ℕ → List ℕ → OnOne
write_row a v i = cond (ltb a 65536 && ltb v 256) (answers 0 (reu_write i a v)) (false, i)

-- the low byte to an address, the high byte to the next
abbrev pub write_pair_row : ℕ → ℕ → List ℕ → OnOne
write_pair_row a v i = and_then (write_row a (v % 256) i) (write_row (a + 1) (v / 256))

-- all 24 bits of the expansion address: the place is the bank, which is written last
abbrev pub expansion_row : ℕ → ℕ → List ℕ → OnOne
expansion_row a v i = and_then (write_pair_row 0xDF04 v i) (write_row 0xDF06 a)

-- a read of the address gives the value
unfoldable pub reads_row : ℕ → ℕ → List ℕ → OnOne
reads_row a v i = cond (ltb a 65536) (answers v (reu_read i a)) (false, i)

-- `debug_register` gives the value
abbrev pub is_shown : ℕ → ℕ → List ℕ → Bool
is_shown a v i = eqb (reu_debug_register i a) v

-- it gives the value as a low byte and a high one
abbrev pub is_pair_shown : ℕ → ℕ → List ℕ → Bool
is_pair_shown a v i = is_shown a (v % 256) i && is_shown (a + 1) (v / 256) i

-- the interrupt level is bit 1 of the image's flags
unfoldable pub is_level : ℕ → List ℕ → Bool
is_level v i = ltb (image_place flags) (length i) && eqb (bit_of (bit (get_or i (image_place flags) 0) 1)) v

-- a size is set, in KiB
abbrev pub size_row : ℕ → List ℕ → OnOne
size_row v i = answers 0 (reu_set_size i (1024 * v))

-- ---- what the host lends

-- a byte of the bus or of the storage is set: what is no place, or no byte, is not
unfoldable pub set_byte : ℕ → ℕ → List ℕ → OnOne
set_byte a v m = cond (ltb a (length m) && ltb v 256) (true, set m a v) (false, m)

-- it has the value
unfoldable pub is_byte : ℕ → ℕ → List ℕ → Bool
is_byte a v m = ltb a (length m) && eqb (get_or m a 0) v

-- the controller is enabled
abbrev pub enable_row : Lent → Played
enable_row s =
    let x : (ℕ × List ℕ × List ℕ) = reu_set_enabled s.image s.storage 1 in
    (eqb x.0 0, record s { image = x.1; storage = x.2 })

-- a case begins, on a new controller that is enabled
abbrev pub begin_row : Lent → Played
begin_row s = and_then (on_image (answers 0 (reu_new s.image)) s) enable_row

-- ---- bus cycles

-- cycle n, which answers what it should
abbrev pub cycle_row : Inputs → (answer : ℕ) → ℕ → Lent → Played
cycle_row inputs answer n s =
    let y : (ℕ × List ℕ × List ℕ × List ℕ) = reu_cycle s.image s.bus s.storage (bit_of inputs.ba_high) n 0 (bit_of inputs.ba_high_phi1) in
    (eqb y.0 answer, record s { image = y.1; bus = y.2; storage = y.3 })

-- after what was played, k cycles from number n on
unfoldable pub play_cycles : Inputs → (answer : ℕ) → ℕ → ℕ → Played → Played
play_cycles inputs answer zero n x = x
play_cycles inputs answer (suc k) n x =
    play_cycles inputs answer k (n + 1) (and_then x (cycle_row inputs answer n))

-- k cycles from number n on
abbrev pub cycles_row : Inputs → (answer : ℕ) → ℕ → ℕ → Lent → Played
cycles_row inputs answer k n s = play_cycles inputs answer k n (true, s)

-- after a grant: it is the value; on Transfer `tick_dma` follows, and is not refused
unfoldable pub tick_row : ℕ → ℕ → Lent → (ℕ × List ℕ × List ℕ) → Played
tick_row n v s g =
    let agree : Bool = eqb g.0 v in
    let y : (ℕ × List ℕ × List ℕ × List ℕ) = reu_tick_dma g.1 s.bus g.2 n 0 in
    cond (eqb g.0 (action_number Transfer))
    (agree && ltb y.0 refusal_unit, record s { image = y.1; bus = y.2; storage = y.3 })
    (agree, record s { image = g.1; storage = g.2 })

-- cycle n in two calls: `bus_action` answers the value
abbrev pub grant_row : Inputs → ℕ → ℕ → Lent → Played
grant_row inputs n v s =
    tick_row n v s (reu_bus_action s.image s.storage (bit_of inputs.ba_high) (bit_of inputs.ba_high_phi1) n)

-- ---- any row

-- by its operation, as the type of rows says what each does
unfoldable pub row_of : Line → Row → Lent → Played
row_of l (Case n) s = begin_row s
row_of l (CaseWhere a v) s = begin_row s
row_of l New s = on_image (answers 0 (reu_new s.image)) s
row_of l Reset s = on_image (answers 0 (reu_reset s.image 0)) s
row_of l Ff00 s = on_image (answers 0 (reu_trigger_ff00 s.image)) s
row_of l (Write a v) s = on_image (write_row (number_of l a) (number_of l v) s.image) s
row_of l (WritePair a v) s = on_image (write_pair_row (number_of l a) (number_of l v) s.image) s
row_of l (Expansion a v) s = on_image (expansion_row (number_of l a) (number_of l v) s.image) s
row_of l (Reads a v) s = on_image (reads_row (number_of l a) (number_of l v) s.image) s
row_of l (Shows a v) s = (is_shown (number_of l a) (number_of l v) s.image, s)
row_of l (ShowsPair a v) s = (is_pair_shown (number_of l a) (number_of l v) s.image, s)
row_of l (LevelIs v) s = (is_level (number_of l v) s.image, s)
row_of l (Size v) s = on_image (size_row (number_of l v) s.image) s
row_of l (Bus a v) s = on_bus (set_byte (number_of l a) (number_of l v) s.bus) s
row_of l (BusIs a v) s = (is_byte (number_of l a) (number_of l v) s.bus, s)
row_of l (Storage a v) s = on_storage (set_byte (number_of l a) (number_of l v) s.storage) s
row_of l (StorageIs a v) s = (is_byte (number_of l a) (number_of l v) s.storage, s)
row_of l Enable s = enable_row s
row_of l (Ticks inputs a v) s = cycles_row inputs 1 (number_of l v) (number_of l a) s
row_of l (Idle inputs a v) s = cycles_row inputs 0 (number_of l v) (number_of l a) s
row_of l (Answers inputs a v) s = cycle_row inputs (number_of l v) (number_of l a) s
row_of l (Grants inputs a grant) s = grant_row inputs (number_of l a) (grant_of l grant) s
