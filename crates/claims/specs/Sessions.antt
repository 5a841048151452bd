-- The starred sessions of document 01 (all but R15), through the exported calls, one table. A comment is the paper's words; where
-- it fixes no address, the address is 0, and where it names bytes, any bytes serve.
use Rattle.std.specs.Prelude.{ℕ, zero, suc, ◌/◌, ◌%◌, Bool, true, false, ◌≢◌, ◌≡◌, List, [], ◌∷◌, ◌++◌, get_or, set}
use Rattle.transfer.specs.declared.timing.ReuBusAction.TheVariants.{Hold, Transfer}
use Rattle.controller.specs.Enable.{new_reu}
use Rattle.transfer.specs.Timing.{action_number}
use Rattle.image.specs.Layout.{pack_image}
use Rattle.transfer.specs.Bytes.{bit}
use Rattle.reu.specs.Exports.{reu_debug_register}
use Rattle.transfer.specs.Constants.{new_size, status, command, c64_low, c64_high, exp_low, exp_high, exp_bank, length_low, length_high, interrupt_mask}
use Rattle.claims.specs.Constants.{flags_byte}
use Rattle.claims.specs.Calls.{Held, Memories, set_enabled, trigger_ff00, Kind, read, write, cycle, other, does, grant_of}

-- ---- calls one after the other, each on what the one before left: the buffers then, the answers and the grants

abbrev pub play : List Kind → Held → Held
play [] h = h
play (d ∷ ds) h = play ds (does d h).left

abbrev pub answers : List Kind → Held → List ℕ
answers [] h = []
answers (d ∷ ds) h = (does d h).answer ∷ answers ds (does d h).left

abbrev pub grants : List Kind → Held → List ℕ
grants [] h = []
grants (d ∷ ds) h = grant_of d h ∷ grants ds (does d h).left

-- ---- what is looked at: a register by `debug_register`, all eleven in their order, and the interrupt level

abbrev pub shows : Held → ℕ → ℕ
shows h r = reu_debug_register h.image r

abbrev pub eleven : Held → List ℕ
eleven h =
    shows h 0 ∷ shows h 1 ∷ shows h 2 ∷ shows h 3 ∷ shows h 4 ∷ shows h 5 ∷ shows h 6 ∷ shows h 7 ∷ shows h 8 ∷ shows h 9 ∷
    shows h 10 ∷ []

abbrev pub level : Held → Bool
level h = bit (get_or h.image flags_byte 0) 1

-- ---- scripts

-- the C64 address, the expansion address but for its bank, the length, then COMMAND
abbrev pub begin : ℕ → ℕ → ℕ → ℕ → List Kind
begin c e n v =
    write c64_low (c % 256) ∷ write c64_high (c / 256) ∷ write exp_low (e % 256) ∷ write exp_high (e / 256) ∷ write length_low (n % 256) ∷
    write length_high (n / 256) ∷ write command v ∷ []

-- cycles with BA high
abbrev pub ticks : ℕ → List Kind
ticks zero = []
ticks (suc n) = cycle 1 0 0 1 ∷ ticks n

abbrev pub r4 : List Kind
r4 = begin 0x1000 0 1 0x90 ++ ticks 1

abbrev pub r5 : List Kind
r5 = begin 0x2000 0 2 0xB0 ++ ticks 2

-- `ba_high_phi1` low on the first call only
abbrev pub r10 : List Kind
r10 = cycle 1 0 0 0 ∷ ticks 3

abbrev pub r13 : List Kind
r13 = begin 0x10FF 0 1 0x90 ++ ticks 1

abbrev pub r14 : List Kind
r14 = write exp_bank 0xFF ∷ begin 0xFFFF 0xFFFF 2 0x90 ++ ticks 2

-- cycles 10 to 14, `ba_high` low only at 10, `ba_high_phi1` low only at 11
abbrev pub r16 : List Kind
r16 = cycle 0 10 0 1 ∷ cycle 1 11 0 0 ∷ cycle 1 12 0 1 ∷ cycle 1 13 0 1 ∷ cycle 1 14 0 1 ∷ []

-- ---- the table, for a bus m and a storage s

module _ (m s : List ℕ) where
  abbrev pub new : Held
  new = record { image = pack_image new_reu; bus = m; storage = s }

  -- "new, enabled", with what the host then put into bus and storage
  abbrev pub enabled : Held
  enabled = record { image = (does (other (set_enabled 1)) new).left.image; bus = m; storage = s }

  abbrev pub run : List Kind → Held
  run ds = play ds enabled

  pub record Table : Type 0 where
    -- New, registers 0-10 read: $10 10 00 00 00 00 F8 FF FF 1F 3F
    pub R1 :
        answers (read 0 ∷ read 1 ∷ read 2 ∷ read 3 ∷ read 4 ∷ read 5 ∷ read 6 ∷ read 7 ∷ read 8 ∷ read 9 ∷ read 10 ∷ []) new
        ≡ 0x10 ∷ 0x10 ∷ 0x00 ∷ 0x00 ∷ 0x00 ∷ 0x00 ∷ 0xF8 ∷ 0xFF ∷ 0xFF ∷ 0x1F ∷ 0x3F ∷ []
    -- Address $DF0B reads $FF; $DF20 is register 0
    pub R2 : (answers (read 0xDF0B ∷ []) new ≡ 0xFF ∷ []) × ((h : Held) → does (read 0xDF20) h ≡ does (read status) h)
    -- Never enabled, COMMAND $90: COMMAND $10, STATUS $10
    pub R3 : (shows (play (write command 0x90 ∷ []) new) command ≡ 0x10) × (shows (play (write command 0x90 ∷ []) new) status ≡ 0x10)
    -- COMMAND $80 then FF00: COMMAND $00
    pub R3_armed : shows (play (write command 0x80 ∷ other trigger_ff00 ∷ []) new) command ≡ 0x00
    -- Store, C64 $1000 holding $A5, expansion 0, length 1, COMMAND $90: one tick, storage 0 is $A5
    pub R4 : get_or m 0x1000 0 ≡ 0xA5 → get_or (run r4).storage 0 0 ≡ 0xA5
    -- STATUS $50, C64 $1001, expansion low 1, length 1, COMMAND $10
    pub R4_shows : eleven (run r4) ≡ 0x50 ∷ 0x10 ∷ 0x01 ∷ 0x10 ∷ 0x01 ∷ 0x00 ∷ 0xF8 ∷ 0x01 ∷ 0x00 ∷ 0x1F ∷ 0x3F ∷ []
    -- Store, C64 $2000, length 2, COMMAND $B0, no bank write: afterwards C64 $2000, length 2, COMMAND $30
    pub R5 : eleven (run r5) ≡ 0x50 ∷ 0x30 ∷ 0x00 ∷ 0x20 ∷ 0x00 ∷ 0x00 ∷ 0x00 ∷ 0x02 ∷ 0x00 ∷ 0x1F ∷ 0x3F ∷ []
    -- bank reads $F8 but `debug_register` 6 is $00
    pub R5_bank : ((does (read exp_bank) (run r5)).answer ≡ 0xF8) × (shows (run r5) exp_bank ≡ 0x00)
    -- Verify length 3, first byte differs: one tick, STATUS $30, length 2
    pub R6 :
        get_or m 0 0 ≢ get_or s 0 0
        → eleven (run (begin 0 0 3 0x93 ++ ticks 1)) ≡ 0x30 ∷ 0x13 ∷ 0x01 ∷ 0x00 ∷ 0x01 ∷ 0x00 ∷ 0xF8 ∷ 0x02 ∷ 0x00 ∷ 0x1F ∷ 0x3F ∷ []
    -- Verify length 2, first differs, second equal: two ticks, STATUS $70, length 1, address moved by 1
    pub R7 :
        get_or m 0 0 ≢ get_or s 0 0 → get_or m 1 0 ≡ get_or s 1 0
        → eleven (run (begin 0 0 2 0x93 ++ ticks 2)) ≡ 0x70 ∷ 0x13 ∷ 0x01 ∷ 0x00 ∷ 0x01 ∷ 0x00 ∷ 0xF8 ∷ 0x01 ∷ 0x00 ∷ 0x1F ∷ 0x3F ∷ []
    -- As R7, second differs: STATUS $30
    pub R8 :
        get_or m 0 0 ≢ get_or s 0 0 → get_or m 1 0 ≢ get_or s 1 0
        → eleven (run (begin 0 0 2 0x93 ++ ticks 2)) ≡ 0x30 ∷ 0x13 ∷ 0x01 ∷ 0x00 ∷ 0x01 ∷ 0x00 ∷ 0xF8 ∷ 0x01 ∷ 0x00 ∷ 0x1F ∷ 0x3F ∷ []
    -- Swap length 1, bus $11, storage $22, COMMAND $92: after tick 1 both are $11
    pub R9 : ((run (begin 0 0 1 0x92 ++ ticks 1)).bus ≡ m) × ((run (begin 0 0 1 0x92 ++ ticks 1)).storage ≡ set s 0 (get_or m 0 0))
    -- after tick 2 bus $22, storage $11, STATUS $50
    pub R9_second :
        ((run (begin 0 0 1 0x92 ++ ticks 2)).bus ≡ set m 0 (get_or s 0 0)) × ((run (begin 0 0 1 0x92 ++ ticks 2)).storage ≡ set s 0 (get_or m 0 0))
        × (shows (run (begin 0 0 1 0x92 ++ ticks 2)) status ≡ 0x50)
    -- Recall length 3 of $11 22 33, COMMAND $91, `ba_high_phi1` low on the first call only: bus $11 11 33
    pub R10 : (run (begin 0 0 3 0x91 ++ r10)).bus ≡ set (set (set m 0 (get_or s 0 0)) 1 (get_or s 0 0)) 2 (get_or s 2 0)
    -- R10 armed by FF00 with COMMAND $81: $11 22 33
    pub R11 :
        (run (begin 0 0 3 0x81 ++ (other trigger_ff00 ∷ r10))).bus
        ≡ set (set (set m 0 (get_or s 0 0)) 1 (get_or s 1 0)) 2 (get_or s 2 0)
    -- R4, then mask $C0: STATUS reads $D0, next $10
    pub R12 : answers (write interrupt_mask 0xC0 ∷ read status ∷ read status ∷ []) (run r4) ≡ 0 ∷ 0xD0 ∷ 0x10 ∷ []
    -- level low (it was high, and falls with the first read)
    pub R12_level :
        (level (run (r4 ++ (write interrupt_mask 0xC0 ∷ []))) ≡ true)
        × (level (run (r4 ++ (write interrupt_mask 0xC0 ∷ read status ∷ []))) ≡ false)
        × (level (run (r4 ++ (write interrupt_mask 0xC0 ∷ read status ∷ read status ∷ []))) ≡ false)
    -- Store from $10FF, length 1: C64 $1100
    pub R13 : (shows (run r13) c64_low ≡ 0x00) × (shows (run r13) c64_high ≡ 0x11)
    -- writing 0 to register 2 gives $1000
    pub R13_written :
        (shows (run (r13 ++ (write c64_low 0 ∷ []))) c64_low ≡ 0x00) × (shows (run (r13 ++ (write c64_low 0 ∷ []))) c64_high ≡ 0x10)
    -- Store length 2 from $FFFF to $FFFFFF: offsets 524,287 and 0
    pub R14 : (get_or (run r14).storage 524287 0 ≡ get_or m 0xFFFF 0) × (get_or (run r14).storage 0 0 ≡ get_or m 0 0)
    -- C64 $0001, bank latch $00
    pub R14_shows : (shows (run r14) c64_low ≡ 0x01) × (shows (run r14) c64_high ≡ 0x00) × (shows (run r14) exp_bank ≡ 0x00)
    -- Swap length 1, bus c, storage r (any two bytes): Transfer, Hold, Transfer, Transfer, Transfer
    pub R16 :
        grants r16 (run (begin 0 0 1 0x92))
        ≡ action_number Transfer ∷ action_number Hold ∷ action_number Transfer ∷ action_number Transfer ∷ action_number Transfer ∷ []
    -- both bytes end as c
    pub R16_bytes : ((run (begin 0 0 1 0x92 ++ r16)).bus ≡ m) × ((run (begin 0 0 1 0x92 ++ r16)).storage ≡ set s 0 (get_or m 0 0))

abbrev pub Sessions : Type 0
Sessions = (m s : List ℕ) → Memories new_size m s → Table m s
