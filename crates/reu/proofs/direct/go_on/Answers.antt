use Rattle.std.proofs.Common.{◌≡◌, ℕ, ◌+◌, List, true, false, rules, ap, ap₂, sym, ◌∙◌, eqb, ne_eqb, not, ◌&&◌}
use Rattle.controller.specs.declared.reu.Reu.{Reu}
use Rattle.transfer.specs.Dma.{is_type}
use Rattle.transfer.specs.Memory.{bus_byte, storage_byte}
use Rattle.transfer.specs.declared.dma.DmaState.{DmaState}
use Rattle.transfer.specs.declared.dma.TransferType.TheVariants.{Verify}
use Rattle.image.specs.Inner.{stored}
use Rattle.image.specs.Layout.{granted_field, reu_at}
use Rattle.reu.specs.Direct.{remembered_in, typed_in}
use Rattle.controller.specs.Cycle.{capped}
use Rattle.image.specs.InPlace.{transfer_at}
use Rattle.reu.proofs.Families.{bytes_of}
use Rattle.reu.proofs.Ways.{same_level, agrees, held_count, hold_way, byte_way}
use Rattle.reu.proofs.direct.go_on.Goals as goal

pub returns-then-not-ba_high_phi1 : goal.returns-then-not-ba_high_phi1
returns-then-not-ba_high_phi1 c =
    let i = c.args.image.now in
    let m = c.args.bus.now in
    let s = c.args.storage.now in
    let low_now : c.args.ba_high_phi1 ≡ false = c.if-not-ba_high_phi1.true in
    let was : (reu_at i).ba_was_high ≡ false =
    sym (ap (λ (u : Reu). u.ba_was_high) c.controller_at-reu.ensures) ∙ sym (same_level _ _ c.if-ba_high_phi1-reu.false) ∙ low_now in
    λ low. ap (λ (l : List ℕ). (1, l, m, s)) c.remember.ensures
    ∙ hold_way i (bytes_of i (λ j. search rules)) c.told-image m s c.args.ba_high c.args.cycle low c.args.ba_high_phi1
    (record { moving = c.moves.ensures c.if-not-moves.false; was = was; low = low_now })

pub returns : goal.returns
returns c =
    let i = c.args.image.now in
    let m = c.args.bus.now in
    let s = c.args.storage.now in
    let u : Reu = reu_at i in
    let high_now : c.args.ba_high_phi1 ≡ true = c.if-not-ba_high_phi1.false in
    let was : u.ba_was_high ≡ true =
    sym (ap (λ (v : Reu). v.ba_was_high) c.controller_at-reu.ensures) ∙ sym (same_level _ _ c.if-ba_high_phi1-reu.false) ∙ high_now in
    let same : c.transfer_at-d.result ≡ transfer_at i = c.transfer_at-d.ensures in
    let size : c.controller_at-reu.result.size ≡ u.size = ap (λ (v : Reu). v.size) c.controller_at-reu.ensures in
    let more : eqb (transfer_at i).remaining 1 ≡ false =
    ap (λ (d : DmaState). eqb d.remaining 1) (sym same) ∙ ne_eqb c.transfer_at-d.result.remaining 1 c.if-d-eq1.false in
    let found : is_type (transfer_at i).transfer_type Verify && not (eqb (bus_byte m (transfer_at i).c64_addr) (storage_byte u.size s (transfer_at i).reu_addr)) ≡ false =
    (λ j. is_type (sym same j).transfer_type Verify && not (eqb (bus_byte m (sym same j).c64_addr) (storage_byte (sym size j) s (sym same j).reu_addr)))
    ∙ sym c.differs.ensures ∙ c.if-differs.false in
    let r = c.moves.ensures c.if-not-moves.false in
    let counted : c.set_granted.new.image ≡ stored granted_field (remembered_in i c.args.ba_high true) (capped (u.granted_cycles + 1)) =
    c.set_granted.ensures
    ∙ ap₂ (stored granted_field) c.remember-2.ensures
    (c.saturating_add.ensures ∙ held_count _ ∙ ap (λ (v : Reu). capped (v.granted_cycles + 1)) c.controller_at-reu.ensures) in
    λ low. c.byte.ensures ∙ (λ j. typed_in (same j).transfer_type (size j) (same j) (counted j) m s c.args.cycle)
    ∙ byte_way i (bytes_of i (λ j. search rules)) c.told-image m s c.args.ba_high c.args.cycle low c.args.ba_high_phi1
    (record { moving = r; was = was; high = high_now; more = more; equal = agrees _ _ found })
