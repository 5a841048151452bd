use Rattle.std.proofs.Common.{◌≡◌, ℕ, ◌%◌, List, length, refl, ap, ap₂, ◌∙◌, arith, rules}
use Rattle.std.proofs.lemmas.List.Edits.{sets}
use Rattle.controller.proofs.WellFormed.{well_range, well_shadow}
use mir.Val.{bool_byte}
use Rattle.std.specs.Prelude.{Option, None, Some, is_some}
use Rattle.transfer.specs.declared.dma.DmaState.{DmaState}
use Rattle.transfer.specs.Constants.{expansion_limit}
use Rattle.image.specs.Radix.{parted}
use Rattle.image.specs.Fields.{laid, radices}
use Rattle.image.specs.Inner.{transfer_part, stored}
use Rattle.image.specs.Layout.{place_of, shadow_c64, shadow_exp, shadow_length, flags, more_flags, delay, transfer, kind, present, granted_field}
use Rattle.image.proofs.Numbers.{word_bytes, count_bytes}
use Rattle.image.proofs.ByBytes.{over_is}
use Rattle.image.proofs.pack.pack.Goals as goal

-- the bytes of field k
abbrev at_field : ℕ → List ℕ → List ℕ → List ℕ
at_field k l b = sets l (place_of k) b

present_is : (m : Option DmaState) → bool_byte (is_some m) ≡ present m
present_is None = refl
present_is (Some d) = refl

pub transfer_of-requires : goal.transfer_of-requires
transfer_of-requires c = well_range c.args.reu c.requires

pub returns : goal.returns
returns c =
    let r = c.args.reu in
    let long : length c.args.reu.regs ≡ 11 = search rules in
    let l2 = c.put-2.ensures ∙ ap₂ (at_field shadow_c64) c.put.ensures (c.to_le_bytes.ensures ∙ word_bytes r.shadow_c64_addr (search rules)) in
    let fits : r.shadow_reu_addr % expansion_limit ≡ r.shadow_reu_addr = omega (arith, well_shadow r c.requires) in
    let l3 = c.put-3.ensures ∙ ap₂ (at_field shadow_exp) l2 (c.three.ensures ∙ ap (parted (radices 3)) fits) in
    let l4 = c.put-4.ensures ∙ ap₂ (at_field shadow_length) l3 (c.to_le_bytes-2.ensures ∙ word_bytes r.shadow_len (search rules)) in
    let l5 = c.put-5.ensures ∙ ap₂ (stored flags) l4 c.flags.ensures in
    let l6 = c.put-6.ensures ∙ ap₂ (stored more_flags) l5 c.more_flags.ensures in
    let l7 = c.put-7.ensures ∙ ap (λ (l : List ℕ). stored delay l r.swap_read_delay) l6 in
    let l8 = c.put-8.ensures ∙ ap₂ (stored transfer) l7 (c.from.ensures ∙ ap bool_byte c.is_some.ensures ∙ present_is r.dma) in
    let l9 = c.put_transfer.ensures ∙ ap₂ (λ (l ns : List ℕ). sets l (place_of kind) (laid transfer_part ns)) l8 c.transfer_of.ensures in
    c.put-9.ensures ∙ ap₂ (at_field granted_field) l9 (c.to_le_bytes-3.ensures ∙ count_bytes r.granted_cycles (search rules))
    ∙ over_is r c.args.out.now long c.told-out
