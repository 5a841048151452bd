-- The saved machine's claims hold: by the image's own laws, and since calls keep a controller sound.
use Prim.Native.Nat.{ℕ}
use mathlib.Core.Bool.{Bool, true, false, cond}
use mathlib.Core.Path.{◌≡◌, refl, sym, ap, ◌∙◌, subst}
use mathlib.Core.List.{List, [], ◌∷◌}
use Rattle.controller.specs.declared.reu.Reu.{Reu}
use Rattle.controller.specs.Enable.{new_reu}
use Rattle.image.specs.Open.{Opened}
use Rattle.image.specs.Layout.{pack_image, reu_at}
use Rattle.image.specs.Open.{open_image}
use Rattle.image.specs.Valid.{Bytes}
use Rattle.image.proofs.Packed.{open_pack, pack_bytes}
use Rattle.image.proofs.Unpacked.{pack_opened}
use Rattle.image.proofs.Sound.{Sound}
use Rattle.image.proofs.SoundCalls.{sound_new}
use Rattle.image.proofs.Valid.{sound_well, sound_typed, open_sound, pack_back}
use Rattle.claims.specs.Calls.{Held, Call, Fits, leaves, accepts, next, after, Each, All}
use Rattle.claims.specs.SavedMachine.{RoundTrips, Opens, EveryStateOpens}
use Rattle.claims.proofs.States.{St, Good, held, step_of, good_step}
use Rattle.claims.proofs.Walk.{number_at, left_is}

pub round_trips : RoundTrips
round_trips = record { opened = open_pack; bytes = pack_bytes; packed = pack_opened }

-- an image that holds a sound controller
pub record Holds (image : List ℕ) : Type 0 where
  pub reu : Reu
  pub sound : Sound reu
  pub packed : image ≡ pack_image reu

-- a new one does, and an accepted one
abbrev pub new_holds : (i : List ℕ) → i ≡ pack_image new_reu → Holds i
new_holds i e = record { reu = new_reu; sound = sound_new; packed = e }

pub accepted_holds : (i : List ℕ) → Bytes i → (open_image i).refusal ≡ 0 → Holds i
accepted_holds i b z = record { reu = reu_at i; sound = open_sound i b z; packed = sym (pack_back i b z) }

holds_opens : (i : List ℕ) → Holds i → Opens i
holds_opens i h =
    let typed = sound_typed h.reu h.sound in
    let well = sound_well h.reu h.sound in
    record {
      reu = h.reu;
      packed = h.packed;
      opened = ap open_image h.packed ∙ open_pack h.reu typed well;
      bytes = subst Bytes (sym h.packed) (pack_bytes h.reu typed well);
    }

leaves_holds : (c : Call) → Fits c → Holds c.lent.image → accepts c ≡ true → Holds (leaves c).image
leaves_holds c f h ok =
    let x : St = record { u = h.reu; m = c.lent.bus; s = c.lent.storage } in
    let good : Good x = record { sound = h.sound; bus = f.bus; storage = f.storage } in
    let lent : c.lent ≡ held x = λ i. record { image = h.packed i; bus = c.lent.bus; storage = c.lent.storage } in
    record {
      reu = (step_of c.kind x).u;
      sound = (good_step x good c.kind (number_at x c h.sound ok lent) f.numbers).sound;
      packed = ap (λ (k : Held). k.image) (left_is x c h.sound ok lent);
    }

-- ---- lists of calls

pub one_call : (k : Held) (c : Call) → (accepts c ≡ true → c.lent.image ≡ k.image) → Fits c → Holds k.image
    → (b : Bool) → accepts c ≡ b → Holds (next k c).image
one_call k c lent f h true ok =
    subst (λ (b : Bool). Holds (cond b (leaves c) k).image) (sym ok) (leaves_holds c f (subst Holds (sym (lent ok)) h) ok)
one_call k c lent f h false ok = subst (λ (b : Bool). Holds (cond b (leaves c) k).image) (sym ok) h

calls_hold : (cs : List Call) (k : Held) → Each (λ h c. c.lent.image ≡ h.image) k cs → All Fits cs → Holds k.image → Holds (after k cs).image
calls_hold [] k lent fits h = h
calls_hold (c ∷ cs) k lent fits h =
    calls_hold cs (next k c) lent.1 fits.1 (one_call k c lent.0 fits.0 h (accepts c) refl)

pub every_state_opens : EveryStateOpens
every_state_opens =
    record {
      stays = λ c f z ok.
          let o = holds_opens (leaves c).image (leaves_holds c f (accepted_holds c.lent.image f.image z) ok) in ap (λ (x : Opened). x.refusal) o.opened;
      opens = λ k calls e l.
          holds_opens (after k calls).image
          (calls_hold calls k l.lent l.fits (new_holds k.image e));
    }
