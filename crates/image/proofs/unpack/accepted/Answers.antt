use Rattle.std.proofs.Common.{◌≡◌, Bool, true, false, ap, sym, ◌∙◌, ◌&&◌, eqb, ltb, rules}
use borrow.Author.Tests.{eq-eqb, eqb-true}
use Rattle.image.specs.Layout.{at}
use Rattle.image.specs.InPlace.{marked_at}
use Rattle.image.proofs.Fields.{and_left, and_right}
use Rattle.image.proofs.ByBytes.{zeros}
use Rattle.image.proofs.Accepted.{marked_same, rest_ok, some_ok}
use Rattle.image.proofs.unpack.accepted.Goals as goal

pub returns-then-idle_ok : goal.returns-then-idle_ok
returns-then-idle_ok c =
    let s = c.args.image.now in
    let both : eqb (at s 21) 0 && zeros s c.told-image ≡ true = sym c.idle_ok.ensures ∙ c.if-idle_ok.true in
    (λ i. (ltb (at s 19) 12 && ltb (at s 20) 3) && c.marked.ensures i) ∙ marked_same (at s 0) (at s 19) (ltb (at s 20) 3)
    ∙ ap (λ (t : Bool). t && ((ltb (at s 19) 12 && ltb (at s 20) 3) && marked_at s)) (sym (and_right (eqb (at s 21) 0) (zeros s c.told-image) both))
    ∙ rest_ok s c.told-image (λ j. search rules) (eqb-true (at s 21) 0 (and_left (eqb (at s 21) 0) (zeros s c.told-image) both))

pub returns-then-image-eq0 : goal.returns-then-image-eq0
returns-then-image-eq0 c =
    let s = c.args.image.now in
    let none : zeros s c.told-image ≡ false =
    (λ i. sym (eq-eqb (at s 21) 0 c.if-image-eq0.true) i && zeros s c.told-image) ∙ sym c.idle_ok.ensures ∙ c.if-idle_ok.false in
    ap (λ (t : Bool). t && ((ltb (at s 19) 12 && ltb (at s 20) 3) && marked_at s)) (sym none) ∙ rest_ok s c.told-image (λ j. search rules) c.if-image-eq0.true

pub returns : goal.returns
returns c = c.running_ok.ensures ∙ some_ok c.args.image.now c.told-image (λ j. search rules) (λ e. search rules)
