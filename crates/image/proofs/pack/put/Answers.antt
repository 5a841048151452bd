use Rattle.std.proofs.Common.{◌≡◌, ℕ, ◌+◌, ◌-◌, List, ◌++◌, length, take, drop, sym, ap, ◌∙◌, arith, rules}
use Rattle.std.proofs.lemmas.List.{drop-drop, append_assoc}
use Rattle.std.proofs.lemmas.List.Edits.{sets-eq}
use Rattle.image.proofs.pack.put.Goals as goal

pub returns : goal.returns
returns g c =
    let p : ℕ = c.args.place in
    let n : ℕ = p + g.row.N - p in
    let out = c.args.out.now in
    let bytes = c.args.bytes in
    let long : length bytes ≡ g.row.N = search rules in
    ap (λ (l : List ℕ). take p out ++ (l ++ drop n (drop p out))) c.copy_from_slice.ensures.after
    ∙ ap (λ (l : List ℕ). take p out ++ (bytes ++ l)) (drop-drop n p out)
    ∙ ap (λ (m : ℕ). take p out ++ (bytes ++ drop m out)) (omega (arith, long))
    ∙ sym (append_assoc (take p out) bytes _)
    ∙ sym (sets-eq bytes out p (omega (arith, long, c.told-out, c.requires)))
