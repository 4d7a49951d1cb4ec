-- `sharing::codes_of` meets its contract: the codes of the numbers in the row.
-- Assumes nothing.
use Prim.Native.Nat.{ℕ, ◌<◌}
use native.Mathlib.Omega.{arith}
use mathlib.Core.Path.{◌≡◌, sym, ap, ◌∙◌}
use mathlib.Core.List.{List, [], map}
use lib.ListN.{length, drop, get_or, length-map, length-append, length-drop}
use Rattle.std.proofs.Common.{None, rules}
use Rattle.std.proofs.lemmas.List.{ext_get_or}
use Rattle.least.proofs.Places.{get-map}
use Rattle.least.specs.Lists.{pad}
use Rattle.refusal.specs.Limits.{lock_limit}
use Rattle.plan_file.specs.Code.Entries.{names_of}
use Rattle.sharing.specs.Code.Sharing.{code_or0, number_row, codes_over, code_of_number}
use Rattle.sharing.proofs.Numbered.{codes_of_row, over_none}
use Rattle.sharing.proofs.codes_of.Goals as goal

pub returns : goal.returns
unfolding number_row pad
returns c =
    let numbers = c.codes_over.result in
    let names = names_of c.args.s.now c.args.names.now in
    let count = c.args.names.now.count in
    let before : List ℕ = pad lock_limit 0 [] in
    let filled : numbers ≡ codes_over c.args.s.now c.args.names.now before = c.codes_over.ensures in
    let all : length names ≡ count = omega (arith, c.requires, c.codes_over.type_inv, ap length filled, length-append (map code_or0 names) (drop count before), length-map names code_or0, length-drop count before) in
    let row : numbers ≡ number_row names = filled ∙ over_none c.args.s.now c.args.names.now c.requires all in
    let size : length numbers ≡ lock_limit = omega (arith, c.codes_over.type_inv) in
    let long : length c.map.result ≡ lock_limit = c.map.ensures.items.long in
    let each : (i : ℕ) → i < lock_limit → get_or c.map.result i None ≡ code_of_number (get_or numbers i 0) = λ i h. let m = c.map.ensures.items.at i 0 None h in search (rules, m) in
    ext_get_or None c.map.result (map code_of_number numbers) (long ∙ sym (length-map numbers code_of_number ∙ size))
    (λ i h. each i (omega (arith, h, long)) ∙ sym (get-map code_of_number numbers i 0 None (omega (arith, h, size, long))))
    ∙ ap (map code_of_number) row ∙ codes_of_row names
