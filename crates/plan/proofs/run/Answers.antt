use Rattle.std.proofs.Common.{rules, ◌≡◌, length, take, OnOk, Ok, Err, ℕ, Result, arith}
use Rattle.std.proofs.lemmas.Result.{on_ok_weaker}
use Rattle.std.specs.Result.{is_ok}
use Rattle.std.specs.Io.KnownBytes.{Appends}
use Rattle.plan.proofs.Known.{first_bytes, printed_known}
use Rattle.plan.proofs.Long.{printed_of-take}
use Rattle.console.specs.Printed.{printed_of}
use Rattle.plan.proofs.run.Goals as goal

on_ok_as : {T E F : Type 0} (P : Type 0) (r : Result T E) (m : Result T F) → is_ok m ≡ is_ok r → OnOk r P → OnOk m P
on_ok_as P (Ok x) (Ok y) e h = h
on_ok_as P (Ok x) (Err d) e h = tt
on_ok_as P (Err d) (Ok y) e h = absurd (let z : ◌≡◌ {A = ℕ} 0 1 = cc in omega arith)
on_ok_as P (Err d) (Err f) e h = tt

pub returns : goal.returns
returns g c =
    let buf = c.read_all.new.buf in
    let room : length buf ≡ 32769 = search rules in
    let first = rw room at (first_bytes (g.R.Read.remaining c.args.input.now) (g.R.Read.remaining c.read_all.new.input) c.in_ok-n.n buf (search rules) (search rules) (search rules)) in
    let written = on_ok_as _ c.print_plan.result c.map_err-2.result c.map_err-2.ensures.variant c.print_plan.ensures in
    on_ok_weaker _ (printed_known _ (Appends (g.W.Write.contents c.args.out.now) (g.W.Write.contents c.print_plan.new.out)) printed_of (take 32769) _ printed_of-take first) written
