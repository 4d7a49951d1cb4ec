-- The text of what is printed is printed_of the file, with zeros behind.
use Rattle.std.proofs.Common.{◌≡◌, ℕ, ◌≤◌, take, List, sym, subst}
use Rattle.least.proofs.Pad.{take_pad}
use Rattle.console.specs.declared.Printed.{Printed}
use Rattle.console.specs.Printed.{printed}
use Rattle.plan.proofs.print_plan.Goals as goal

text_of : (p : Printed) (text : List ℕ) → p ≡ printed text → p.count ≤ 8192 → take p.count p.text ≡ text
unfolding printed
text_of p text e = subst (λ (q : Printed). q.count ≤ 8192 → take q.count q.text ≡ text) (sym e) (take_pad 8192 0 text)

pub returns : goal.returns
returns g c =
    let text = text_of _ _ c.print-p.ensures.bytes c.print-p.ensures.room in
    rw (← text) c.write_all.ensures
