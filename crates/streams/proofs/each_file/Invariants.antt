-- `visit` has come from how it was passed to how it is by calls that it answered with Ok.
use Rattle.std.proofs.Common.{◌≡◌, ℕ, List, length, Ok, Bor}
use Rattle.std.specs.List.{FoldsTo}
use Rattle.streams.proofs.each_file.Given as goal

abbrev pub invariant-loop-path : goal.invariant-loop-path
invariant-loop-path g l =
    (goal.iterator-loop-path g).can_next l.path-iterator ×
    (goal.iterator-loop-path g).is_finite l.path-iterator ×
    (length l.room ≡ 32769) ×
    ((lent : List (Bor (List ℕ) × Bor (List ℕ))) × FoldsTo (λ p x q. goal.F-step g p x.0 x.1 (Ok tt) q) l.fn.visit lent l.visit)
