-- `codes::name_code` meets its contract. The invariant: the bytes behind those that are left are bytes of a name, and the number is theirs.
-- Assumes nothing.
use Prim.Native.Nat.{◌≤◌}
use lib.ListN.{length}
use Rattle.codes.proofs.Codes.{Read}
use Rattle.codes.proofs.name_code.Given as goal

abbrev pub invariant-loop-b : goal.invariant-loop-b
invariant-loop-b l = (1 ≤ length l.f) × (length l.f ≤ 8) × Read l.f l.b-iterator.iter.rest.now l.code
