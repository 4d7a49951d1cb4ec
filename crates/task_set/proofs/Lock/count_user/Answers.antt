-- `task_set::Lock::count_user` meets its contract.
-- Assumes nothing.
use Prim.Native.Nat.{ℕ, max, min, ◌≤◌}
use native.Mathlib.Omega.{arith}
use mathlib.Core.Path.{◌≡◌, sym}
use Rattle.task_set.specs.declared.Lock.{Lock}
use Rattle.task_set.specs.Code.ByLock.{with_user}
use Rattle.task_set.proofs.ByLock.{with_none, with_some}
use Rattle.task_set.proofs.Lock.count_user.Goals as goal

-- the numbers of a lock with one more user
counted : (lock : Lock) (number c deadline longest least : ℕ) → 1 ≤ c → longest ≡ max lock.longest c → least ≡ min lock.deadline deadline → record { lowest = number; longest = longest; deadline = least } ≡ with_user lock number c deadline
counted lock number c deadline longest least some e f = cc (with_some lock number c deadline some, e, f)

pub returns-then-c-gt0 : goal.returns-then-c-gt0
returns-then-c-gt0 c = let a = c.args in counted a.self.now a.number a.c a.deadline _ _ (omega arith) (omega arith) (omega arith)

pub returns-else-c-gt0 : goal.returns-else-c-gt0
returns-else-c-gt0 c = let a = c.args in sym (with_none a.self.now a.number a.c a.deadline (omega arith))
