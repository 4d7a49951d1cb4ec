-- The search for the first time by which a demand is met, as an iteration.
--   meeting_time periods costs n s own by v == the least time by which a linear supply gives what is asked for in v ticks
-- Assumes nothing.
use Rattle.std.specs.Prelude.{Some, None}
use Prim.Native.Nat.{ℕ, suc, ◌+◌, ◌-◌, ◌*◌, ◌≤◌, ◌<◌}
use native.Mathlib.Nat.{mul_comm, mul-le-mul_left, mul-le-mul_right, le_of_mul-le-mul_right, add-le-add, le_refl}
use native.Mathlib.Omega.{arith}
use mathlib.Core.Path.{◌≡◌, ap, fun_ext, ◌∙◌}
use mathlib.Core.Bool.{Bool}
use mathlib.Core.List.{List}
use Rattle.least.specs.Round.{ceil_div}
use Rattle.least.specs.Search.{least_from}
use Rattle.least.proofs.Round.{ceil_covers, ceil_least, ceil_mono}
use Rattle.least.proofs.Search.{same_tests}
use Rattle.least.proofs.Iterate.{Mono, settles, UnsolvedFrom, step_from, jump_from, past_from, rest_from}
use Rattle.demand.specs.Code.Demand.{demand_from, FineDemand}
use Rattle.demand.proofs.Demand.{demand_rises}
use Rattle.envelope.specs.declared.supply.LinearSupply.{LinearSupply}
use Rattle.envelope.specs.Code.Envelope.{first_met, NoEarlier}

module _ (periods costs : List ℕ) (n s own : ℕ) (by : LinearSupply) where
  abbrev asked : ℕ → ℕ
  asked v = by.times * (own + demand_from periods costs n s v) + by.wait

  unfoldable pub meeting_time : ℕ → ℕ
  meeting_time v = ceil_div (asked v) by.rate

  module _ (fine : FineDemand periods costs n) where
    pub meeting_mono : Mono meeting_time
    unfolding meeting_time
    meeting_mono v w l =
        ceil_mono (asked v) (asked w) by.rate by.fine.some (add-le-add (mul-le-mul_left by.times (add-le-add (le_refl own) (demand_rises periods costs n fine.fine s v w l))) (le_refl by.wait))

    -- a supply of at most a tick in every tick gives x ticks no sooner than in x
    meeting_over : (v : ℕ) → own + demand_from periods costs n s v ≤ meeting_time v
    unfolding meeting_time
    meeting_over v =
        let x = own + demand_from periods costs n s v in
        le_of_mul-le-mul_right {k = by.rate} (omega (arith, ceil_covers (asked v) by.rate by.fine.some, mul-le-mul_left x by.fine.slow, mul_comm x by.times)) by.fine.some

    met_needed : (v : ℕ) → asked v ≤ by.rate * v → meeting_time v ≤ v
    unfolding meeting_time
    met_needed v l = ceil_least (asked v) by.rate v by.fine.some (omega (arith, mul_comm v by.rate))

    met_enough : (v : ℕ) → meeting_time v ≤ v → asked v ≤ by.rate * v
    unfolding meeting_time
    met_enough v l = omega (arith, ceil_covers (asked v) by.rate by.fine.some, mul-le-mul_right by.rate l, mul_comm v by.rate)

    first_settles : (a limit : ℕ) → first_met periods costs n s own by a limit ≡ least_from (settles meeting_time) a (suc limit - a)
    unfolding first_met
    first_settles a limit =
        ap (λ (test : ℕ → Bool). least_from test a (suc limit - a))
        (fun_ext (λ v. same_tests (asked v) (by.rate * v) (meeting_time v) v (met_needed v) (met_enough v)))

    module _ (a limit t : ℕ) (from : a ≤ t) (uns : UnsolvedFrom a meeting_time t) where
      -- the ways out of the search: past the limit, a demand past the limit, and one that is met
      pub met_past : limit < t → first_met periods costs n s own by a limit ≡ None
      met_past l = first_settles a limit ∙ past_from a (suc limit - a) meeting_time t uns (omega arith)

      pub met_over : t ≤ limit → limit < own + demand_from periods costs n s t → first_met periods costs n s own by a limit ≡ None
      met_over k l =
          first_settles a limit
          ∙ past_from a (suc limit - a) meeting_time (suc limit) (step_from a meeting_time t (suc limit) meeting_mono uns (omega (arith, meeting_over t))) (omega arith)

      pub met_here : t ≤ limit → meeting_time t ≤ t → first_met periods costs n s own by a limit ≡ Some t
      met_here l m = first_settles a limit ∙ rest_from a (suc limit - a) meeting_time t uns from (omega arith) m

      -- a step, and a jump
      pub met_step : (x : ℕ) → x ≡ meeting_time t → UnsolvedFrom a meeting_time x
      met_step x e = step_from a meeting_time t x meeting_mono uns (omega arith)

      pub met_jump : (x r : ℕ) → x ≡ meeting_time t → NoEarlier periods costs n s own by t x r → UnsolvedFrom a meeting_time r
      met_jump x r e far = jump_from a meeting_time t x r meeting_mono uns (omega arith) (λ v l k m. far.none_before v l k (met_enough v m))
