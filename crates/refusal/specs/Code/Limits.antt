-- Places in the arrays of the code.
--   offer_places   == for the kept pairs of all parts
--   ceiling_places == for a number of each lock of every part
-- Assumes nothing.
use Rattle.std.specs.Prelude.{ℕ, ◌*◌}
use Rattle.refusal.specs.Limits.{part_limit, lock_limit, kept_limit}

abbrev pub offer_places : ℕ
offer_places = part_limit * kept_limit

abbrev pub ceiling_places : ℕ
ceiling_places = part_limit * lock_limit
