-- The partition that the struct `Part` holds.
--   partition_of p == the partition that the struct `Part` holds; counts and unused places of the struct occur here and in `tasks_of` alone
-- Assumes nothing.
use Rattle.std.specs.Prelude.{take}
use Rattle.task_set.specs.declared.Part.{Part}
use Rattle.task_set.specs.Partition.{Partition}
use Rattle.task_set.specs.Code.Tasks.{tasks_of}

abbrev pub partition_of : Part → Partition
partition_of p = record { period = p.period; tasks = tasks_of p; locks = p.locks; shared = take p.locks p.shared }
