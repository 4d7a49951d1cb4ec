-- What the constants hold: no names, and a task that was not read.
-- Assumes nothing.
use mathlib.Core.Path.{◌≡◌, refl}
use Rattle.least.specs.Lists.{pad}
use Rattle.task_set.specs.declared.Task.{Task}
use Rattle.plan_file.specs.declared.Names.{Names}
use Rattle.plan_file.specs.declared.TheConstants.{NO_NAMES, NO_TASK}
use Rattle.plan_file.specs.Code.Entries.{no_names, no_task_read}

pub no_names_is : NO_NAMES ≡ no_names
unfolding pad
no_names_is = refl

pub no_task_is : NO_TASK ≡ no_task_read
unfolding pad
no_task_is = refl
