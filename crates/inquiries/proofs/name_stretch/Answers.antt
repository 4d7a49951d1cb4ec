-- `inquiries::name_stretch` meets its contract: the stretch of the name, or a refusal.
-- Assumes nothing.
use mathlib.Core.Path.{refl}
use Rattle.inquiries.specs.Stretch.{no_name}
use Rattle.inquiries.proofs.Named.{stretch_refused, stretch_given}
use Rattle.inquiries.proofs.name_stretch.Goals as goal

pub returns-in-Ok : goal.returns-in-Ok
returns-in-Ok c = stretch_given _ _ _ _ c.in-Ok.ensures.0 refl c.in-Ok.ensures.1

pub returns-in-Err : goal.returns-in-Err
unfolding no_name
returns-in-Err c = stretch_refused _ _ _ c.in-Err.ensures
