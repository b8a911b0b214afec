use Rattle.lt_manager.proofs.WatchLaws.{sound_on}
use Rattle.lt_manager.proofs.laws.passes_stay_sound.Goals as goal

pub returns : goal.returns
returns c = sound_on
