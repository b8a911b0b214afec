-- What a transcript tells.
use Rattle.std.specs.Prelude.{◌≡◌}
use Rattle.lt_runner.specs.declared.transcript.Transcript.{Transcript}
use Rattle.lt_runner.specs.Serial.{Ran}

-- exactly what a run left
pub record Tells (ran : Ran) (transcript : Transcript) : Type 0 where
  pub receipts : transcript.receipts.items ≡ ran.receipts
  pub outcomes : transcript.outcomes.items ≡ ran.outcomes
  pub places : transcript.places ≡ ran.places
  pub used : transcript.used ≡ ran.used
