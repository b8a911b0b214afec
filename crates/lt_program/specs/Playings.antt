-- Who plays a trace, and on which table.
use Rattle.std.specs.Prelude.{ℕ, ◌+◌, ◌≤◌, List, []}
use Rattle.lt_ranges.specs.declared.key.Key.{Key}
use Rattle.lt_seq.specs.Table.{Setting}
use Rattle.lt_trace.specs.Trace.{TraceView}
use Rattle.lt_runner.specs.Serial.{setting_of}
use Rattle.lt_crew.specs.RunCrew.{setting_with}
use Rattle.lt_program.specs.declared.player.Player.{Player}
use Rattle.lt_program.specs.declared.player.Player.TheVariants as players

-- the plain scheduler; a crew of so many workers; so many threads that wait for each other; a crew whose joins stop at marks
pub data Playing : Type 0 where
  serial : Playing
  crew : ℕ → Playing
  live : ℕ → Playing
  cut : ℕ → List Key → Playing

-- a player, with the marks of a barrier
abbrev pub playing_of : Player → List Key → Playing
playing_of players.Serial marks = serial
playing_of (players.Crew workers) marks = crew workers
playing_of (players.Live threads) marks = live threads
playing_of (players.Cut workers) marks = cut workers marks

-- there are 1 to 16 workers or threads
abbrev pub MayPlay : Player → Type 0
MayPlay players.Serial = Unit {0}
MayPlay (players.Crew workers) = (1 ≤ workers) × (workers ≤ 16)
MayPlay (players.Live threads) = (1 ≤ threads) × (threads ≤ 16)
MayPlay (players.Cut workers) = (1 ≤ workers) × (workers ≤ 16)

-- The table of a trace: a crew has a pass for each worker, and one for its caller; of threads that wait each has one.
abbrev pub table_of : Playing → TraceView → Setting
table_of serial trace = setting_of trace 1 0
table_of (crew workers) trace = setting_of trace (workers + 1) 0
table_of (live threads) trace = setting_of trace threads 0
table_of (cut workers marks) trace = setting_with trace (workers + 1) 0 marks
