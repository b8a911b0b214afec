-- What is left of transactions that have ended: nothing.
use Rattle.std.specs.Prelude.{◌≡◌, ◌≢◌, ℕ, ◌<◌, List, [], is_some, true}
use Rattle.std.specs.List.{AllByRecursion}
use Rattle.lt_ranges.specs.Numbers.{is_in}
use Rattle.lt_seq.specs.Table.{Setting, tree_at}
use Rattle.lt_seq.specs.History.{after, IsLegal}
use Rattle.lt_trace.specs.Trace.{TraceView}
use Rattle.lt_trace.specs.Grammar.{IsTrace}
use Rattle.lt_runner.specs.Serial.{Game, turn_of, settles, setting_of, game_of}
use Rattle.lt_runner.specs.Steps.{IsInOrder}
use Rattle.lt_runner.specs.Due.{AllAreDue}

-- the transaction has no pair in any tree
abbrev pub HoldsNothing : Setting → ℕ → Game → Type 0
HoldsNothing setting txn game = (tree : ℕ) → AllByRecursion (λ p. p.owner ≢ txn) (tree_at (after setting game.events) tree).pairs

-- Where each pair overlaps what its owner recorded, or what is left of its release, one that has ended has no pair behind its release.
abbrev pub ReleasesLeaveNothing : Type 0
ReleasesLeaveNothing =
    (setting : Setting) (txns : List ℕ) (game : Game) (txn : ℕ) → 0 < setting.plan.passes
    → IsInOrder setting txns game → IsLegal setting game.events → AllAreDue setting game
    → is_in txn txns ≡ true → is_some (turn_of setting txn game.turns).outcome ≡ true
    → HoldsNothing setting txn (settles setting (turn_of setting txn game.turns) game)

-- So it is in the plain scheduler's run, at whose end no tree has a pair.
abbrev pub RunsLeaveNothing : Type 0
RunsLeaveNothing =
    (trace : TraceView) (first : ℕ) → IsTrace trace
    → (tree : ℕ) → (tree_at (after (setting_of trace 1 first) (game_of trace first).events) tree).pairs ≡ []
